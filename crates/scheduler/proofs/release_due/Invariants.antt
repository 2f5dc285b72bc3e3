-- The invariant of `scheduler::release_due`: what the releases from the cursor on make of the state is what the whole list makes of
-- the first one.
use Rattle.std.proofs.Common.{◌≡◌, ◌+◌}
use Rattle.releases.specs.Packed.{releases_of}
use Rattle.scheduler.proofs.Releasing.{Releasing}
use Rattle.scheduler.proofs.release_due.Given as goal

abbrev pub invariant-loop-release : goal.invariant-loop-release
invariant-loop-release l = record {
  here : l.run.next ≡ l.fn.run.next + l.release-index;
  releasing : Releasing (releases_of l.releases) l.time.0 l.fn.run l.run;
}

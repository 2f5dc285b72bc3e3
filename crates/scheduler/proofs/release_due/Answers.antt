-- `scheduler::release_due` meets its contract: each release of this tick starts its job, the first of another tick ends the walk, and one
-- that meets an unfinished job ends the run.
use Rattle.std.proofs.Common.{arith, ap, ◌∙◌}
use Rattle.releases.specs.declared.Release.{Release}
use Rattle.scheduler.proofs.Releasing.{begins, one_more, ends, stops}
use Rattle.scheduler.proofs.Reached.{reached, passed_all, known}
use Rattle.scheduler.proofs.Tests.{other_if, same_if_not}
use Rattle.scheduler.proofs.release_due.Goals as goal

pub loop-release-init : goal.loop-release-init
loop-release-init c = record {
  here = omega arith;
  releasing = begins c.args.releases.now c.args.time c.args.run.now c.requires.listed c.requires.cursor;
}

pub overflow_sub-place : goal.overflow_sub-place
overflow_sub-place c =
    let r = reached c.args.releases.now _ _ _ c.loop-release.invariant.here c.loop-release-test.true in
    (known _ _ _ c.requires.listed r).low

pub bounds-run-place : goal.bounds-run-place
bounds-run-place c =
    let r = reached c.args.releases.now _ _ _ c.loop-release.invariant.here c.loop-release-test.true in
    let k = known _ _ _ c.requires.listed r in
    omega (arith, k.low, k.high)

pub loop-release-preserved : goal.loop-release-preserved
loop-release-preserved c =
    let s = c.args in
    let l = c.loop-release in
    let r = reached s.releases.now _ _ _ l.invariant.here c.loop-release-test.true in
    record {
      here = omega (arith, l.invariant.here);
      releasing = one_more s.releases.now s.time s.run.now c.requires.listed l.run l.invariant.releasing _ r.is r.listed
          (same_if_not _ _ _ c.ne.ensures c.if-ne.false) (same_if_not _ _ _ c.ne-in-loop-release.ensures c.if-ne-2.false);
    }

pub returns-after-loop-release : goal.returns-after-loop-release
returns-after-loop-release c =
    let s = c.args in
    let l = c.loop-release in
    let all = passed_all s.releases.now _ _ _ l.invariant.here c.loop-release-test.false in
    ends s.releases.now s.time s.run.now c.requires.listed l.run l.invariant.releasing (λ h _. omega arith)

pub returns-then-ne : goal.returns-then-ne
returns-then-ne c =
    let s = c.args in
    let l = c.loop-release in
    let r = reached s.releases.now _ _ _ l.invariant.here c.loop-release-test.true in
    ends s.releases.now s.time s.run.now c.requires.listed l.run l.invariant.releasing
    (λ _ e. other_if _ _ _ c.ne.ensures c.if-ne.true (ap (λ (w : Release). w.at.0) r.is ∙ e))

pub returns-then-ne-2 : goal.returns-then-ne-2
returns-then-ne-2 c =
    let s = c.args in
    let l = c.loop-release in
    let r = reached s.releases.now _ _ _ l.invariant.here c.loop-release-test.true in
    stops s.releases.now s.time s.run.now c.requires.listed l.run l.invariant.releasing _ r.is r.listed
    (same_if_not _ _ _ c.ne.ensures c.if-ne.false) (other_if _ _ _ c.ne-in-loop-release.ensures c.if-ne-2.true)

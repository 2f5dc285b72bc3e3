-- The invariant of `scheduler::dispatch`: the paper's table is what the walk still has to fill from here on, whatever the place.
use Rattle.std.proofs.Common.{◌≡◌, ◌≤◌}
use Rattle.paper.specs.Scheduler.{table}
use Rattle.paper.specs.Laws.Seats.{seats_from}
use Rattle.scheduler.specs.State.{units_left}
use Rattle.scheduler.proofs.dispatch.Given as goal

abbrev pub invariant-loop-i : goal.invariant-loop-i
invariant-loop-i l = record {
  walk : seats_from l.procs (units_left l.left) l.table l.seated l.i ≡ table l.procs (units_left l.left);
  few : l.seated ≤ l.procs;
}

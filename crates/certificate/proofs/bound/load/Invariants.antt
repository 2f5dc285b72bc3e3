-- The load of the tasks above, one after another: what is counted so far is the load of those passed, at most a million jobs of 1,000,099
-- each.
use Rattle.std.proofs.Common.{◌≡◌, ◌*◌, ◌≤◌, ℕ, List, take}
use Rattle.paper.specs.Certificate.{load, own}
use Rattle.quantity.specs.Quantity.{units}
use Rattle.board.specs.Packed.{tasks_of}
use Rattle.certificate.proofs.bound.load.Given as goal

abbrev pub invariant-loop-task : goal.invariant-loop-task
invariant-loop-task l = record {
  loaded : (speeds : List ℕ) → l.fastest.0 ≡ own speeds 0 → l.load ≡ units (load speeds (tasks_of (take l.task-index l.above)) l.window.0);
  light : l.load.0 ≤ 1000099000000 * l.task-index;
}

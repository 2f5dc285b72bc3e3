-- The walk over the tasks. After i tasks, all of which passed: their slacks are stored, their bounds are within their periods, and what
-- the walk from task i on comes to, with these slacks in front, is the whole verdict. The column search goes on while the columns before j
-- are covered.
use Rattle.std.proofs.Common.{◌≡◌}
use Rattle.std.specs.Prelude.{None}
use Rattle.paper.specs.Laws.Judging.{uncovered_from}
use Rattle.certificate.specs.Walked.{speeds_in, task_at, Walked}
use Rattle.certificate.proofs.judge_tasks.Given as goal

abbrev pub invariant-loop-i : goal.invariant-loop-i
invariant-loop-i l = Walked l.board l.slacks.items l.i

abbrev pub invariant-search : goal.invariant-search
invariant-search l = record {
  none : l.uncovered ≡ None;
  covered :
      uncovered_from (speeds_in l.board) (task_at l.board l.i) l.last l.j
      ≡ uncovered_from (speeds_in l.board) (task_at l.board l.i) l.last 0;
}

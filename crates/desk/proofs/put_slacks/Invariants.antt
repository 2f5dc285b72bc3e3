-- The slacks are put one after the other: before each turn the first `i` places hold the first `i` of them, the others what they had.
use Rattle.std.proofs.Common.{◌≡◌, ◌≤◌, length}
use Rattle.std.proofs.Math.Seq.{paste}
use Rattle.verdict.specs.Checks.{slack_numbers}
use Rattle.desk.proofs.put_slacks.Given as goal

abbrev pub invariant-loop-i : goal.invariant-loop-i
invariant-loop-i l = record {
  room : length l.slacks ≤ length l.initial.places;
  put : l.places ≡ paste l.initial.places 0 (slack_numbers l.slacks) l.i;
}

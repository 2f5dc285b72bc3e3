-- `legality` gives the paper's judgement. The invariant is the record Judging: what is left to judge comes to the whole, and each task's
-- place holds the tick from which it may be released again.
use Rattle.board.specs.Packed.{unpacked}
use Rattle.releases.specs.Packed.{releases_of}
use Rattle.releases.specs.Judging.{Judging}
use Rattle.releases.proofs.legal.legality.Given as goal

abbrev pub invariant-loop-p : goal.invariant-loop-p
invariant-loop-p l = Judging (unpacked l.board) (releases_of l.release-items) l.past l.p

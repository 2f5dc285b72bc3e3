-- A board's lines and then a list's are those of both.
use Rattle.std.proofs.Common.{rules, refl}
use Rattle.paper.specs.Run.{read_both}
use Rattle.text.specs.Reading.{reads_on, reads_bad, stops, stops_on, stopped, value_of, stops_before}
use Rattle.board.specs.Packed.{packed}
use Rattle.releases.specs.Packed.{packed_list}
use Rattle.releases.proofs.read.BothFromLines.from_lines.Goals as goal

pub returns-in_err-from_lines-clause-read : goal.returns-in_err-from_lines-clause-read
unfolding read_both
returns-in_err-from_lines-clause-read c =
    stopped _ _
    (reads_bad _
    (reads_bad _ (stops_before packed _ (stops _ _ _ c.in_err-from_lines.ensures.read))))
    (search rules)

pub returns-in_err-from_lines-2-clause-read : goal.returns-in_err-from_lines-2-clause-read
unfolding read_both
returns-in_err-from_lines-2-clause-read c =
    let board = value_of packed _ c.in_ok-from_lines.ensures.read in
    stopped _ _
    (reads_bad _
    (stops_on _ board.same
    (reads_bad _ (stops_before packed_list _ (stops _ _ _ c.in_err-from_lines-2.ensures.read)))))
    (search rules)

pub returns-clause-read : goal.returns-clause-read
unfolding read_both
returns-clause-read c =
    let board = value_of packed _ c.in_ok-from_lines.ensures.read in
    let list = value_of packed_list _ c.in_ok-from_lines-2.ensures.read in
    rw (board.made, list.made)
    (reads_on _
    (reads_on _ board.same
    (reads_on _ list.same
    refl))
    refl)

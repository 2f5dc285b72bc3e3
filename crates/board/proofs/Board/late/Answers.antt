-- Rule 4 is the paper's: the first late task is the one that is found.
use Rattle.std.proofs.Common.{sym, ap, ◌∙◌, option_map, suc, add-one}
use Rattle.board.specs.Packed.{unpacked}
use Rattle.board.specs.Rules.{late-position}
use Rattle.board.proofs.Board.late.Goals as goal

pub returns-in_err-above : goal.returns-in_err-above
unfolding unpacked
returns-in_err-above c =
    let all = c.as_slice.ensures.value in
    let e = rw all at c.in_err-above.ensures in
    c.from_residual.ensures ∙ ap (option_map suc) e ∙ sym (late-position _)

pub returns : goal.returns
unfolding unpacked
returns c =
    let all = c.as_slice.ensures.value in
    let e = rw all at c.in_ok-above.ensures in
    rw (add-one c.in_ok-above.above) (ap (option_map suc) e ∙ sym (late-position _))

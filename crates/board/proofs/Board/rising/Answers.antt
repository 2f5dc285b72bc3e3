-- Rule 3 is the paper's: the first processor that is faster is the one after the place that is found.
use Rattle.std.proofs.Common.{sym, ap, ◌∙◌, rules}
use Rattle.board.specs.First.{first_of}
use Rattle.board.specs.Packed.{unpacked}
use Rattle.board.specs.Rules.{rises_nowhere, rises-here}
use Rattle.board.proofs.Board.rising.Goals as goal

pub returns-in_err-before : goal.returns-in_err-before
unfolding unpacked
returns-in_err-before c =
    let e = c.in_err-before.ensures in
    let all = c.as_slice.ensures.value in
    c.from_residual.ensures ∙ ap first_of (sym (rises_nowhere _ (rw all at e)))

pub returns : goal.returns
unfolding unpacked
returns c =
    let e = c.in_ok-before.ensures in
    let all = c.as_slice.ensures.value in
    rw (rises-here _ _ (rw all at e)) (search rules)

-- The check follows the paper's: a bad line, a rising speed, or what the tasks come to.
use Rattle.std.proofs.Common.{sym, ◌∙◌}
use Rattle.std.proofs.lemmas.Result.{err_from_is_err_and}
use Rattle.board.specs.Back.{read_good, read_bad}
use Rattle.verdict.specs.Steps.{out_line, out_speed, tasks_decide}
use Rattle.verdict.proofs.check.Goals as goal

pub returns-in_err-board : goal.returns-in_err-board
returns-in_err-board c =
    let p = err_from_is_err_and c.from_residual.result c.from_residual.ensures.1 in
    rw (p.1, p.2) (out_line (read_bad c.args.text.now c.read_board.ensures c.in_err-board.was))

pub returns-in-Some : goal.returns-in-Some
returns-in-Some c =
    let h = read_good c.args.text.now c.read_board.ensures c.in_ok-board.was in
    out_speed h c.in-Some.processor (sym c.rising.ensures ∙ c.in-Some.is)

pub judge_tasks-requires : goal.judge_tasks-requires
judge_tasks-requires c = record { ranged = (read_good c.args.text.now c.read_board.ensures c.in_ok-board.was).within }

pub returns : goal.returns
returns c =
    let h = read_good c.args.text.now c.read_board.ensures c.in_ok-board.was in
    tasks_decide h (sym c.rising.ensures ∙ c.in_default.is) c.judge_tasks.ensures

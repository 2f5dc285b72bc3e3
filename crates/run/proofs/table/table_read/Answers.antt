-- `table_read` is the paper's table of the text that was read: what it held is prepared and shown, and a refusal is given as it is.
use Rattle.std.proofs.Common.{arith}
use Rattle.std.proofs.lemmas.Result.{err_from_is_err_and}
use Rattle.run.specs.Whole.{bad_line, bad_start, prepared, runs, shows_bad, shows_good}
use Rattle.run.proofs.table.table_read.Goals as goal

pub returns-in_err-both : goal.returns-in_err-both
returns-in_err-both c =
    let p = err_from_is_err_and c.from_residual.result c.from_residual.ensures.1 in
    λ bytes e lent. rw (p.1, p.2) (shows_bad _ 1000 _ (bad_line _ _ e c.in_err-both.was) lent (omega arith) _)

pub returns-in_err-prepare : goal.returns-in_err-prepare
returns-in_err-prepare c =
    let p = err_from_is_err_and c.from_residual-in_err-prepare.result c.from_residual-in_err-prepare.ensures.1 in
    λ bytes e lent. rw (p.1, p.2) (shows_bad _ 1000 _ (bad_start _ _ e c.in_ok-both.was _ c.in_err-prepare.ensures) lent (omega arith) _)

pub table_list-requires : goal.table_list-requires
table_list-requires c =
    let h = prepared c.requires.0 _ c.requires.1 c.in_ok-both.was _ c.in_ok-prepare.ensures in
    runs _ _ _ h _ c.deref.ensures.0 _ c.deref-2.ensures.0

pub returns : goal.returns
returns c = λ bytes e lent.
    let h = prepared bytes _ e c.in_ok-both.was _ c.in_ok-prepare.ensures in
    shows_good _ _ _ h _ c.deref.ensures.0 _ c.deref-2.ensures.0 (omega arith) _ lent _ c.table_list.ensures

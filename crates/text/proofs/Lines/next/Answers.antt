-- The line read is the paper's: the key's and the number's promises, chained through the paper's own steps.
use Rattle.std.proofs.Common.{◌≡◌, sym, arith}
use Rattle.std.proofs.lemmas.Option.{MatchOption-at_none, MatchOption-at_some}
use Rattle.std.proofs.lemmas.Result.{err_from_is_err_and}
use Rattle.text.specs.declared.BadLine.TheVariants.{Malformed}
use Rattle.text.specs.Lines.{line_of}
use Rattle.text.proofs.Laws.{one_other, one_none, one_low, one_high, one_in}
use Rattle.text.proofs.Lines.next.Goals as goal
use Rattle.text.proofs.Lines.next.Goals.{then-value-least-via-then-value-least, then-value-least-via-else-value-least+then-most-value}

-- another key
pub returns-in_err-left-clause-read : goal.returns-in_err-left-clause-read
returns-in_err-left-clause-read c =
    let a = c.args in
    let s = a.self.now in
    let l = line_of a.key.now a.least a.most in
    let e = MatchOption-at_none _ _ c.in_err-left.ensures.ok_part c.after_key.ensures in
    let f = rw c.in_err-left.ensures.ok_part at c.in_err-left.ensures.value in
    let g = err_from_is_err_and c.from_residual.result c.from_residual.ensures.1 in
    let m : g.0 ≡ Malformed s.number = cc (f, g.2) in
    rw (g.1, m) (sym (one_other l s.rest.now s.number e))

-- no number
pub returns-in_err-value-clause-read : goal.returns-in_err-value-clause-read
returns-in_err-value-clause-read c =
    let a = c.args in
    let s = a.self.now in
    let l = line_of a.key.now a.least a.most in
    let e = MatchOption-at_some _ _ _ c.in_ok-left.ensures.ok_part c.after_key.ensures in
    let n = MatchOption-at_none _ _ c.in_err-value.ensures.ok_part c.number_at.ensures in
    let f = rw c.in_err-value.ensures.ok_part at c.in_err-value.ensures.value in
    let g = err_from_is_err_and c.from_residual-in_err-value.result c.from_residual-in_err-value.ensures.1 in
    let m : g.0 ≡ Malformed s.number = cc (f, g.2) in
    rw (g.1, m) (sym (one_none l s.rest.now s.number e n))

-- out of its range
pub returns-then-value-least-clause-read : goal.returns-then-value-least-clause-read
returns-then-value-least-clause-read c =
    let a = c.args in
    let s = a.self.now in
    let l = line_of a.key.now a.least a.most in
    let e = MatchOption-at_some _ _ _ c.in_ok-left.ensures.ok_part c.after_key.ensures in
    let f = MatchOption-at_some _ _ _ c.in_ok-value.ensures.ok_part c.number_at.ensures in
    elim c.then-value-least.branch [
      | then-value-least-via-then-value-least w ↦ sym (one_low l s.rest.now s.number e f (omega arith))
      | then-value-least-via-else-value-least+then-most-value w ↦ sym (one_high l s.rest.now s.number e f (omega arith) (omega arith))
    ]

-- in its range
pub returns-clause-read : goal.returns-clause-read
returns-clause-read c =
    let a = c.args in
    let s = a.self.now in
    let l = line_of a.key.now a.least a.most in
    let e = MatchOption-at_some _ _ _ c.in_ok-left.ensures.ok_part c.after_key.ensures in
    let f = MatchOption-at_some _ _ _ c.in_ok-value.ensures.ok_part c.number_at.ensures in
    sym (one_in l s.rest.now s.number e f (omega arith) (omega arith))

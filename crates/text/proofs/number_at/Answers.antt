-- A number is the paper's: its first digit decides how many more there may be.
use Rattle.std.proofs.Common.{arith}
use Rattle.text.proofs.Laws.{number_short, number_low, number_high, number_zero, number_more}
use Rattle.text.proofs.number_at.Goals as goal
use Rattle.text.proofs.number_at.Goals.{in_default-via-then-first-lt48, in_default-via-else-first-lt48+else-first-lt58}

pub returns-in_err-first : goal.returns-in_err-first
returns-in_err-first c = rw c.from_residual.ensures (number_short c.args.rest.now c.in_err-first.ensures.cases)

-- a zero
pub returns-in-48 : goal.returns-in-48
returns-in-48 c = rw (number_zero c.in_ok-first.ensures.cases.0 c.in-48.is) c.digits.ensures

-- another digit
pub returns-in-49-to-57 : goal.returns-in-49-to-57
returns-in-49-to-57 c =
    let e = number_more c.in_ok-first.ensures.cases.0 (λ z. omega arith) (omega arith) (omega arith) in
    rw (e, ← c.from.ensures) c.digits-in-49-to-57.ensures

pub returns-in_default : goal.returns-in_default
returns-in_default c =
    let e = c.in_ok-first.ensures.cases.0 in
    elim c.in_default.branch [
      | in_default-via-then-first-lt48 w ↦ number_low e (omega arith)
      | in_default-via-else-first-lt48+else-first-lt58 w ↦ number_high e (omega arith)
    ]

-- Credit: the most that a job of x units is still given, its last tick counted whole. These laws are all that any promise
-- uses of `charge` and `need`: whoever changes these two proves the laws again, and nothing else. Assumes nothing.
use Rattle.std.specs.Prelude.{◌≡◌, refl, List, ℕ, zero, suc, ◌+◌, ◌-◌, ◌≤◌, ◌<◌}
use Rattle.std.proofs.Common.{arith}
use Rattle.paper.specs.Certificate.{own, fastest, charge, need}
use Rattle.paper.specs.Laws.Sums.{if_any}
use Rattle.paper.specs.Laws.Credit.{credit}

pub credit_none : (speeds : List ℕ) → credit speeds 0 ≡ 0
unfolding credit if_any
credit_none speeds = refl

-- an unfinished job has its last tick before it, which may be one at the top speed
pub credit_last : (speeds : List ℕ) (x : ℕ) → 0 < x → fastest speeds ≤ credit speeds x
unfolding credit if_any charge
credit_last speeds zero h = absurd (omega arith)
credit_last speeds (suc x) h = omega arith

-- a tick on processor j takes at least that processor's speed of the credit
pub credit_falls : (speeds : List ℕ) (x j : ℕ) → own speeds j ≤ fastest speeds
    → credit speeds (x - if_any x (own speeds j)) + if_any x (own speeds j) ≤ credit speeds x
unfolding credit if_any charge
credit_falls speeds zero j h = omega arith
credit_falls speeds (suc x) j h = go (suc x - own speeds j) refl
  where
    go : (y : ℕ) → suc x - own speeds j ≡ y → if_any y (charge speeds y) + own speeds j ≤ charge speeds (suc x)
    go zero e = omega arith
    go (suc y) e = omega arith

-- a job within c is charged what c is charged
pub credit-charge : (speeds : List ℕ) (x c : ℕ) → x ≤ c → credit speeds x ≤ charge speeds c
unfolding credit if_any charge
credit-charge speeds zero c h = omega arith
credit-charge speeds (suc x) c h = omega arith

-- while a job of c units is unfinished it has been given at most `need c`: the charge less one tick at the top speed
pub charge-need : (speeds : List ℕ) (c : ℕ) → 0 < c → charge speeds c ≡ need speeds c + fastest speeds
unfolding charge need
charge-need speeds c h = omega arith

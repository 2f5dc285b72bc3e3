-- What the derived order of ticks and units tells of their numbers.
use Rattle.std.proofs.Common.{◌≡◌, Bool, true, false, ℕ, ◌<◌, ◌≤◌, arith, sym, ◌∙◌, is_lt, nat_cmp}
use Rattle.std.proofs.lemmas.Bool.Decides.{nat_tests}
use Rattle.std.proofs.lemmas.Map.Keys.{ge_from_not_lt}

pub less : (a b : ℕ) {r : Bool} → r ≡ is_lt (nat_cmp a b) → r ≡ true → a < b
less a b {r} e t = grind (arith, nat_tests)

pub not_less : (a b : ℕ) {r : Bool} → r ≡ is_lt (nat_cmp a b) → r ≡ false → b ≤ a
not_less a b e f = ge_from_not_lt a b (sym e ∙ f)

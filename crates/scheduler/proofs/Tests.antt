-- What a test of a quantity tells of its number. Assumes nothing.
use Rattle.std.specs.Prelude.{◌≡◌, ℕ, Bool, true, false, not, eqb}
use Rattle.std.proofs.Common.{arith}
use Rattle.std.proofs.lemmas.Bool.Decides.{nat_tests}

module _ (r : Bool) (x y : ℕ) where
  pub other_if : r ≡ not (eqb x y) → r ≡ true → x ≡ y → ⊥
  other_if e t same = grind (arith, nat_tests)

  pub same_if_not : r ≡ not (eqb x y) → r ≡ false → x ≡ y
  same_if_not e t = grind (arith, nat_tests)

  pub same_if : r ≡ eqb x y → r ≡ true → x ≡ y
  same_if e t = grind (arith, nat_tests)

  pub other_if_not : r ≡ eqb x y → r ≡ false → x ≡ y → ⊥
  other_if_not e t same = grind (arith, nat_tests)

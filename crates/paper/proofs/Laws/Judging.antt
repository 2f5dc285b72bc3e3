-- The rules one at a time: what a task comes to once its tests are known, and the first uncovered column, seen from the middle of the search.
-- Assumes nothing.
use Rattle.std.specs.Prelude.{◌≡◌, refl, true, false, List, [], ◌∷◌, ◌++◌, length}
use Rattle.std.proofs.Common.{append_assoc}
use Prim.Native.Nat.{ℕ, suc, ◌+◌, ◌*◌, ◌-◌, ◌≤◌, ◌<◌, min}
use Rattle.std.proofs.Math.Nat.{sub-zero}
use Rattle.std.proofs.Math.Numerals.{add-one}
use native.Mathlib.Omega.{arith}
use borrow.Author.Tests.{le-leb, lt-leb, lt-ltb, le-ltb}
use Rattle.paper.specs.Board.{Task}
use Rattle.paper.specs.Certificate.{covered, first_uncovered, demand, slack, broken, judge, Verdict, accepted, refused, with_slack, followed_by, walk}
use Rattle.paper.specs.declared.Refusal.{Refusal}
use Rattle.paper.specs.declared.Refusal.TheVariants.{DeadlineAbovePeriod, BoundAboveDeadline, ColumnUncovered, BoundFails}
use Rattle.paper.specs.Laws.Judging.{uncovered_from, prefixed}

-- columns j to M, M being the last
module _ (speeds : List ℕ) (k : Task) (M : ℕ) where
  pub column-covered : (j : ℕ) → j ≤ M → covered speeds k j ≡ true → uncovered_from speeds k M j ≡ uncovered_from speeds k M (j + 1)
  unfolding first_uncovered
  column-covered j h e =
      let d : suc M - j ≡ suc (suc M - (j + 1)) = omega arith in
      rw (d, e, add-one j)

  pub column_uncovered : (j : ℕ) → j ≤ M → covered speeds k j ≡ false → uncovered_from speeds k M j ≡ j
  unfolding first_uncovered
  column_uncovered j h e =
      let d : suc M - j ≡ suc (suc M - (j + 1)) = omega arith in
      rw (d, e)

  pub columns_end : (j : ℕ) → M < j → uncovered_from speeds k M j ≡ j
  unfolding first_uncovered
  columns_end j h =
      let d : suc M - j ≡ 0 = omega arith in
      rw d

-- one task
module _ (speeds : List ℕ) (above : List Task) (k : Task) where
  abbrev M : ℕ
  M = min (length speeds) (length above)

  pub judge_deadline : k.t < k.d → judge speeds above k ≡ broken (DeadlineAbovePeriod (suc (length above)))
  unfolding judge
  judge_deadline d = rw (lt-ltb k.t k.d d)

  pub judge-bound : k.d ≤ k.t → k.d < k.r → judge speeds above k ≡ broken (BoundAboveDeadline (suc (length above)))
  unfolding judge
  judge-bound d r = rw (le-ltb k.t k.d d, lt-ltb k.d k.r r)

  pub judge-column : k.d ≤ k.t → k.r ≤ k.d → (j : ℕ) → j ≤ M → uncovered_from speeds k M 0 ≡ j
      → judge speeds above k ≡ broken (ColumnUncovered (suc (length above)) j)
  unfolding judge
  judge-column d r j h e =
      let f : first_uncovered speeds k 0 (suc M) ≡ j = rw sub-zero at e in
      rw (le-ltb k.t k.d d, le-ltb k.d k.r r, f, le-leb j M h)

  module _ (d : k.d ≤ k.t) (r : k.r ≤ k.d) (j : ℕ) (h : M < j) (e : uncovered_from speeds k M 0 ≡ j) where
    f : first_uncovered speeds k 0 (suc M) ≡ j
    f = rw sub-zero at e

    pub judge_fails : k.q * k.r ≤ demand speeds above k → judge speeds above k ≡ broken (BoundFails (suc (length above)))
    unfolding judge
    judge_fails b = rw (le-ltb k.t k.d d, le-ltb k.d k.r r, f, lt-leb j M h, le-ltb (demand speeds above k) (k.q * k.r) b)

    pub judge_passes : demand speeds above k < k.q * k.r → judge speeds above k ≡ slack (k.q * k.r - demand speeds above k)
    unfolding judge
    judge_passes b = rw (le-ltb k.t k.d d, le-ltb k.d k.r r, f, lt-leb j M h, lt-ltb (demand speeds above k) (k.q * k.r) b)

-- the walk from its middle

pub prefixed_none : (v : Verdict) → prefixed [] v ≡ v
unfolding prefixed
prefixed_none (refused a) = refl
prefixed_none (accepted slacks) = refl

-- a task that passes adds its slack
pub prefixed_more : (passed : List ℕ) (x : ℕ) (v : Verdict) → prefixed passed (with_slack x v) ≡ prefixed (passed ++ (x ∷ [])) v
unfolding prefixed with_slack
prefixed_more passed x (refused a) = refl
prefixed_more passed x (accepted slacks) = rw append_assoc

module _ (speeds : List ℕ) (passed : List ℕ) (above : List Task) (k : Task) (below : List Task) where
  pub walk_on : (x : ℕ) → judge speeds above k ≡ slack x
      → prefixed passed (walk speeds above (k ∷ below)) ≡ prefixed (passed ++ (x ∷ [])) (walk speeds (above ++ (k ∷ [])) below)
  unfolding walk followed_by
  walk_on x e = rw e (prefixed_more passed x (walk speeds (above ++ (k ∷ [])) below))

  pub walk_breaks : (a : Refusal) → judge speeds above k ≡ broken a → prefixed passed (walk speeds above (k ∷ below)) ≡ refused a
  unfolding walk followed_by prefixed
  walk_breaks a e = rw e

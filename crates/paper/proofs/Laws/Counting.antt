-- Counting: how many releases of one task fall into so many ticks, from the gaps between their marks. A mark is the tick
-- from which gaps are measured, and a release comes at most `late` ticks after its mark. Assumes nothing.
use Rattle.std.specs.Prelude.{◌≡◌}
use Rattle.std.proofs.Math.Path.{ap}
use Rattle.std.proofs.Common.{◌∙◌, add-zero, add-suc, suc-add, add_assoc, le_refl, le-div_iff_mul-le}
use Prim.Native.Nat.{ℕ, zero, suc, ◌+◌, ◌*◌, ◌-◌, ◌≤◌, ◌<◌}
use Rattle.std.proofs.Math.Nat.{le_dest}
use native.Mathlib.Omega.{arith}
use Rattle.paper.specs.Basics.{rounded_up}
use Rattle.paper.specs.Board.{Task}
use Rattle.paper.specs.Certificate.{jobs}
use Rattle.paper.proofs.Laws.Tests.{on_zero, on_le}
use Rattle.paper.specs.Laws.Sums.{total, any}
use Rattle.paper.proofs.Laws.Sums.{total_front, any_none, any_some}
use Rattle.paper.specs.Laws.Counting.{count, Sporadic, lateness}

pub count_front : (f : ℕ → ℕ) (a L : ℕ) → count f a (suc L) ≡ any (f a) + count f (suc a) L
count_front f a L = total_front (λ e. any (f (a + e))) L ∙ simp (add-zero, add-suc, suc-add)

pub count_split : (f : ℕ → ℕ) (a p L : ℕ) → count f a (p + L) ≡ count f a p + count f (a + p) L
unfolding total
count_split f a p zero = rw (add-zero p) (omega arith)
count_split f a p (suc L) =
    rw (add-suc p L) (omega (arith, count_split f a p L, ap (λ x. any (f x)) (add_assoc a p L)))

pub count_more : (f : ℕ → ℕ) (a L M : ℕ) → L ≤ M → count f a L ≤ count f a M
count_more f a L M h = let d = le_dest h in omega (arith, count_split f a L d.0, ap (count f a) d.1)

module _ {t late : ℕ} {released mark : ℕ → ℕ} (s : Sporadic t late released mark) where
  -- each release from x on, before z, pushes the mark of z one period further
  pushed : (x L z : ℕ) → 0 < released x → 0 < released z → x + L ≤ z → mark x + count released x L * t ≤ mark z
  unfolding total
  pushed x zero z p q h =
      on_le z x
      (λ k. let e : x ≡ z = omega arith in omega (arith, ap mark e))
      (λ k. omega (arith, s.gap x z k p q))
  pushed x (suc L) z p q h =
      on_zero (released (x + L))
      (λ e. rw (any_none 1 e) (omega (arith, pushed x L z p q (omega arith))))
      (λ k. rw (any_some 1 k) (omega (arith, pushed x L (x + L) p k (le_refl (x + L)), s.gap (x + L) z (omega arith) k q)))

  -- ticks that begin with a release
  count-from : (x L : ℕ) → 0 < released x → count released x L * t < L + late + t
  unfolding total
  count-from x zero p = omega (arith, s.period)
  count-from x (suc L) p =
      on_zero (released (x + L))
      (λ e. rw (any_none 1 e) (omega (arith, count-from x L p)))
      (λ k. rw (any_some 1 k) (omega (arith, pushed x L (x + L) p k (le_refl (x + L)), s.by x p, s.after (x + L) k)))

  -- any ticks
  count_in_lem : (a L : ℕ) → count released a L * t < L + late + t
  unfolding total
  count_in_lem a zero = omega (arith, s.period)
  count_in_lem a (suc L) =
      on_zero (released a)
      (λ e. rw (count_front released a L, any_none 1 e) (omega (arith, count_in_lem (suc a) L)))
      (λ k. count-from a (suc L) k)

  -- the ceiling lemma: L ticks hold at most (L + late) / t releases, rounded up
  pub at_most : (a L : ℕ) → count released a L ≤ rounded_up (L + late) t
  unfolding rounded_up
  at_most a L = (le-div_iff_mul-le s.period).1 (omega (arith, count_in_lem a L))

-- the releases of task k within R + r − 1 ticks number at most its job count in R ticks
pub at_most_jobs : (k : Task) {released mark : ℕ → ℕ} → Sporadic k.t (lateness k) released mark
    → (a R : ℕ) → count released a (R + k.r - 1) ≤ jobs R k
unfolding jobs
at_most_jobs k s a R = omega (arith, at_most s a (R + k.r - 1), ap (λ L. rounded_up L k.t) (add-zero (R + k.r - 1)))

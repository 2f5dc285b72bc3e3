-- One task place over the ticks: what it is given, by the laws of credit alone. Assumes nothing.
use Rattle.std.specs.Prelude.{◌≡◌, List}
use Rattle.std.proofs.Math.Path.{ap}
use Prim.Native.Nat.{ℕ, zero, suc, ◌+◌, ◌*◌, ◌≤◌, ◌<◌}
use Rattle.std.proofs.Math.Nat.{add-zero}
use Rattle.std.proofs.Common.{add-suc}
use native.Mathlib.Omega.{arith}
use Rattle.paper.specs.Certificate.{own, fastest, charge, need}
use Rattle.paper.proofs.Laws.Tests.{on_zero}
use Rattle.paper.specs.Laws.Sums.{total, if_any, any}
use Rattle.paper.proofs.Laws.Sums.{any_some}
use Rattle.paper.specs.Laws.Credit.{credit}
use Rattle.paper.proofs.Laws.Credit.{credit_none, credit_last, credit_falls, credit-charge, charge-need}
use Rattle.paper.specs.Laws.Counting.{count}
use Rattle.paper.specs.Laws.Flow.{renewed, given, held, Follows}
use Rattle.paper.proofs.Laws.Flow.{renewed_none, renewed_some}
use Rattle.promises.specs.Place.{offer}

module _ {speeds : List ℕ} {rel left : ℕ → ℕ → ℕ} (F : Follows speeds rel left) where
  -- work only takes away
  pub sinks : (k a : ℕ) → left (suc a) k ≤ held rel left a k
  sinks k a = omega (arith, F.step a k)

  module _ (fast : (j : ℕ) → own speeds j ≤ fastest speeds) (k c : ℕ) (small : (a : ℕ) → rel a k ≤ c) where
    -- each tick is paid out of the credit
    paid : (a : ℕ) → credit speeds (left (suc a) k) + given speeds (held rel left a) k ≤ credit speeds (held rel left a k)
    unfolding given
    paid a = rw (F.step a k) (credit_falls speeds (held rel left a k) _ (fast _))

    small_held : (a : ℕ) → left a k ≤ c → held rel left a k ≤ c
    small_held a h =
        on_zero (rel a k)
        (λ e. omega (arith, renewed_none (left a k) e))
        (λ s. omega (arith, renewed_some (left a k) s, small a))

    small_left : (a : ℕ) → left a k ≤ c
    small_left zero = omega (arith, F.start k)
    small_left (suc a) = omega (arith, sinks k a, small_held a (small_left a))

    -- a release adds at most its charge
    renews : (u x : ℕ) → u ≤ c → credit speeds (renewed u x) ≤ credit speeds x + any u * charge speeds c
    unfolding if_any renewed
    renews zero x h = omega arith
    renews (suc u) x h = omega (arith, credit-charge speeds (suc u) c h)

    -- given in the L ticks from w: the credit brought in, and a charge for each release in them
    spent : (w L : ℕ) → total (λ e. given speeds (held rel left (w + e)) k) L + credit speeds (left (w + L) k)
        ≤ credit speeds (left w k) + count (λ a. rel a k) w L * charge speeds c
    unfolding total
    spent w zero = rw add-zero (omega arith)
    spent w (suc L) =
        rw (add-suc w L)
        (omega (arith, spent w L, paid (w + L), renews (rel (w + L) k) (left (w + L) k) (small (w + L))))

    -- what is brought in is at most one charge
    brought : (w : ℕ) → credit speeds (left w k) ≤ any (left w k) * charge speeds c
    brought w =
        on_zero (left w k)
        (λ e. omega (arith, credit_none speeds, ap (credit speeds) e))
        (λ h. rw (any_some 1 h) (omega (arith, credit-charge speeds (left w k) c (small_left w))))

    -- so a charge for each job that can run in these ticks
    pub given_in : (w L : ℕ)
        → total (λ e. given speeds (held rel left (w + e)) k) L ≤ (any (left w k) + count (λ a. rel a k) w L) * charge speeds c
    given_in w L = omega (arith, spent w L, brought w)

    -- a job that is not complete after a tick took all that it was offered in it
    offered : (a : ℕ) → 0 < left (suc a) k → offer speeds rel left k a + credit speeds (left (suc a) k) ≤ credit speeds (held rel left a k)
    unfolding given
    offered a h = let e = any_some {x = held rel left a k} (offer speeds rel left k a) (omega (arith, sinks k a)) in omega (arith, paid a, e)

    offered_in : (a L : ℕ) → ((e : ℕ) → 0 < e → e ≤ L → rel (a + e) k ≡ 0) → 0 < left (a + suc L) k
        → total (λ e. offer speeds rel left k (a + e)) (suc L) + credit speeds (left (a + suc L) k) ≤ charge speeds c
    unfolding total
    offered_in a zero quiet h =
        rw (add-suc a 0, add-zero a)
        (omega (arith, offered a (rw (add-suc a 0, add-zero a) at h), credit-charge speeds _ c (small_held a (small_left a))))
    offered_in a (suc L) quiet h =
        let o = offered (a + suc L) (rw (add-suc a (suc L)) at h) in
        let e = renewed_none (left (a + suc L) k) (quiet (suc L) (omega arith) (omega arith)) in
        rw (add-suc a (suc L))
        (omega
        (arith, o, ap (credit speeds) e, offered_in a L (λ d p l. quiet d p (omega arith)) (omega (arith, sinks k (a + suc L), rw (add-suc a (suc L)) at h, e))))

    -- what a job was offered from its release at a on, while it is not complete and no other is released: its need
    pub unfinished : (a L : ℕ) → 0 < c → ((e : ℕ) → 0 < e → e ≤ L → rel (a + e) k ≡ 0) → 0 < left (a + suc L) k
        → total (λ e. offer speeds rel left k (a + e)) (suc L) ≤ need speeds c
    unfinished a L pos quiet h = omega (arith, offered_in a L quiet h, credit_last speeds (left (a + suc L) k) h, charge-need speeds c pos)

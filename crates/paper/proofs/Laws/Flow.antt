-- The scheduler over functions: what each task place has left before each tick, from what is released to it. Assumes nothing.
use Rattle.std.specs.Prelude.{◌≡◌, refl, List, ℕ, zero, suc, ◌+◌, ◌-◌, ◌≤◌, ◌<◌}
use Rattle.std.proofs.Common.{sym, ap, ◌∙◌, add-zero, le_refl, add-one, arith}
use Rattle.std.proofs.Math.Path.{fun_ext}
use Rattle.paper.proofs.Laws.Tests.{on_zero}
use Rattle.paper.specs.Certificate.{S, own}
use Rattle.paper.specs.Laws.Sums.{total, if_any}
use Rattle.paper.proofs.Laws.Sums.{any_none, any_some, S-total}
use Rattle.paper.specs.Laws.Flow.{renewed, rank, given, held, Follows, remaining}

pub renewed_none : {u : ℕ} (x : ℕ) → u ≡ 0 → renewed u x ≡ x
unfolding renewed
renewed_none x e = rw e

pub renewed_some : {u : ℕ} (x : ℕ) → 0 < u → renewed u x ≡ u
unfolding renewed
renewed_some {u = zero} x h = omega arith
renewed_some {u = suc u} x h = refl

pub renewed_twice : (u v x : ℕ) → renewed (renewed u v) x ≡ renewed u (renewed v x)
unfolding renewed
renewed_twice zero v x = refl
renewed_twice (suc u) v x = refl

pub rank_le : (x : ℕ → ℕ) (k : ℕ) → rank x k ≤ k
unfolding rank total
rank_le x zero = le_refl 0
rank_le x (suc k) = on_zero (x k) (λ e. omega (arith, rank_le x k, any_none 1 e)) (λ h. omega (arith, rank_le x k, any_some 1 h))

-- the places before i are given the speeds of as many processors as have a job among them
pub given-total : (speeds : List ℕ) (x : ℕ → ℕ) (i : ℕ) → total (given speeds x) i ≡ S speeds (rank x i)
unfolding rank total given if_any
given-total speeds x i = go i ∙ sym (S-total speeds (rank x i))
  where
    next : (u r n : ℕ) → n ≡ total (own speeds) r → n + if_any u (own speeds r) ≡ total (own speeds) (r + if_any u 1)
    next zero r n e = rw (add-zero r) (omega arith)
    next (suc u) r n e = rw (add-one r) (omega arith)

    go : (i : ℕ) → total (given speeds x) i ≡ total (own speeds) (rank x i)
    go zero = refl
    go (suc i) = next (x i) (rank x i) (total (given speeds x) i) (go i)

-- what is left before a tick depends on the releases before it alone
module _ {speeds : List ℕ} {rel left rel' left' : ℕ → ℕ → ℕ} (F : Follows speeds rel left) (F' : Follows speeds rel' left') where
  pub follows_same : (H : ℕ) → ((a : ℕ) → a < H → (k : ℕ) → rel a k ≡ rel' a k) → (a : ℕ) → a ≤ H → (k : ℕ) → left a k ≡ left' a k
  follows_same H same zero h k = F.start k ∙ sym (F'.start k)
  follows_same H same (suc a) h k =
      let before : (i : ℕ) → left a i ≡ left' a i = follows_same H same a (omega arith) in
      let e : held rel left a ≡ held rel' left' a = fun_ext (λ i. rw (same a h i, before i)) in
      F.step a k ∙ ap (λ (x : ℕ → ℕ). x k - given speeds x k) e ∙ sym (F'.step a k)

pub follows : (speeds : List ℕ) (rel : ℕ → ℕ → ℕ) → Follows speeds rel (remaining speeds rel)
unfolding remaining
follows speeds rel = record { start = λ k. refl; step = λ a k. refl }

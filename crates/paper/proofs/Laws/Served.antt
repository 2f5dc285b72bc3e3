-- The work of a tick: the table of eight says as much as the ranks, and each place loses the speed of its rank. Assumes nothing.
use Rattle.std.specs.Prelude.{◌≡◌, refl, length, take, replicate}
use Rattle.std.proofs.Math.Path.{ap}
use Rattle.std.proofs.Common.{◌∙◌, zero-add, arith, length-append}
use mathlib.Core.List.{List, [], ◌∷◌, ◌++◌, append_assoc}
use Prim.Native.Nat.{ℕ, zero, suc, ◌+◌, ◌-◌, ◌<◌}
use Rattle.std.proofs.Math.ListN.{get_or}
use Rattle.std.proofs.Math.Seq.{set_at, get_or_at}
use Rattle.paper.specs.Laws.Sums.{total, if_any, any}
use Rattle.paper.proofs.Laws.Sums.{total_front}
use Rattle.paper.specs.Scheduler.{State, ready, table, worked, work}
use Rattle.paper.specs.Laws.Flow.{rank, given}
use Rattle.paper.specs.Laws.Served.{served, left_of}

-- empty seats give nobody work
idle_seats : (speeds : List ℕ) (n a : ℕ) (x : State) → work speeds (replicate n 0) a x ≡ x
unfolding work
idle_seats [] n a x = refl
idle_seats (s ∷ speeds) zero a x = refl
idle_seats (s ∷ speeds) (suc n) a x = idle_seats speeds n a x

work-seats : (speeds seats : List ℕ) (n a : ℕ) (x : State)
    → work speeds (take (length speeds) seats ++ replicate n 0) a x ≡ work speeds seats a x
unfolding work
work-seats [] seats n a x = refl
work-seats (s ∷ speeds) [] n a x = idle_seats (s ∷ speeds) n a x
work-seats (s ∷ speeds) (zero ∷ seats) n a x = work-seats speeds seats n a x
work-seats (s ∷ speeds) (suc k ∷ seats) n a x = work-seats speeds seats n a (worked x k s a)

-- the table of eight says as much as the ranks: those past the last processor wait
pub work-table : (speeds : List ℕ) (a : ℕ) (x : State) (left : List ℕ)
    → work speeds (table (length speeds) left) a x ≡ work speeds (ready 1 left) a x
unfolding table
work-table speeds a x left = work-seats speeds (ready 1 left) (8 - length (take (length speeds) (ready 1 left))) a x

-- what is kept when one ready job has worked is kept by the work of a tick, one seat after the other
module _ (a : ℕ) (P : State → Type 0) (keeps : (x : State) (k s : ℕ) → 0 < left_of x k → P x → P (worked x k s a)) where
  work-from : (speeds : List ℕ) (k : ℕ) (before left : List ℕ) (x : State) → length before ≡ k → x.left ≡ before ++ left → P x
      → P (work speeds (ready (suc k) left) a x) × ((work speeds (ready (suc k) left) a x).left ≡ before ++ served speeds left)
  unfolding work ready served worked
  work-from [] k before left x e f h = (h, f)
  work-from (s ∷ speeds) k before [] x e f h = (h, f)
  work-from (s ∷ speeds) k before (zero ∷ left) x e f h =
      simp append_assoc at
      (work-from (s ∷ speeds) (suc k) (before ++ (0 ∷ [])) left x (length-append before (0 ∷ []) ∙ omega (arith, e)) (f ∙ simp append_assoc) h)
  work-from (s ∷ speeds) k before (suc u ∷ left) x e f h =
      let g : left_of x k ≡ suc u = ap (λ (y : List ℕ). get_or y k 0) f ∙ get_or_at before (suc u) left 0 k e in
      simp append_assoc at
      (work-from speeds (suc k) (before ++ ((suc u - s) ∷ [])) left (worked x k s a)
      (length-append before ((suc u - s) ∷ []) ∙ omega (arith, e))
      (rw (g, f, set_at before (suc u) left (suc u - s) k e) (simp append_assoc))
      (keeps x k s (omega (arith, g)) h))

  pub work_keeps : (speeds : List ℕ) (x : State) → P x → P (work speeds (ready 1 x.left) a x)
  work_keeps speeds x h = (work-from speeds 0 [] x.left x refl refl h).0

pub work-served : (speeds : List ℕ) (a : ℕ) (x : State) → (work speeds (ready 1 x.left) a x).left ≡ served speeds x.left
work-served speeds a x = (work-from a (λ _. Unit) (λ _ _ _ _ _. tt) speeds 0 [] x.left x refl refl tt).1

rank_front : (x : ℕ → ℕ) (i : ℕ) → rank x (suc i) ≡ any (x 0) + rank (λ k. x (suc k)) i
unfolding rank
rank_front x i = total_front (λ k. any (x k)) i

-- each place has lost what its rank is given
pub served-at : (speeds left : List ℕ) (i : ℕ) → get_or (served speeds left) i 0 ≡ get_or left i 0 - given speeds (λ k. get_or left k 0) i
unfolding served given if_any rank total
served-at [] left i = go (get_or left i 0)
  where
    go : (x : ℕ) → x ≡ x - if_any x 0
    go zero = omega arith
    go (suc x) = omega arith
served-at (s ∷ speeds) [] i = omega arith
served-at (s ∷ speeds) (zero ∷ left) zero = omega arith
served-at (s ∷ speeds) (zero ∷ left) (suc i) = rw (rank_front (λ k. get_or (zero ∷ left) k 0) i, zero-add) (served-at (s ∷ speeds) left i)
served-at (s ∷ speeds) (suc u ∷ left) zero = refl
served-at (s ∷ speeds) (suc u ∷ left) (suc i) =
    let e : rank (λ k. get_or (suc u ∷ left) k 0) (suc i) ≡ suc (rank (λ k. get_or left k 0) i) = omega (arith, rank_front (λ k. get_or (suc u ∷ left) k 0) i) in
    rw e (served-at speeds left i)

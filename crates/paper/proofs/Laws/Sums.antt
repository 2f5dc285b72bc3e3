-- Finite sums of functions on numbers, and the columns of the certificate as such sums. Assumes nothing.
use Rattle.std.specs.Prelude.{◌≡◌, refl, List, [], ◌∷◌, map, ℕ, zero, suc, ◌+◌, ◌≤◌, ◌<◌, min, length, take, get_or}
use Rattle.std.proofs.Common.{sym, ap, ◌∙◌, le_refl, arith, take_all}
use Rattle.std.proofs.Math.ListN.{get_or-eq_default}
use Rattle.std.proofs.Math.Seq.{take-length, take-nil}
use Rattle.paper.proofs.Laws.Tests.{on_le}
use Rattle.paper.specs.Basics.{sum}
use Rattle.paper.specs.Board.{Task}
use Rattle.paper.specs.Accepted.{Covered}
use Rattle.paper.specs.Certificate.{S, own}
use Rattle.paper.specs.Laws.Sums.{total, if_any}

pub total_le : (f g : ℕ → ℕ) (n : ℕ) → ((k : ℕ) → k < n → f k ≤ g k) → total f n ≤ total g n
unfolding total
total_le f g zero h = le_refl 0
total_le f g (suc n) h = omega (arith, total_le f g n (λ k l. h k (omega arith)), h n (omega arith))

pub total_ext : (f g : ℕ → ℕ) (n : ℕ) → ((k : ℕ) → k < n → f k ≡ g k) → total f n ≡ total g n
unfolding total
total_ext f g zero h = refl
total_ext f g (suc n) h = omega (arith, total_ext f g n (λ k l. h k (omega arith)), h n (omega arith))

pub total_front : (f : ℕ → ℕ) (n : ℕ) → total f (suc n) ≡ f 0 + total (λ k. f (suc k)) n
unfolding total
total_front f zero = omega arith
total_front f (suc n) = omega (arith, total_front f n)

pub total_add : (f g : ℕ → ℕ) (n : ℕ) → total (λ k. f k + g k) n ≡ total f n + total g n
unfolding total
total_add f g zero = refl
total_add f g (suc n) = omega (arith, total_add f g n)

-- sums over ticks and over tasks change places
pub total_swap : (f : ℕ → ℕ → ℕ) (n p : ℕ) → total (λ a. total (λ b. f a b) p) n ≡ total (λ b. total (λ a. f a b) n) p
unfolding total
total_swap f zero zero = refl
total_swap f zero (suc p) = omega (arith, total_swap f zero p)
total_swap f (suc n) p = ap (λ x. x + total (f n) p) (total_swap f n p) ∙ sym (total_add (λ b. total (λ a. f a b) n) (f n) p)

pub any_none : {x : ℕ} (n : ℕ) → x ≡ 0 → if_any x n ≡ 0
unfolding if_any
any_none n e = rw e

pub any_some : {x : ℕ} (n : ℕ) → 0 < x → if_any x n ≡ n
unfolding if_any
any_some {x = zero} n h = omega arith
any_some {x = suc x} n h = refl

-- a sum over the first tasks of a list is a sum over their places
pub sum-take : {A : Type 0} (f : A → ℕ) (none : A) (l : List A) (i : ℕ) → i ≤ length l → sum (map f (take i l)) ≡ total (λ k. f (get_or l k none)) i
unfolding sum total
sum-take f none l zero h = refl
sum-take f none [] (suc i) h = absurd (omega arith)
sum-take f none (x ∷ l) (suc i) h =
    rw (total_front (λ k. f (get_or (x ∷ l) k none)) i) (ap (λ n. f x + n) (sum-take f none l i (omega arith)))

-- S_j is the sum of the own speeds of the columns before j
pub S-total : (speeds : List ℕ) (j : ℕ) → S speeds j ≡ total (own speeds) j
unfolding S sum total
S-total speeds zero = refl
S-total [] (suc j) = omega (arith, S-total [] j, ap sum (take-nil j))
S-total (x ∷ speeds) (suc j) = rw (total_front (own (x ∷ speeds)) j) (ap (λ n. x + n) (S-total speeds j))

-- past the last processor: no own speed, and S stays
pub own_past : (speeds : List ℕ) (j : ℕ) → length speeds ≤ j → own speeds j ≡ 0
own_past speeds j h = get_or-eq_default speeds 0 h

pub S-past : (speeds : List ℕ) (j : ℕ) → length speeds ≤ j → S speeds j ≡ S speeds (length speeds)
unfolding S
S-past speeds j h = ap sum (take_all j speeds h ∙ sym (take-length speeds))

-- columns past m equal column m, so that those up to the smaller of m and h stand for all up to h
pub all_columns : (speeds : List ℕ) (k : Task) (h : ℕ) → ((j : ℕ) → j ≤ min (length speeds) h → Covered speeds k j) → (j : ℕ) → j ≤ h → Covered speeds k j
all_columns speeds k h c j l =
    let m = length speeds in
    on_le j m
    (λ g. c j (omega arith))
    (λ g.
    rw (S-past speeds j (omega arith), own_past speeds j (omega arith))
    (rw (own_past speeds m (le_refl m)) at (c m (omega arith))))

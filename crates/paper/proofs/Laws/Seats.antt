-- Laws of who sits where: a walk over the task places fills the table seat by seat, and no seat holds a task past the last.
-- Assumes nothing.
use Rattle.std.specs.Prelude.{◌≡◌, refl, get_or, drop, set, replicate}
use Rattle.std.proofs.Common.{sym, ap, ◌∙◌, arith, sub-eq-zero_of_le, length-take, drop_of_length-le, drop-cons}
use Prim.Native.Nat.{ℕ, zero, suc, ◌+◌, ◌-◌, ◌≤◌, ◌<◌}
use Rattle.std.proofs.Math.Nat.{sub-zero, zero-sub, suc-sub-suc, zero-add}
use mathlib.Core.List.{List, [], ◌∷◌, ◌++◌}
use Rattle.std.proofs.Math.ListN.{length, take}
use Rattle.std.proofs.lemmas.List.Edits.{sets, sets-eq}
use Rattle.std.proofs.Math.Seq.{take-nil}
use Rattle.paper.specs.Scheduler.{ready, table}
use Rattle.paper.specs.Laws.Seats.{seats_from}

drop-replicate : (n m : ℕ) → drop {A = ℕ} n (replicate m 0) ≡ replicate (m - n) 0
drop-replicate zero m = rw sub-zero
drop-replicate (suc n) zero = rw (zero-sub (suc n))
drop-replicate (suc n) (suc m) = rw suc-sub-suc (drop-replicate n m)

-- place i + 1 of the walk
ready_empty : (k u : ℕ) (left : List ℕ) → u ≡ 0 → ready k (u ∷ left) ≡ ready (suc k) left
unfolding ready
ready_empty k u left e = rw e

ready-seated : (k u : ℕ) (left : List ℕ) → (u ≡ 0 → ⊥) → ready k (u ∷ left) ≡ k ∷ ready (suc k) left
unfolding ready
ready-seated k zero left e = absurd (e refl)
ready-seated k (suc u) left e = refl

ready_end : (k : ℕ) → ready k [] ≡ []
unfolding ready
ready_end k = refl

module _ (m : ℕ) (left : List ℕ) where
  pub seats_begin : m ≤ 8 → seats_from m left (replicate 8 0) 0 0 ≡ table m left
  unfolding table
  seats_begin h =
      let seated : List ℕ = take m (ready 1 left) in
      let short : 0 + length seated ≤ 8 = rw (length-take m (ready 1 left)) (omega arith) in
      rw sub-zero (sets-eq seated (replicate 8 0) 0 short ∙ rw zero-add (ap (λ (l : List ℕ). seated ++ l) (drop-replicate (length seated) 8)))

  module _ (t : List ℕ) (n i : ℕ) where
    pub seats_empty : i < length left → get_or left i 0 ≡ 0 → seats_from m left t n (suc i) ≡ seats_from m left t n i
    seats_empty h e =
        ap (λ (l : List ℕ). sets t n (take (m - n) l)) (sym (ap (ready (suc i)) (drop-cons left i 0 h) ∙ ready_empty (suc i) (get_or left i 0) (drop (suc i) left) e))

    pub seats_taken : i < length left → (get_or left i 0 ≡ 0 → ⊥) → n < m → seats_from m left (set t n (suc i)) (suc n) (suc i) ≡ seats_from m left t n i
    seats_taken h e l =
        let d : m - n ≡ suc (m - suc n) = omega arith in
        sym (ap (λ (l : List ℕ). sets t n (take (m - n) l)) (ap (ready (suc i)) (drop-cons left i 0 h) ∙ ready-seated (suc i) (get_or left i 0) (drop (suc i) left) e) ∙ rw d)

    pub seats_full : m ≤ n → seats_from m left t n i ≡ t
    seats_full h = rw (sub-eq-zero_of_le h)

    pub seats_end : length left ≤ i → seats_from m left t n i ≡ t
    seats_end h = rw (drop_of_length-le left h, ready_end, take-nil)

-- no element is above n
abbrev AtMost : ℕ → List ℕ → Type 0
AtMost n xs = (i : ℕ) → get_or xs i 0 ≤ n

most_ready : (k : ℕ) (left : List ℕ) → AtMost (k + length left) (ready (suc k) left)
unfolding ready
most_ready k [] i = omega arith
most_ready k (zero ∷ left) i = let h = most_ready (suc k) left i in omega arith
most_ready k (suc u ∷ left) zero = omega arith
most_ready k (suc u ∷ left) (suc i) = let h = most_ready (suc k) left i in omega arith

most_take : (n m : ℕ) (xs : List ℕ) → AtMost n xs → AtMost n (take m xs)
most_take n zero xs h i = omega arith
most_take n (suc m) [] h i = omega arith
most_take n (suc m) (x ∷ xs) h zero = h 0
most_take n (suc m) (x ∷ xs) h (suc i) = most_take n m xs (λ j. h (suc j)) i

most_zeros : (n m : ℕ) → AtMost n (replicate m 0)
most_zeros n zero i = omega arith
most_zeros n (suc m) zero = omega arith
most_zeros n (suc m) (suc i) = most_zeros n m i

most_append : (n : ℕ) (xs ys : List ℕ) → AtMost n xs → AtMost n ys → AtMost n (xs ++ ys)
most_append n [] ys h k i = k i
most_append n (x ∷ xs) ys h k zero = h 0
most_append n (x ∷ xs) ys h k (suc i) = most_append n xs ys (λ j. h (suc j)) k i

-- who sits is a task place
pub seat_known : (m : ℕ) (left : List ℕ) (i : ℕ) → get_or (table m left) i 0 ≤ length left
unfolding table
seat_known m left i =
    let seated : List ℕ = take m (ready 1 left) in
    let zeros : List ℕ = replicate (8 - length seated) 0 in
    let all : AtMost (0 + length left) (ready 1 left) = most_ready 0 left in
    let h : get_or (seated ++ zeros) i 0 ≤ 0 + length left = most_append (0 + length left) seated zeros (most_take _ m _ all) (most_zeros (0 + length left) (8 - length seated)) i in
    omega (arith, h)

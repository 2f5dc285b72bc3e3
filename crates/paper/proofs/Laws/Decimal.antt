-- Laws of decimal digits and of printed lines. Assumes nothing.
use Rattle.std.specs.Prelude.{ℕ, zero, suc, ◌+◌, ◌-◌, ◌/◌, ◌%◌, ◌^◌, ◌≤◌, ◌<◌, ◌≡◌, List, [], ◌∷◌, ◌++◌, length, take, get_or}
use Prim.Native.String.{String}
use Rattle.std.proofs.Common.{sym, ap, ◌∙◌, append_assoc, append-nil, arith, div-lt_iff_lt-mul, pow-suc, length-append, lt-ltb, le-ltb}
use Rattle.paper.proofs.Laws.Tests.{on_ltb}
use Rattle.paper.specs.Basics.{decimal_in}
use Rattle.paper.specs.Output.{printed, printed_all}

-- one digit
pub decimal-one : (most n : ℕ) → 0 < most → n < 10 → decimal_in most n ≡ (48 + n) ∷ []
unfolding decimal_in
decimal-one zero n h l = absurd (omega arith)
decimal-one (suc most) n h l = rw (lt-ltb n 10 l)

-- the digits before the last, and the last
pub decimal_more : (most n : ℕ) → 0 < most → 10 ≤ n → decimal_in most n ≡ decimal_in (most - 1) (n / 10) ++ ((48 + n % 10) ∷ [])
unfolding decimal_in
decimal_more zero n h l = absurd (omega arith)
decimal_more (suc most) n h l = let e : suc most - 1 ≡ most = omega arith in rw (le-ltb n 10 l, e)

-- a number with more than one digit allows more than one
pub decimal-rest : (most n : ℕ) → n < 10 ^ most → 10 ≤ n → 0 < most → (n / 10 < 10 ^ (most - 1)) × (0 < most - 1)
decimal-rest zero n l g h = absurd (omega arith)
decimal-rest (suc zero) n l g h = absurd (omega arith)
decimal-rest (suc (suc most)) n l g h =
    let e : suc (suc most) - 1 ≡ suc most = omega arith in
    rw e (let p : 0 < 10 = omega arith in (div-lt_iff_lt-mul {k = 10} p).1 (rw (pow-suc 10 (suc most)) at l), omega arith)

-- never more digits than allowed
pub decimal-length : (most n : ℕ) → length (decimal_in most n) ≤ most
unfolding decimal_in
decimal-length zero n = omega arith
decimal-length (suc most) n =
    on_ltb (λ (l : List ℕ). length l ≤ suc most) n 10 _ _
    (λ _. omega arith)
    (λ _. omega (arith, decimal-length most (n / 10), length-append (decimal_in most (n / 10)) ((48 + n % 10) ∷ [])))

-- printed lines

-- one line more
pub printed_more : (key : String) (ns : List ℕ) (i : ℕ) → i < length ns → printed_all key (take (suc i) ns) ≡ printed_all key (take i ns) ++ printed key (get_or ns i 0)
unfolding printed_all
printed_more key [] i h = absurd (omega arith)
printed_more key (n ∷ ns) zero h = append-nil (printed key n)
printed_more key (n ∷ ns) (suc i) h =
    ap (λ (l : List ℕ). printed key n ++ l) (printed_more key ns i (omega arith))
    ∙ sym (append_assoc (printed key n) (printed_all key (take i ns)) (printed key (get_or ns i 0)))

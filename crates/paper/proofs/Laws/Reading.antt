-- Laws of readers: what a reader ensures of its value, and that it looks no further than it reads. Assumes nothing.
use Rattle.std.specs.Prelude.{◌≡◌, refl, cond, List, [], ◌∷◌, ◌++◌, length, get_or, leb, eqb}
use Rattle.std.proofs.Common.{sym, ap, subst, ◌∙◌}
use Prim.Native.Nat.{ℕ, zero, suc, ◌+◌, ◌-◌, ◌*◌, ◌<◌}
use native.Mathlib.Omega.{arith}
use Rattle.paper.proofs.Laws.Tests.{on_leb, on_both}
use Rattle.paper.specs.Text.{Damage, malformed, out_of_range, Read, good, bad, Reader, and_then, ◌>>=◌, give, Line, After, after, other_key, after_key, Number, number, no_number, digit, digits, number_at, ranged, numbered, one, times, at_end, whole}
use Rattle.paper.specs.Laws.Reading.{Reads, Each, In}

-- a bad line is no good one
pub not_good : {A B : Type 0} (damage : Damage) (k : ℕ) (a : A) (rest : List ℕ) (n : ℕ) → ◌≡◌ {A = Read A} (bad damage k) (good a rest n) → B
not_good damage k a rest n e = let z : ◌≡◌ {A = ℕ} 0 1 = cc in absurd (omega arith)

pub reads_give : {A : Type 0} {P : A → Type 0} (a : A) → P a → Reads (give a) P
reads_give {P = P} a h = record { ensures = λ s n a' rest n' e. subst P (cc) h; alone = λ s n a' rest n' e more. cc }

pub reads_then : {A B : Type 0} {m : Reader A} {f : A → Reader B} {P : A → Type 0} {Q : B → Type 0}
    → Reads m P → ((a : A) → P a → Reads (f a) Q) → Reads (m >>= f) Q
unfolding and_then
reads_then {A} {B} {m} {f} {P} {Q} h g =
    record { ensures = λ s n b rest n' e. first s n b rest n' (m s n) refl e; alone = λ s n b rest n' e more. second s n b rest n' more (m s n) refl e }
  where
    first : (s : List ℕ) (n : ℕ) (b : B) (rest : List ℕ) (n' : ℕ) (r : Read A) → m s n ≡ r → and_then r f ≡ good b rest n' → Q b
    first s n b rest n' (good a s' k) i e = (g a (h.ensures s n a s' k i)).ensures s' k b rest n' e
    first s n b rest n' (bad damage k) i e = not_good damage k b rest n' e

    second : (s : List ℕ) (n : ℕ) (b : B) (rest : List ℕ) (n' : ℕ) (more : List ℕ) (r : Read A) → m s n ≡ r → and_then r f ≡ good b rest n'
        → and_then (m (s ++ more) n) f ≡ good b (rest ++ more) n'
    second s n b rest n' more (good a s' k) i e =
        rw (h.alone s n a s' k i more) ((g a (h.ensures s n a s' k i)).alone s' k b rest n' e more)
    second s n b rest n' more (bad damage k) i e = not_good damage k b rest n' e

pub reads_times : {A : Type 0} {m : Reader A} {P : A → Type 0} (none : A) → Reads m P → (n : ℕ) → Reads (times n m) (Each none P n)
unfolding times
reads_times none h zero = reads_give [] (record { count = refl; each = λ i l. absurd (omega arith) })
reads_times {A} {m} {P} none h (suc n) =
    reads_then h
    (λ a p. reads_then (reads_times none h n) (λ xs q. reads_give (a ∷ xs) (record { count = ap suc q.count; each = first a xs p q.each })))
  where
    first : (a : A) (xs : List A) → P a → ((i : ℕ) → i < length xs → P (get_or xs i none)) → (i : ℕ) → i < length (a ∷ xs) → P (get_or (a ∷ xs) i none)
    first a xs p q zero l = p
    first a xs p q (suc i) l = q i (omega arith)

-- reading on after reading on, either way bracketed
pub then_assoc : {A B C : Type 0} (r : Read A) (f : A → Reader B) (g : B → Reader C) → and_then (and_then r f) g ≡ and_then r (λ a. f a >>= g)
unfolding and_then
then_assoc (good a s n) f g = refl
then_assoc (bad damage n) f g = refl

-- readers that agree go on alike
pub then_ap : {A B : Type 0} (r : Read A) (f g : A → Reader B) → ((a : A) (s : List ℕ) (n : ℕ) → f a s n ≡ g a s n) → and_then r f ≡ and_then r g
unfolding and_then
then_ap (good a s n) f g h = h a s n
then_ap (bad damage n) f g h = refl

-- and after a counted list they have to agree on lists of that length only
pub times_ap : {A B : Type 0} (m : Reader A) (k : ℕ) (f g : List A → Reader B) → ((xs : List A) (s : List ℕ) (n : ℕ) → length xs ≡ k → f xs s n ≡ g xs s n)
    → (s : List ℕ) (n : ℕ) → and_then (times k m s n) f ≡ and_then (times k m s n) g
unfolding and_then times
times_ap m zero f g h s n = h [] s n refl
times_ap m (suc k) f g h s n =
    then_assoc (m s n) (λ x. times k m >>= λ xs. give (x ∷ xs)) f
    ∙ then_ap (m s n) _ _ (λ x s n.
    then_assoc (times k m s n) (λ xs. give (x ∷ xs)) f
    ∙ times_ap m k (λ xs. f (x ∷ xs)) (λ xs. g (x ∷ xs)) (λ xs s n e. h (x ∷ xs) s n (ap suc e)) s n
    ∙ sym (then_assoc (times k m s n) (λ xs. give (x ∷ xs)) g))
    ∙ sym (then_assoc (m s n) (λ x. times k m >>= λ xs. give (x ∷ xs)) g)

abbrev AloneKey : List ℕ → After → After → Type 0
AloneKey more x y = (rest : List ℕ) → x ≡ after rest → y ≡ after (rest ++ more)

key_alone : (key s more : List ℕ) → AloneKey more (after_key key s) (after_key key (s ++ more))
unfolding after_key
key_alone [] s more = λ rest e. cc
key_alone (k ∷ key) [] more = λ rest e. let z : ◌≡◌ {A = ℕ} 0 1 = cc in absurd (omega arith)
key_alone (k ∷ key) (x ∷ s) more =
    on_both (AloneKey more) (eqb x k) (key_alone key s more) (λ rest e. let z : ◌≡◌ {A = ℕ} 0 1 = cc in absurd (omega arith))

abbrev AloneNumber : List ℕ → Number → Number → Type 0
AloneNumber more x y = (v : ℕ) (rest : List ℕ) → x ≡ number v rest → y ≡ number v (rest ++ more)

no_number_lem : (more : List ℕ) (y : Number) → AloneNumber more no_number y
no_number_lem more y v rest e = let z : ◌≡◌ {A = ℕ} 0 1 = cc in absurd (omega arith)

digits_alone : (n v : ℕ) (s more : List ℕ) → AloneNumber more (digits n v s) (digits n v (s ++ more))
unfolding digits
digits_alone n v [] more = no_number_lem more _
digits_alone zero v (x ∷ s) more = on_both (AloneNumber more) (eqb x 10) (λ w rest e. cc) (no_number_lem more _)
digits_alone (suc n) v (x ∷ s) more =
    on_both (AloneNumber more) (eqb x 10) (λ w rest e. cc)
    (on_both (AloneNumber more) (digit x) (digits_alone n (v * 10 + (x - 48)) s more) (no_number_lem more _))

number_alone : (s more : List ℕ) → AloneNumber more (number_at s) (number_at (s ++ more))
unfolding number_at
number_alone [] more = no_number_lem more _
number_alone (x ∷ s) more =
    on_both (AloneNumber more) (digit x) (digits_alone (cond (eqb x 48) 0 6) (x - 48) s more) (no_number_lem more _)

module _ (l : Line) (n : ℕ) where
  ranged_in : (x : Number) (v : ℕ) (rest : List ℕ) (n' : ℕ) → ranged l n x ≡ good v rest n' → In l.least l.most v
  unfolding ranged
  ranged_in no_number v rest n' = not_good malformed n v rest n'
  ranged_in (number w s) v rest n' =
      let P : Read ℕ → Type 0 = λ r. r ≡ good v rest n' → In l.least l.most v in
      let no : P (bad out_of_range n) = not_good out_of_range n v rest n' in
      on_leb P l.least w _ _
      (λ g. on_leb P w l.most _ _ (λ h e. let i : w ≡ v = cc in record { low = omega arith; high = omega arith }) (λ _. no))
      (λ _. no)

  abbrev AloneRead : List ℕ → Read ℕ → Read ℕ → Type 0
  AloneRead more x y = (v : ℕ) (rest : List ℕ) (n' : ℕ) → x ≡ good v rest n' → y ≡ good v (rest ++ more) n'

  no_read : (damage : Damage) (more : List ℕ) (y : Read ℕ) → AloneRead more (bad damage n) y
  no_read damage more y v rest n' e = not_good damage n v rest n' e

  ranged_alone : (more : List ℕ) (x y : Number) → AloneNumber more x y → AloneRead more (ranged l n x) (ranged l n y)
  unfolding ranged
  ranged_alone more no_number y h = no_read malformed more _
  ranged_alone more (number w s) y h =
      rw (h w s refl)
      (on_both (AloneRead more) (leb l.least w)
      (on_both (AloneRead more) (leb w l.most) (λ v rest n' e. cc) (no_read out_of_range more _))
      (no_read out_of_range more _))

  numbered_in : (x : After) (v : ℕ) (rest : List ℕ) (n' : ℕ) → numbered l n x ≡ good v rest n' → In l.least l.most v
  unfolding numbered
  numbered_in other_key v rest n' e = not_good malformed n v rest n' e
  numbered_in (after s) v rest n' e = ranged_in (number_at s) v rest n' e

  numbered_alone : (more : List ℕ) (x y : After) → AloneKey more x y → AloneRead more (numbered l n x) (numbered l n y)
  unfolding numbered
  numbered_alone more other_key y h = no_read malformed more _
  numbered_alone more (after s) y h = rw (h s refl) (ranged_alone more (number_at s) (number_at (s ++ more)) (number_alone s more))

-- a line's number is in its range
pub reads_one : (l : Line) → Reads (one l) (In l.least l.most)
unfolding one
reads_one l = record {
  ensures = λ s n v rest n' e. numbered_in l n (after_key l.key s) v rest n' e;
  alone = λ s n v rest n' e more. numbered_alone l n more (after_key l.key s) (after_key l.key (s ++ more)) (key_alone l.key s more) v rest n' e;
}

-- a whole input is read to its end
pub whole-good : {A : Type 0} (m : Reader A) (s : List ℕ) (a : A) (rest : List ℕ) (n : ℕ) → whole m s ≡ good a rest n
    → (m s 1 ≡ good a rest n) × (rest ≡ [])
unfolding whole at_end
whole-good {A} m s a rest n =
    on_leb (λ (r : Read A). r ≡ good a rest n → (m s 1 ≡ good a rest n) × (rest ≡ [])) (length s) 65536 _ _
    (λ _. ends (m s 1))
    (λ _. not_good malformed 0 a rest n)
  where
    ends : (r : Read A) → at_end r ≡ good a rest n → (r ≡ good a rest n) × (rest ≡ [])
    ends (bad damage k) = not_good damage k a rest n
    ends (good v [] k) = λ e. (e, cc)
    ends (good v (x ∷ t) k) = not_good malformed k a rest n

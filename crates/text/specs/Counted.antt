-- What is read by count, in the paper's values. Assumes nothing.
use Rattle.std.specs.Prelude.{◌≡◌, refl, ℕ, zero, suc, List, ◌∷◌, map}
use Rattle.std.proofs.Common.{sym, ap, subst, ◌∙◌}
use Rattle.paper.specs.Text.{Read, good, Reader, and_then, give, times}
use Rattle.paper.proofs.Laws.Reading.{then_assoc, then_ap}
use Rattle.arrayvec.specs.ArrayVec.{ArrayVec}
use Rattle.series.specs.Series.{Series}
use Rattle.text.specs.declared.BadLine.{BadLine}
use Rattle.text.specs.Lines.{held}
use Rattle.text.specs.Many.{array_of, series_of}
use Rattle.text.specs.Reading.{Stops, Made, value_of, stops_before}

module _ {A C : Type 0} (make : A → C) (m : Reader A) where
  -- each value made as it is read, or all of them afterwards
  times_held : (n : ℕ) (s : List ℕ) (k : ℕ) → times n (held make m) s k ≡ and_then (times n m s k) (λ xs. give (map make xs))
  unfolding and_then times
  times_held zero s k = refl
  times_held (suc n) s k =
      then_assoc (m s k) _ _
      ∙ then_ap (m s k) _ _ (λ a s k.
      ap (λ (r : Read (List C)). and_then r (λ xs. give (make a ∷ xs))) (times_held n s k)
      ∙ then_assoc (times n m s k) _ _
      ∙ sym (then_assoc (times n m s k) _ _))
      ∙ sym (then_assoc (m s k) _ _)

  -- in whatever the code holds a list
  all_held : {V : Type 0} (hold : List C → V) (n : ℕ) (s : List ℕ) (k : ℕ)
      → held hold (times n (held make m)) s k ≡ and_then (times n m s k) (λ xs. give (hold (map make xs)))
  unfolding and_then
  all_held hold n s k = ap (λ (r : Read (List C)). and_then r (λ xs. give (hold xs))) (times_held n s k) ∙ then_assoc (times n m s k) _ _

  -- the values, as the code holds them
  abbrev pub all_of : List A → ArrayVec C
  all_of values = array_of (map make values)

  -- the same in a series
  abbrev pub all_in_series : List A → Series C
  all_in_series values = series_of (map make values)

  module _ (n : ℕ) (s : List ℕ) (k : ℕ) where
    all_made : held array_of (times n (held make m)) s k ≡ and_then (times n m s k) (λ xs. give (all_of xs))
    all_made = all_held array_of n s k

    pub counted : {items : ArrayVec C} {rest : List ℕ} {next : ℕ} → good items rest next ≡ held array_of (times n (held make m)) s k
        → Made all_of (times n m s k) items rest next
    counted e = value_of all_of (times n m s k) (e ∙ all_made)

    pub stops_counted : {line : BadLine} → Stops line (held array_of (times n (held make m)) s k) → Stops line (times n m s k)
    stops_counted {line} e = stops_before all_of (times n m s k) (subst (Stops line) all_made e)

    series_made : held series_of (times n (held make m)) s k ≡ and_then (times n m s k) (λ xs. give (all_in_series xs))
    series_made = all_held series_of n s k

    pub counted_in_series : {items : Series C} {rest : List ℕ} {next : ℕ}
        → good items rest next ≡ held series_of (times n (held make m)) s k
        → Made all_in_series (times n m s k) items rest next
    counted_in_series e = value_of all_in_series (times n m s k) (e ∙ series_made)

    pub stops_in_series : {line : BadLine} → Stops line (held series_of (times n (held make m)) s k) → Stops line (times n m s k)
    stops_in_series {line} e = stops_before all_in_series (times n m s k) (subst (Stops line) series_made e)

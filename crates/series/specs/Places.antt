-- Laws of the places of a series. Assumes nothing.
use Rattle.std.specs.Prelude.{◌≡◌, ℕ, ◌+◌, ◌-◌, ◌<◌, ◌≤◌, List, ◌++◌, length, take, drop, set, replicate}
use Rattle.std.specs.List.{refill}
use Rattle.std.proofs.Common.{sym, ap, ◌∙◌, arith, length-set, length-take-le, append-nil}
use Rattle.std.proofs.Common.{take_all, take-append-drop, drop-set-lt, drop_of_length-le}
use Rattle.std.proofs.lemmas.List.{drop-drop, drop-replicate}
use Rattle.series.specs.Series.{filled, Filled}

module _ {T : Type 0} (n : ℕ) (blank : T) (count : ℕ) (all : List T) (h : Filled n blank count all) where
  pub length-items : length (take count all) ≡ count
  length-items = length-take-le count all (omega arith)

  -- the items alone say what stands in every place
  pub filled-items : filled n blank (take count all) ≡ all
  filled-items =
      ap (λ (k : ℕ). take count all ++ replicate (n - k) blank) length-items
      ∙ ap (λ (l : List T). take count all ++ l) (sym h.spare)
      ∙ take-append-drop count all

  -- one item more, after the others or in place of one
  pub filled_more : (item : T) (at : ℕ) → at ≤ count → length (take count all) < n → Filled n blank (count + 1) (set all at item)
  filled_more item at low room =
      let now = length-items in
      let left : n - count - 1 ≡ n - (count + 1) = omega arith in
      record {
        few = omega arith;
        places = length-set all at item ∙ h.places;
        spare =
            drop-set-lt (count + 1) all at item (omega arith)
            ∙ sym (drop-drop 1 count all)
            ∙ ap (drop 1) h.spare
            ∙ drop-replicate 1 (n - count) blank
            ∙ ap (λ (k : ℕ). replicate k blank) left;
      }

-- a write of as many items as there are leaves what was written
pub refill_same : {T : Type 0} (items written : List T) → length written ≡ length items → refill (length items) items written ≡ written
refill_same {T} items written h =
    ap (λ (l : List T). take (length items) (written ++ l)) (drop_of_length-le items (omega arith))
    ∙ ap (take (length items)) (append-nil written)
    ∙ take_all (length items) written (omega arith)

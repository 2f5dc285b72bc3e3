-- What a contract sees of a `Series`, and what stands in its places.
use Rattle.std.specs.Prelude.{◌≡◌, ℕ, ◌-◌, ◌≤◌, List, ◌++◌, length, take, drop, replicate}
use Rattle.std.specs.List.{refill}

-- the items, in order
pub record Series (T : Type 0) : Type 0 where
  pub items : List T

module _ {T : Type 0} where
  module _ (n : ℕ) (blank : T) where
    -- the items in the first of n places, and blanks in the others
    abbrev pub filled : List T → List T
    filled items = items ++ replicate (n - length items) blank

    -- of n places the first `count` hold items, and the others hold blanks
    pub record Filled (count : ℕ) (all : List T) : Type 0 where
      pub few : count ≤ n
      pub places : length all ≡ n
      pub spare : drop count all ≡ replicate (n - count) blank

  -- a series after a write of its items as a slice, which keeps their number
  abbrev pub with_items : Series T → List T → Series T
  with_items v written = record { items = refill (length v.items) v.items written }

  -- places after such a write of the first `count` of them
  abbrev pub rewritten : ℕ → List T → List T → List T
  rewritten count all written = refill (length (take count all)) (take count all) written ++ drop count all

-- The tables of the columns, filled one column after another, and that no own speed is above 100. Assumes nothing.
use Rattle.std.specs.Prelude.{◌≡◌, refl, List, ℕ, ◌+◌, ◌*◌, ◌≤◌, ◌<◌, length, get_or, set, replicate}
use Rattle.std.proofs.Common.{add-one, arith, length-set, get_or-set_same, get_or-set_other}
use Rattle.paper.specs.Basics.{sum}
use Rattle.paper.proofs.Laws.Tests.{on_le}
use Rattle.paper.proofs.Laws.Loads.{S-next}
use Rattle.paper.specs.Certificate.{S, own}
use Rattle.quantity.specs.Quantity.{speed, speeds_of}
use Rattle.quantity.specs.Speeds.{speed_inside, speed_outside}
use Rattle.quantity.specs.declared.Speed.{Speed}
use Rattle.certificate.specs.declared.columns.Column.{Column}
use Rattle.certificate.specs.Columns.{Slow, no_column}

pub own_slow : (speeds : List Speed) (j : ℕ) → Slow speeds → own (speeds_of speeds) j ≤ 100
own_slow speeds j slow =
    on_le (length speeds) j
    (λ h. omega (arith, speed_outside speeds j h))
    (λ h. omega (arith, speed_inside speeds j, slow.each j h))

-- the tables, filled up to column j
pub record Filled (speeds : List ℕ) (columns : List Column) (sum j : ℕ) : Type 0 where
  pub count : length columns ≡ 9
  pub sums_below : (k : ℕ) → k < j → (get_or columns k no_column).sum.0 ≡ S speeds k
  pub owns_below : (k : ℕ) → k < j → (get_or columns k no_column).own.0 ≡ own speeds k
  pub so_far : sum ≡ S speeds j
  pub small : sum ≤ 100 * j

-- what holds of each place below j, and of what is stored at j, holds of each place below j + 1
stored : (f : Column → ℕ) (g : ℕ → ℕ) (l : List Column) (j : ℕ) (s : Column) → j < length l → f s ≡ g j
    → ((k : ℕ) → k < j → f (get_or l k no_column) ≡ g k) → (k : ℕ) → k < j + 1 → f (get_or (set l j s) k no_column) ≡ g k
stored f g l j s h e below k less =
    on_le j k
    (λ m. let i : k ≡ j = omega arith in rw (i, get_or-set_same l j s no_column h) e)
    (λ m. rw (get_or-set_other l j k s no_column (λ i. omega arith)) (below k m))

pub filled_more : (speeds : List ℕ) (columns : List Column) (sum j : ℕ) (s : Speed)
    → Filled speeds columns sum j → j < 9 → s.0 ≡ own speeds j → s.0 ≤ 100
    → Filled speeds (set columns j (record { sum = speed sum; own = s })) (sum + s.0) (j + 1)
filled_more speeds columns sum j s f h e small =
    let c : Column = record { sum = speed sum; own = s } in
    let less : j < length columns = omega (arith, f.count) in
    record {
      count = simp length-set f.count;
      sums_below = stored (λ (c : Column). c.sum.0) (S speeds) columns j c less f.so_far f.sums_below;
      owns_below = stored (λ (c : Column). c.own.0) (own speeds) columns j c less e f.owns_below;
      so_far = rw (add-one j, S-next speeds j) (omega arith);
      small = omega arith;
    }

pub filled_none : (speeds : List ℕ) → Filled speeds (replicate 9 no_column) 0 0
unfolding S sum
filled_none speeds =
    record {
      count = refl;
      sums_below = λ k l. absurd (omega arith);
      owns_below = λ k l. absurd (omega arith);
      so_far = refl;
      small = omega arith;
    }

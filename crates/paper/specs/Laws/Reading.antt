-- What a reader ensures of its value, and that it looks no further than it reads.
use Rattle.std.specs.Prelude.{◌≡◌, List, ◌++◌, length, get_or}
use Prim.Native.Nat.{ℕ, ◌≤◌, ◌<◌}
use Rattle.paper.specs.Text.{good, Reader}

-- what m gives is P, and bytes that come after what it reads change nothing
pub record Reads {A : Type 0} (m : Reader A) (P : A → Type 0) : Type 0 where
  pub ensures : (s : List ℕ) (n : ℕ) (a : A) (rest : List ℕ) (n' : ℕ) → m s n ≡ good a rest n' → P a
  pub alone : (s : List ℕ) (n : ℕ) (a : A) (rest : List ℕ) (n' : ℕ) → m s n ≡ good a rest n'
      → (more : List ℕ) → m (s ++ more) n ≡ good a (rest ++ more) n'

-- of each element of a list
pub record Each {A : Type 0} (none : A) (P : A → Type 0) (n : ℕ) (xs : List A) : Type 0 where
  pub count : length xs ≡ n
  pub each : (i : ℕ) → i < length xs → P (get_or xs i none)

-- a number in a range
pub record In (least most v : ℕ) : Type 0 where
  pub low : least ≤ v
  pub high : v ≤ most

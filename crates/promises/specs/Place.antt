-- What the tasks above a place leave for it.
use Rattle.std.specs.Prelude.{List}
use Prim.Native.Nat.{ℕ}
use Rattle.paper.specs.Certificate.{own}
use Rattle.paper.specs.Laws.Flow.{rank, held}

-- the speed that the tasks before place i leave for it at tick a
abbrev pub offer : (speeds : List ℕ) (rel left : ℕ → ℕ → ℕ) → ℕ → ℕ → ℕ
offer speeds rel left i a = own speeds (rank (held rel left a) i)

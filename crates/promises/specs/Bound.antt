-- What the bound of a task asks: lawful releases, a certified task, and ticks that speak for a window of r ticks.
use Rattle.std.specs.Prelude.{List, ℕ, ◌+◌, ◌*◌, ◌≤◌, ◌<◌, take}
use Rattle.paper.specs.Board.{Task, Board, task}
use Rattle.paper.specs.Certificate.{S, demand}
use Rattle.paper.specs.Accepted.{Covered}
use Rattle.paper.specs.Laws.Sums.{total}
use Rattle.paper.specs.Laws.Counting.{Sporadic, lateness}
use Rattle.paper.specs.Laws.Flow.{rank, held}
use Rattle.promises.specs.Place.{offer}

-- the releases to one task's place are within c and far enough apart
pub record Lawful (k : Task) (rel mark : ℕ → ℕ) : Type 0 where
  pub small : (a : ℕ) → rel a ≤ k.c
  pub sporadic : Sporadic k.t (lateness k) rel mark

-- what acceptance says of the task at place i: its bound ends before its next release, all columns up to its own are covered,
-- and the bound holds
pub record Certified (b : Board) (i : ℕ) : Type 0 where
  pub fits : (task b i).r + lateness (task b i) ≤ (task b i).t
  pub covers : (j : ℕ) → j ≤ i → Covered b.speeds (task b i) j
  pub holds : demand b.speeds (take i b.tasks) (task b i) < (task b i).q * (task b i).r

-- the speed that the tasks before place i sit on at tick a
abbrev pub above : (speeds : List ℕ) (rel left : ℕ → ℕ → ℕ) → ℕ → ℕ → ℕ
above speeds rel left i a = S speeds (rank (held rel left a) i)

-- R ticks that speak for the R ticks from a: the tasks before place i take at most W in them, and they offer place i no more
pub record Window (speeds : List ℕ) (rel left : ℕ → ℕ → ℕ) (i a R W : ℕ) : Type 0 where
  pub from : ℕ
  pub takes : total (λ e. above speeds rel left i (from + e)) R ≤ W
  pub offers : total (λ e. offer speeds rel left i (from + e)) R ≤ total (λ e. offer speeds rel left i (a + e)) R

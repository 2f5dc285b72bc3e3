-- A list that keeps its gaps before a tick, and a run that is prompt up to it.
use Rattle.std.specs.Prelude.{◌≡◌, List, ℕ, ◌+◌, ◌≤◌, ◌<◌, length}
use Rattle.paper.specs.Board.{Board}
use Rattle.paper.specs.Releases.{Release, task_of, mark}
use Rattle.paper.specs.Laws.Legal.{nth}
use Rattle.paper.specs.Laws.Released.{released, remains, Goes}

-- two releases of one task that come before tick H are at least t ticks apart
pub record SpacedBefore (b : Board) (l : List Release) (H : ℕ) : Type 0 where
  pub gap : (p o : ℕ) → p < o → o < length l → (nth l o).at < H → (nth l p).task ≡ (nth l o).task
      → mark (nth l p) + (task_of b (nth l o)).t ≤ mark (nth l o)

-- the bound of release p
abbrev pub bound : Board → List Release → ℕ → ℕ
bound b l p = (task_of b (nth l p)).r

-- up to tick H every release finds its place empty, and every job is complete within its bound
pub record PromptBefore (b : Board) (l : List Release) (H : ℕ) : Type 0 where
  pub clear : (a k : ℕ) → a < H → 0 < released b l a k → remains b l a k ≡ 0
  pub prompt : (p a k : ℕ) → Goes l p a k → a + bound b l p ≤ H → remains b l (a + bound b l p) k ≡ 0

-- What a list releases to each task place at each tick, as a function.
use Rattle.std.specs.Prelude.{◌≡◌, cond, List, [], ◌∷◌, ℕ, suc, ◌<◌, length, eqb}
use Rattle.paper.specs.Board.{Board}
use Rattle.paper.specs.Releases.{Release, units_of, mark}
use Rattle.paper.specs.Laws.Legal.{nth}
use Rattle.paper.specs.Laws.Flow.{renewed, remaining}

-- what the release w brings to place k at tick a
unfoldable pub brings : Board → Release → ℕ → ℕ → ℕ
brings b w a k = cond (eqb w.at a) (cond (eqb w.task (suc k)) (units_of b w) 0) 0

-- what a list brings: a later release overrides
unfoldable pub released : Board → List Release → ℕ → ℕ → ℕ
released b [] a k = 0
released b (w ∷ later) a k = renewed (released b later a k) (brings b w a k)

-- the mark of what a list brings, and the tick itself where it brings nothing
unfoldable pub marked : Board → List Release → ℕ → ℕ → ℕ
marked b [] a k = a
marked b (w ∷ later) a k = cond (eqb (released b later a k) 0) (mark w) (marked b later a k)

-- what place k has left before tick a of a run
abbrev pub remains : Board → List Release → ℕ → ℕ → ℕ
remains b l a k = remaining b.speeds (released b l) a k

-- release p of the list goes to place k at tick a
pub record Goes (l : List Release) (p a k : ℕ) : Type 0 where
  pub listed : p < length l
  pub at : (nth l p).at ≡ a
  pub task : (nth l p).task ≡ suc k

-- what is released stands in the list
pub record Entry (b : Board) (l : List Release) (a k : ℕ) : Type 0 where
  pub place : ℕ
  pub goes : Goes l place a k
  pub units : released b l a k ≡ units_of b (nth l place)
  pub marks : marked b l a k ≡ mark (nth l place)

-- Sound states of the scheduler: each unfinished job is known and within its bound, and each response written is too.
use Rattle.std.specs.Prelude.{◌≡◌, ◌⊎◌}
use mathlib.Core.List.{List}
use Prim.Native.Nat.{ℕ, ◌+◌, ◌≤◌, ◌<◌}
use Rattle.std.proofs.Math.ListN.{length}
use Rattle.paper.specs.Board.{Board}
use Rattle.paper.specs.Releases.{Release}
use Rattle.paper.specs.Scheduler.{State}
use Rattle.paper.specs.Laws.Reading.{In}
use Rattle.paper.specs.Laws.Legal.{nth}
use Rattle.paper.specs.Laws.Released.{Goes}
use Rattle.paper.specs.Laws.Served.{left_of, since_of, job_of, response_of}
use Rattle.paper.specs.Laws.Steps.{place_of}
use Rattle.paper.specs.Laws.Bridge.{Lefts}
use Rattle.promises.specs.Horizon.{bound}

-- at tick a place k has been running release p since its tick, and is within its bound
pub record Running (b : Board) (l : List Release) (a k p since : ℕ) : Type 0 where
  pub goes : Goes l p since k
  pub begun : since ≤ a
  pub in_time : a < since + bound b l p

-- release p is the unfinished job of place k
pub record Pending (x : State) (k p : ℕ) : Type 0 where
  pub unfinished : 0 < left_of x k
  pub job : job_of x k ≡ p

-- release p has been made, when those of tick a before place n have
pub record Made (l : List Release) (a n p : ℕ) : Type 0 where
  pub listed : p < length l
  pub by : (nth l p).at ≤ a
  pub before : (nth l p).at ≡ a → p < n

-- within tick a, when the first n releases have been looked at: each release made is unfinished, or has a response
-- within its bound
pub record Sound (b : Board) (l : List Release) (a n : ℕ) (x : State) : Type 0 where
  pub sinces : length x.since ≡ 96
  pub jobs : length x.job ≡ 96
  pub places : length x.responses ≡ length l
  pub running : (k : ℕ) → 0 < left_of x k → Running b l a k (job_of x k) (since_of x k)
  pub told : (p : ℕ) → Made l a n p → Pending x (place_of l p) p ⊎ In 1 (bound b l p) (response_of x p)

-- what the state has left is what remains, and it is sound
pub record Going (b : Board) (l : List Release) (a n : ℕ) (x : State) : Type 0 where
  pub lefts : Lefts b l a n x
  pub sound : Sound b l a n x

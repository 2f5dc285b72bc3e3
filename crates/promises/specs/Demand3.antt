-- Demand 3 about the scheduler: which releases have to have a response, and within which bound.
use Rattle.std.specs.Prelude.{◌≡◌, List, ℕ, ◌+◌, ◌≤◌, ◌<◌, length}
use Rattle.paper.specs.Board.{Board}
use Rattle.paper.specs.Releases.{Release}
use Rattle.paper.specs.Scheduler.{State, ran, after}
use Rattle.paper.specs.Laws.Reading.{In}
use Rattle.paper.specs.Laws.Legal.{nth}
use Rattle.paper.specs.Laws.Served.{response_of}
use Rattle.promises.specs.Horizon.{bound}

-- the bound of release p ends by tick H
pub record Due (b : Board) (l : List Release) (H p : ℕ) : Type 0 where
  pub listed : p < length l
  pub by : (nth l p).at + bound b l p ≤ H

-- every release whose bound ends by tick H has a response from 1 to its bound
pub record InTime (b : Board) (l : List Release) (H : ℕ) (x : State) : Type 0 where
  pub response : (p : ℕ) → Due b l H p → In 1 (bound b l p) (response_of x p)

-- a run of a legal list comes to its end, and every release whose bound ends by then has a response within it
pub record Finishes (b : Board) (l : List Release) (T : ℕ) : Type 0 where
  pub state : State
  pub ends : after b l T ≡ ran state
  pub in_time : InTime b l T state

-- A response that is in, of a job that is over; and overruns in a range of ticks.
use Rattle.std.specs.Prelude.{◌≡◌, ℕ, ◌≤◌, ◌<◌, length}
use Rattle.paper.specs.Scheduler.{State}
use Rattle.paper.specs.Laws.Served.{left_of, job_of, response_of}

-- release p has a response that is Q, and no unfinished job is its own
pub record Settled (Q : ℕ → Type 0) (p : ℕ) (x : State) : Type 0 where
  pub jobs : length x.job ≡ 96
  pub told : Q (response_of x p)
  pub over : (k : ℕ) → 0 < left_of x k → job_of x k ≡ p → ⊥

-- an overrun at a tick from H on, before T
pub record Between (H T p a : ℕ) : Type 0 where
  pub from : H ≤ a
  pub to : a < T

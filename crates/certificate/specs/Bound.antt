-- What the sums of the bound lean on: with these every one of them fits 64 bits. And what a task's bound leaves.
use Rattle.std.specs.Prelude.{◌≡◌, ℕ, List, ◌*◌, ◌≤◌, ◌<◌, length, get_or, Option, Some, None}
use Rattle.paper.specs.Board as paper
use Rattle.paper.specs.Certificate.{demand}
use Rattle.paper.specs.Accepted as accepted
use Rattle.quantity.specs.Quantity.{units}
use Rattle.quantity.specs.declared.Ticks.{Ticks}
use Rattle.quantity.specs.declared.Units.{Units}
use Rattle.quantity.specs.declared.Speed.{Speed}
use Rattle.board.specs.declared.Task.{Task}
use Rattle.board.specs.Places.{no_task}

-- a window of ticks, and a task above whose bound is within its period
pub record Above (window : Ticks) (task : Task) : Type 0 where
  pub opens : 1 ≤ window.0
  pub closes : window.0 ≤ 1000000
  pub work : task.c.0 ≤ 1000000
  pub starts : 1 ≤ task.r.0
  pub bounded : task.r.0 ≤ task.t.0
  pub returns : task.t.0 ≤ 1000000

-- at most 95 such tasks, each with a million jobs at a charge of 1,000,099
pub record AllAbove (window : Ticks) (above : List Task) (fastest : Speed) : Type 0 where
  pub few : length above ≤ 95
  pub each : (k : ℕ) → k < length above → Above window (get_or above k no_task)
  pub slow : fastest.0 ≤ 100

-- the load of so many, and the task's own numbers
pub record Sides (load : Units) (task : Task) : Type 0 where
  pub loaded : load.0 ≤ 95009405000000
  pub work : task.c.0 ≤ 1000000
  pub by_y : task.y ≤ 100000
  pub by_z : task.z ≤ 100000

-- a task's own numbers, with those above it
pub record Bounded (task : Task) (above : List Task) (fastest : Speed) : Type 0 where
  pub loads : AllAbove task.r above fastest
  pub work : task.c.0 ≤ 1000000
  pub by_y : task.y ≤ 100000
  pub by_z : task.z ≤ 100000

-- the slack of a task whose demand stays below q times r, and none of one whose demand does not
abbrev pub Leaves : List ℕ → List paper.Task → paper.Task → Option Units → Type 0
Leaves speeds above k (Some slack) = (demand speeds above k < k.q * k.r) × (slack ≡ units (accepted.slack_of speeds above k))
Leaves speeds above k None = k.q * k.r ≤ demand speeds above k

-- The columns' speeds in tables.
use Rattle.std.specs.Prelude.{◌≡◌, List, ℕ, ◌≤◌, ◌<◌, length, get_or}
use Rattle.paper.specs.Certificate.{S, own}
use Rattle.quantity.specs.Quantity.{speed}
use Rattle.quantity.specs.declared.Speed.{Speed}
use Rattle.board.specs.declared.Task.{Task}
use Rattle.certificate.specs.declared.columns.Column.{Column}

-- at most 100 units for each tick on each processor
pub record Slow (speeds : List Speed) : Type 0 where
  pub each : (p : ℕ) → p < length speeds → (get_or speeds p (speed 0)).0 ≤ 100

-- a column of speeds 0
abbrev pub no_column : Column
no_column = record { sum = speed 0; own = speed 0 }

-- the tables of S_j and s_(j+1), side by side in nine columns
pub record Tables (speeds : List ℕ) (columns : List Column) : Type 0 where
  pub count : length columns ≡ 9
  pub sums : (j : ℕ) → j < 9 → (get_or columns j no_column).sum.0 ≡ S speeds j
  pub own : (j : ℕ) → j < 9 → (get_or columns j no_column).own.0 ≡ own speeds j

-- a column's speeds and a task's numbers, small enough for the sum of their products
pub record Columned (column : Column) (task : Task) : Type 0 where
  pub slow_sum : column.sum.0 ≤ 800
  pub slow_own : column.own.0 ≤ 100
  pub by_y : task.y ≤ 100000
  pub by_z : task.z ≤ 100000

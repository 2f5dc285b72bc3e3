-- What the two steps of a tick promise, its releases and its work, in the paper's words.
use Rattle.std.specs.Prelude.{◌≡◌, ℕ, ◌+◌, List, Result, OnOk}
use Rattle.paper.specs.Board.{Board}
use Rattle.paper.specs.Scheduler.{Ran, ran, overran, release}
use Rattle.paper.specs.Scheduler as paper
use Rattle.quantity.specs.Quantity.{speeds_of}
use Rattle.quantity.specs.declared.Speed.{Speed}
use Rattle.releases.specs.Packed.{releases_of}
use Rattle.releases.specs.declared.Release.{Release}
use Rattle.scheduler.specs.State.{state_of}
use Rattle.scheduler.specs.Tick.{Cursor, told, stepped}
use Rattle.scheduler.specs.declared.RunState.{RunState}
use Rattle.scheduler.specs.declared.Overrun.{Overrun}

-- what the releases of tick a make of `run`
pub record Released (releases : List Release) (a : ℕ) (run : RunState) (r : Result Unit Overrun) (now : RunState) : Type 0 where
  pub release : (b : Board) (responses : List ℕ)
      → told (stepped r now) responses ≡ release b a 0 (releases_of releases) (state_of run responses)
  pub cursor : OnOk r (Cursor (releases_of releases) now.next (a + 1))

-- what those who sit in tick a make of `run` and the responses
pub record Worked (speeds : List Speed) (a : ℕ) (run : RunState) (before : List ℕ) (now : RunState) (after : List ℕ) : Type 0 where
  pub state : state_of now after ≡ paper.work (speeds_of speeds) run.table a (state_of run before)
  pub table : now.table ≡ run.table
  pub next : now.next ≡ run.next

-- The table of a tick, as the ticks leave it. Assumes nothing.
use Rattle.std.specs.Prelude.{◌≡◌, List, ℕ, zero, suc, replicate}
use Rattle.std.proofs.Common.{sym, ap}
use Rattle.paper.specs.Board.{Board}
use Rattle.paper.specs.Releases.{Release}
use Rattle.paper.specs.Scheduler.{State, ran, release, after, released, seated, seats}
use Rattle.scheduler.specs.State.{fresh_run}
use Rattle.scheduler.specs.declared.RunState.{RunState}

-- the table of the last of H ticks; before the first nobody sits
unfoldable pub last_seats : Board → List Release → ℕ → List ℕ
last_seats b list zero = replicate 8 0
last_seats b list (suc a) = seats b list a

pub sat_first : (run : RunState) → run ≡ fresh_run → (b : Board) (list : List Release) → run.table ≡ last_seats b list 0
unfolding last_seats
sat_first run e b list = ap (λ (r : RunState). r.table) e

-- a tick that goes on leaves its own table
pub sat_next : (b : Board) (list : List Release) (a : ℕ) (x : State) → after b list a ≡ ran x
    → seated b (release b a 0 list x) ≡ last_seats b list (suc a)
unfolding last_seats seats released
sat_next b list a x e = sym (ap (λ r. seated b (released b list a r)) e)

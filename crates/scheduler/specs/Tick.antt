-- What a tick is given and what it promises, in the paper's words.
use Rattle.std.specs.Prelude.{◌≡◌, ℕ, suc, ◌+◌, ◌≤◌, ◌<◌, List, length, get_or, take, drop, Result, Ok, Err, IfOk, OnErr}
use Rattle.paper.specs.Board.{Board}
use Rattle.paper.specs.Releases as paper
use Rattle.paper.specs.Laws.Ranges.{no_release}
use Rattle.paper.specs.Laws.Reading.{In}
use Rattle.paper.specs.Scheduler.{Ran, ran, overran, release, seated, tick}
use Rattle.quantity.specs.Quantity.{speeds_of}
use Rattle.quantity.specs.declared.Speed.{Speed}
use Rattle.releases.specs.Packed.{releases_of}
use Rattle.releases.specs.declared.Release.{Release}
use Rattle.scheduler.specs.State.{state_of}
use Rattle.scheduler.specs.declared.RunState.{RunState}
use Rattle.scheduler.specs.declared.Overrun.{Overrun}

-- the release in place p of a list
abbrev pub nth : List paper.Release → ℕ → paper.Release
nth list p = get_or list p no_release

-- a legal list, with every release's units named
pub record Listed (list : List paper.Release) : Type 0 where
  pub few : length list ≤ 1000
  pub rising : (p : ℕ) → suc p < length list → (nth list p).at ≤ (nth list (suc p)).at
  pub known : (p : ℕ) → p < length list → In 1 96 (nth list p).task
  pub named : (p : ℕ) → p < length list → 0 < (nth list p).units

-- before tick a the releases before `next` have had their turn, and the others have not
pub record Cursor (list : List paper.Release) (next a : ℕ) : Type 0 where
  pub within : next ≤ length list
  pub passed : (p : ℕ) → p < next → (nth list p).at < a
  pub ahead : (p : ℕ) → next ≤ p → p < length list → a ≤ (nth list p).at

-- how far a result says that a run has come: its state, or the release that met an unfinished job, and its tick
abbrev pub told : Result RunState Overrun → List ℕ → Ran
told (Ok run) responses = ran (state_of run responses)
told (Err overrun) responses = overran overrun.release overrun.tick.0

-- what a step comes to: the state that was lent moves on, or the run ended
abbrev pub stepped : Result Unit Overrun → RunState → Result RunState Overrun
stepped (Ok done) run = Ok run
stepped (Err overrun) run = Err overrun

-- what a tick asks: a legal list, with a place lent for each release; a run that goes on, before tick a
pub record Standing (speeds : List Speed) (releases : List Release) (a : ℕ) (run : RunState) (places : List ℕ) : Type 0 where
  pub platform : length speeds ≤ 8
  pub listed : Listed (releases_of releases)
  pub cursor : Cursor (releases_of releases) run.next a
  pub lent : length releases ≤ length places
  pub horizon : a ≤ 1000000

-- what the releases of tick a make of a state with these responses
abbrev pub started : Board → List Release → ℕ → RunState → List ℕ → Ran
started b releases a run responses = release b a 0 (releases_of releases) (state_of run responses)

-- what tick a makes of `run` and the lent places: the paper's tick, for any board with these speeds. The first places are the
-- responses, one for each release, and the others stay. An overrun leaves the lent places as they were.
pub record Ticked (speeds : List Speed) (releases : List Release) (a : ℕ) (run : RunState) (before : List ℕ)
    (r : Result RunState Overrun) (after : List ℕ) : Type 0 where
  pub tick : (b : Board) → b.speeds ≡ speeds_of speeds
      → told r (take (length releases) after) ≡ tick b (releases_of releases) a (state_of run (take (length releases) before))
  pub table : (b : Board) → b.speeds ≡ speeds_of speeds
      → IfOk r (λ next. next.table ≡ seated b (started b releases a run (take (length releases) before)))
  pub cursor : IfOk r (λ next. Cursor (releases_of releases) next.next (a + 1))
  pub rest : drop (length releases) after ≡ drop (length releases) before
  pub long : length after ≡ length before
  pub untouched : OnErr r (after ≡ before)

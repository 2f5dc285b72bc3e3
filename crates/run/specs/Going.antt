-- The ticks of a run, one after the other: what is known before tick a, and what comes of the last. Assumes nothing.
use Rattle.std.specs.Prelude.{◌≡◌, refl, ℕ, suc, ◌+◌, ◌-◌, ◌≤◌, ◌<◌, List, [], length, take, drop, replicate, Result, Ok, Err}
use Rattle.std.proofs.Common.{sym, ap, ◌∙◌, arith, add-one}
use Rattle.paper.specs.Board.{Board}
use Rattle.paper.specs.Releases as paper
use Rattle.paper.specs.Scheduler.{State, ran, overran, fresh, after}
use Rattle.paper.proofs.Laws.Onward.{after-tick, after_overrun, tick_place}
use Rattle.quantity.specs.Quantity.{speeds_of}
use Rattle.quantity.specs.declared.Speed.{Speed}
use Rattle.releases.specs.Packed.{releases_of}
use Rattle.releases.specs.Places.{releases_count}
use Rattle.releases.specs.declared.Release.{Release}
use Rattle.scheduler.specs.State.{fresh_run, state_of}
use Rattle.scheduler.specs.Tick.{Listed, told, Standing, Ticked}
use Rattle.scheduler.specs.Kept.{state_fresh, standing_fresh, standing_kept, state_responses}
use Rattle.scheduler.specs.declared.RunState.{RunState}
use Rattle.scheduler.specs.declared.Overrun.{Overrun}
use Rattle.run.specs.Seating.{last_seats, sat_first, sat_next}

-- what a run asks: a legal list with its units named, and room for a response of each release
pub record Runs (speeds : List Speed) (releases : List Release) (horizon room : ℕ) : Type 0 where
  pub platform : length speeds ≤ 8
  pub listed : Listed (releases_of releases)
  pub last : horizon ≤ 1000000
  pub places : length releases ≤ room

-- what the ticks ask: a legal list with its units named, and a place that holds 0 for each release
pub record Ready (speeds : List Speed) (releases : List Release) (horizon : ℕ) (places : List ℕ) : Type 0 where
  pub platform : length speeds ≤ 8
  pub listed : Listed (releases_of releases)
  pub lent : length releases ≤ length places
  pub clear : take (length releases) places ≡ replicate (length releases) 0
  pub last : horizon ≤ 1000000

-- how the paper's run ends: with these responses, and the table of its last tick; or at the release that met an unfinished job
abbrev pub Ends : Board → List paper.Release → ℕ → Result (List ℕ) Overrun → List ℕ → Type 0
Ends b list horizon (Ok seats) responses =
    (x : State) × (after b list horizon ≡ ran x) × (responses ≡ x.responses) × (seats ≡ last_seats b list horizon)
Ends b list horizon (Err overrun) responses = after b list horizon ≡ overran overrun.release overrun.tick.0

-- what comes of the ticks: the end of the paper's run, for any board with these speeds; the first places are its responses, the
-- others stay
pub record Went (speeds : List Speed) (releases : List Release) (horizon : ℕ) (before : List ℕ) (r : Result (List ℕ) Overrun)
    (places : List ℕ) : Type 0 where
  pub ends : (b : Board) → b.speeds ≡ speeds_of speeds → Ends b (releases_of releases) horizon r (take (length releases) places)
  pub rest : drop (length releases) places ≡ drop (length releases) before
  pub long : length places ≡ length before

-- before tick a
pub record Going (speeds : List Speed) (releases : List Release) (horizon : ℕ) (before : List ℕ) (run : RunState) (places : List ℕ)
    (a : ℕ) : Type 0 where
  pub within : a ≤ horizon
  pub last : horizon ≤ 1000000
  pub standing : Standing speeds releases a run places
  pub state : (b : Board) → b.speeds ≡ speeds_of speeds
      → after b (releases_of releases) a ≡ ran (state_of run (take (length releases) places))
  pub table : (b : Board) → b.speeds ≡ speeds_of speeds → run.table ≡ last_seats b (releases_of releases) a
  pub rest : drop (length releases) places ≡ drop (length releases) before
  pub long : length places ≡ length before

module _ (speeds : List Speed) (releases : List Release) (horizon : ℕ) (before : List ℕ) where
  abbrev list : List paper.Release
  list = releases_of releases

  abbrev first : List ℕ → List ℕ
  first places = take (length releases) places

  pub going_first : Ready speeds releases horizon before → (run : RunState) → run ≡ fresh_run
      → Going speeds releases horizon before run before 0
  unfolding after
  going_first h run e = record {
    within = omega arith;
    last = h.last;
    standing = rw e (standing_fresh speeds releases before h.platform h.listed h.lent);
    state = λ b s.
        ap (λ n. ran (fresh n)) (releases_count releases)
        ∙ ap ran
        (sym (state_fresh (length releases))
        ∙ ap (state_of fresh_run) (sym h.clear)
        ∙ ap (λ (r : RunState). state_of r (first before)) (sym e));
    table = λ b s. sat_first run e b list;
    rest = refl;
    long = refl;
  }

  module _ (run : RunState) (places : List ℕ) (a : ℕ) (g : Going speeds releases horizon before run places a) where
    -- all ticks were made
    pub going_last : horizon ≤ a → Went speeds releases horizon before (Ok run.table) places
    going_last h = record {
      ends = λ b s. (
        state_of run (first places),
        ap (after b list) whole ∙ g.state b s,
        sym (state_responses run (first places)),
        g.table b s ∙ ap (last_seats b list) (sym whole),
      );
      rest = g.rest;
      long = g.long;
    }
      where
        whole : horizon ≡ a
        whole = let w = g.within in omega arith

    module _ (more : a < horizon) (after' : List ℕ) where
      one-tick : (r : Result RunState Overrun) → Ticked speeds releases a run places r after' → (b : Board) → b.speeds ≡ speeds_of speeds
          → after b list (suc a) ≡ told r (first after')
      one-tick r t b s = after-tick b list a (state_of run (first places)) (g.state b s) ∙ sym (t.tick b s)

      pub going_next : (next : RunState) → Ticked speeds releases a run places (Ok next) after'
          → Going speeds releases horizon before next after' (a + 1)
      going_next next t = record {
        within = omega arith;
        last = g.last;
        standing = standing_kept speeds releases a run places next after' g.standing t (let h = g.last in omega arith);
        state = λ b s. ap (after b list) (add-one a) ∙ one-tick (Ok next) t b s;
        table = λ b s.
            t.table b s ∙ sat_next b list a (state_of run (first places)) (g.state b s) ∙ ap (last_seats b list) (sym (add-one a));
        rest = t.rest ∙ g.rest;
        long = t.long ∙ g.long;
      }

      -- the release that ended the run is one of the list
      pub ended_place : (overrun : Overrun) → Ticked speeds releases a run places (Err overrun) after' → overrun.release ≤ length releases
      ended_place overrun t =
          let bare : Board = record { speeds = speeds_of speeds; tasks = [] } in
          let h = tick_place bare list a (state_of run (first places)) overrun.release overrun.tick.0 (sym (t.tick bare refl)) in
          omega (arith, releases_count releases)

      pub going_ended : (overrun : Overrun) → Ticked speeds releases a run places (Err overrun) after'
          → Went speeds releases horizon before (Err overrun) after'
      going_ended overrun t = record {
        ends = λ b s.
            ap (after b list) (split horizon a more)
            ∙ after_overrun b list (suc a) (horizon - suc a) overrun.release overrun.tick.0 (one-tick (Err overrun) t b s);
        rest = t.rest ∙ g.rest;
        long = t.long ∙ g.long;
      }
        where
          split : (h a : ℕ) → a < h → h ≡ suc a + (h - suc a)
          split h a l = omega arith

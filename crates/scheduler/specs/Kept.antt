-- Laws of the tick's promise: a fresh run can take its first tick, a tick that goes on leaves what the next one asks, and any two
-- results that meet the promise coincide. Assumes nothing.
use Rattle.std.specs.Prelude.{◌≡◌, refl, ℕ, ◌+◌, ◌≤◌, ◌<◌, List, [], ◌∷◌, ◌++◌, map, length, take, drop, replicate, Result, Ok, Err}
use Rattle.std.proofs.Common.{sym, ap, ◌∙◌, arith, take-append-drop}
use Rattle.paper.specs.Board.{Board}
use Rattle.paper.specs.Releases as paper
use Rattle.paper.proofs.Laws.Tests.{on_le}
use Rattle.paper.specs.Scheduler.{State, ran, overran, fresh}
use Rattle.quantity.specs.Quantity.{units as in_units, ticks as in_ticks, speeds_of}
use Rattle.quantity.specs.declared.Speed.{Speed}
use Rattle.quantity.specs.declared.Ticks.{Ticks}
use Rattle.quantity.specs.declared.Units.{Units}
use Rattle.releases.specs.Packed.{releases_of}
use Rattle.releases.specs.declared.Release.{Release}
use Rattle.scheduler.specs.declared.RunState.{RunState}
use Rattle.scheduler.specs.declared.Overrun.{Overrun}
use Rattle.scheduler.specs.State.{fresh_run, units_left, ticks_since, state_of}
use Rattle.scheduler.specs.Tick.{Listed, Cursor, told, Standing, Ticked}

-- a fresh run is the paper's
pub state_fresh : (count : ℕ) → state_of fresh_run (replicate count 0) ≡ fresh count
unfolding state_of fresh units_left ticks_since
state_fresh count = refl

pub standing_fresh : (speeds : List Speed) (releases : List Release) (places : List ℕ) → length speeds ≤ 8
    → Listed (releases_of releases) → length releases ≤ length places → Standing speeds releases 0 fresh_run places
standing_fresh speeds releases places few list lent = record {
  platform = few;
  listed = list;
  cursor = record { within = omega arith; passed = λ p h. absurd (omega arith); ahead = λ p l k. omega arith };
  lent = lent;
  horizon = omega arith;
}

module _ (speeds : List Speed) (releases : List Release) (a : ℕ) (run : RunState) (before : List ℕ)
    (next : RunState) (after : List ℕ) where
  pub standing_kept : Standing speeds releases a run before → Ticked speeds releases a run before (Ok next) after → a + 1 ≤ 1000000
      → Standing speeds releases (a + 1) next after
  standing_kept s t h = record {
    platform = s.platform;
    listed = s.listed;
    cursor = t.cursor;
    lent = omega (arith, t.long, s.lent);
    horizon = h;
  }

-- the cursor has one place for each tick
pub cursor_unique : (list : List paper.Release) (a next other : ℕ) → Cursor list next a → Cursor list other a → next ≡ other
cursor_unique list a next other c d =
    on_le next other
    (λ h. on_le other next (λ k. omega arith) (λ k. absurd (past next other d c k (omega (arith, d.within)))))
    (λ k. absurd (past other next c d k (omega (arith, c.within))))
  where
    -- a release between two cursors of one tick has had its turn, and has not
    past : (low high : ℕ) → Cursor list high a → Cursor list low a → low < high → low < length list → ⊥
    past low high c d h inside = let turned = c.passed low h in let waits = d.ahead low (omega arith) inside in omega arith

units_back : (us : List Units) → map in_units (units_left us) ≡ us
unfolding units_left
units_back [] = refl
units_back (u ∷ us) = ap (λ (l : List Units). u ∷ l) (units_back us)

ticks_back : (ts : List Ticks) → map in_ticks (ticks_since ts) ≡ ts
unfolding ticks_since
ticks_back [] = refl
ticks_back (t ∷ ts) = ap (λ (l : List Ticks). t ∷ l) (ticks_back ts)

state_left : (run : RunState) (rs : List ℕ) → map in_units (state_of run rs).left ≡ run.left
unfolding state_of
state_left run rs = units_back run.left

state_since : (run : RunState) (rs : List ℕ) → map in_ticks (state_of run rs).since ≡ run.since
unfolding state_of
state_since run rs = ticks_back run.since

state_job : (run : RunState) (rs : List ℕ) → (state_of run rs).job ≡ run.job
unfolding state_of
state_job run rs = refl

pub state_responses : (run : RunState) (rs : List ℕ) → (state_of run rs).responses ≡ rs
unfolding state_of
state_responses run rs = refl

pub told_going : (r : Result RunState Overrun) (run : RunState) (rs : List ℕ) → r ≡ Ok run → told r rs ≡ ran (state_of run rs)
told_going r run rs e = rw e

pub told-stopped : (r : Result RunState Overrun) (overrun : Overrun) (rs : List ℕ) → r ≡ Err overrun
    → told r rs ≡ overran overrun.release overrun.tick.0
told-stopped r overrun rs e = rw e

abbrev made : List Units → List Ticks → List ℕ → List ℕ → ℕ → RunState
made left since job table next = record { left = left; since = since; job = job; table = table; next = next }

same_run : (n m : RunState) (rs ss : List ℕ) → state_of n rs ≡ state_of m ss → n.table ≡ m.table → n.next ≡ m.next → n ≡ m
same_run n m rs ss x table next =
    let left : n.left ≡ m.left = sym (state_left n rs) ∙ ap (λ (y : State). map in_units y.left) x ∙ state_left m ss in
    let since : n.since ≡ m.since = sym (state_since n rs) ∙ ap (λ (y : State). map in_ticks y.since) x ∙ state_since m ss in
    let job : n.job ≡ m.job = sym (state_job n rs) ∙ ap (λ (y : State). y.job) x ∙ state_job m ss in
    ap (λ (l : List Units). made l n.since n.job n.table n.next) left
    ∙ ap (λ (l : List Ticks). made m.left l n.job n.table n.next) since
    ∙ ap (λ (l : List ℕ). made m.left m.since l n.table n.next) job
    ∙ ap (λ (l : List ℕ). made m.left m.since m.job l n.next) table
    ∙ ap (made m.left m.since m.job m.table) next

same_responses : (n m : RunState) (rs ss : List ℕ) → state_of n rs ≡ state_of m ss → rs ≡ ss
same_responses n m rs ss x = sym (state_responses n rs) ∙ ap (λ (y : State). y.responses) x ∙ state_responses m ss

same_places : (count : ℕ) (xs ys : List ℕ) → take count xs ≡ take count ys → drop count xs ≡ drop count ys → xs ≡ ys
same_places count xs ys first rest =
    sym (take-append-drop count xs)
    ∙ ap (λ (l : List ℕ). l ++ drop count xs) first
    ∙ ap (λ (l : List ℕ). take count ys ++ l) rest
    ∙ take-append-drop count ys

abbrev met : ℕ → ℕ → Overrun
met p a = record { release = p; tick = in_ticks a }

module _ (speeds : List Speed) (releases : List Release) (a : ℕ) (run : RunState) (before : List ℕ) where
  -- a board with these speeds
  abbrev bare : Board
  bare = record { speeds = speeds_of speeds; tasks = [] }

  same_told : (r : Result RunState Overrun) (after : List ℕ) (other : Result RunState Overrun) (others : List ℕ)
      → Ticked speeds releases a run before r after → Ticked speeds releases a run before other others
      → told r (take (length releases) after) ≡ told other (take (length releases) others)
  same_told r after other others t u = t.tick bare refl ∙ sym (u.tick bare refl)

  -- a tick has one result, and leaves the lent places in one way
  pub tick_unique : (r : Result RunState Overrun) (after : List ℕ) (other : Result RunState Overrun) (others : List ℕ)
      → Ticked speeds releases a run before r after → Ticked speeds releases a run before other others → (r ≡ other) × (after ≡ others)
  tick_unique (Err v) after (Err w) others t u =
      let same : overran v.release v.tick.0 ≡ overran w.release w.tick.0 = same_told (Err v) after (Err w) others t u in
      let number : v.release ≡ w.release = cc in
      let tick : v.tick.0 ≡ w.tick.0 = cc in (
        ap (λ (p : ℕ). Err (met p v.tick.0)) number ∙ ap (λ (n : ℕ). Err (met w.release n)) tick,
        t.untouched ∙ sym u.untouched,
      )
  tick_unique (Err v) after (Ok m) others t u =
      let same : overran v.release v.tick.0 ≡ ran (state_of m (take (length releases) others)) =
      same_told (Err v) after (Ok m) others t u in
      let z : ◌≡◌ {A = ℕ} 0 1 = cc in absurd (omega arith)
  tick_unique (Ok n) after (Err w) others t u =
      let same : ran (state_of n (take (length releases) after)) ≡ overran w.release w.tick.0 =
      same_told (Ok n) after (Err w) others t u in
      let z : ◌≡◌ {A = ℕ} 0 1 = cc in absurd (omega arith)
  tick_unique (Ok n) after (Ok m) others t u =
      let count : ℕ = length releases in
      let same : ran (state_of n (take count after)) ≡ ran (state_of m (take count others)) = same_told (Ok n) after (Ok m) others t u in
      let x : state_of n (take count after) ≡ state_of m (take count others) = cc in
      let table : n.table ≡ m.table = t.table bare refl ∙ sym (u.table bare refl) in
      let next : n.next ≡ m.next = cursor_unique (releases_of releases) (a + 1) n.next m.next t.cursor u.cursor in (
        ap (λ (k : RunState). Ok k) (same_run n m (take count after) (take count others) x table next),
        same_places count after others (same_responses n m (take count after) (take count others) x) (t.rest ∙ sym u.rest),
      )

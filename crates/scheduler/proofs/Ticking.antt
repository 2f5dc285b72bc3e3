-- A tick is its releases, its seats and its work. Assumes nothing.
use Rattle.std.specs.Prelude.{◌≡◌, refl, ℕ, ◌+◌, ◌≤◌, List, length, take, drop, get_or, Ok, Err}
use Rattle.std.proofs.Common.{sym, ap, ◌∙◌, subst}
use Rattle.paper.specs.Board.{Board}
use Rattle.paper.specs.Scheduler.{State, ran, overran, release, table, work, dispatched, tick, seated}
use Rattle.paper.proofs.Laws.Seats.{seat_known}
use Rattle.quantity.specs.Quantity.{speeds_of}
use Rattle.quantity.specs.Speeds.{speeds_length}
use Rattle.quantity.specs.declared.Speed.{Speed}
use Rattle.quantity.specs.declared.Units.{Units}
use Rattle.releases.specs.Packed.{releases_of}
use Rattle.releases.specs.declared.Release.{Release}
use Rattle.scheduler.specs.State.{units_left, state_of}
use Rattle.scheduler.specs.Laws.{length_left}
use Rattle.scheduler.specs.Steps.{Released, Worked}
use Rattle.scheduler.specs.Tick.{Cursor, Ticked}
use Rattle.scheduler.specs.declared.RunState.{RunState}
use Rattle.scheduler.specs.declared.Overrun.{Overrun}

-- the seats of a tick
abbrev pub with_table : RunState → List ℕ → RunState
with_table run seats = record {
  left = run.left;
  since = run.since;
  job = run.job;
  table = seats;
  next = run.next;
}

-- who sits is one of the tasks
pub seat_within : (m : ℕ) (left : List Units) (seats : List ℕ) → seats ≡ table m (units_left left)
    → (k : ℕ) → get_or seats k 0 ≤ length left
seat_within m left seats e k =
    subst (λ (l : List ℕ). get_or l k 0 ≤ length left) (sym e)
    (subst (λ (n : ℕ). get_or (table m (units_left left)) k 0 ≤ n) (length_left left) (seat_known m (units_left left) k))

dispatched-overran : (b : Board) (a p t : ℕ) → dispatched b a (overran p t) ≡ overran p t
unfolding dispatched
dispatched-overran b a p t = refl

dispatched_going : (b : Board) (a : ℕ) (x : State) → dispatched b a (ran x) ≡ ran (work b.speeds (table (length b.speeds) x.left) a x)
unfolding dispatched
dispatched_going b a x = refl

seats_going : (b : Board) (x : State) → seated b (ran x) ≡ table (length b.speeds) x.left
unfolding seated
seats_going b x = refl

tick_is : (b : Board) (a : ℕ) (releases : List Release) (x : State)
    → tick b (releases_of releases) a x ≡ dispatched b a (release b a 0 (releases_of releases) x)
unfolding tick
tick_is b a releases x = refl

state_left : (run : RunState) (rs : List ℕ) → (state_of run rs).left ≡ units_left run.left
unfolding state_of
state_left run rs = refl

state_table : (run : RunState) (seats : List ℕ) (rs : List ℕ) → state_of (with_table run seats) rs ≡ state_of run rs
unfolding state_of
state_table run seats rs = refl

module _ (speeds : List Speed) (releases : List Release) (a : ℕ) (start : RunState) (before : List ℕ) where
  pub ticked-stopped : (overrun : Overrun) (now : RunState) → Released releases a start (Err overrun) now
      → Ticked speeds releases a start before (Err overrun) before
  ticked-stopped overrun now made = record {
    tick = λ b _.
        sym (dispatched-overran b a overrun.release overrun.tick.0)
        ∙ ap (dispatched b a) (made.release b (take (length releases) before))
        ∙ sym (tick_is b a releases _);
    table = λ b _. tt;
    cursor = tt;
    rest = refl;
    long = refl;
    untouched = refl;
  }

  -- with the seats of the state after the releases, and their work
  pub ticked_going : (r : RunState) (seats : List ℕ) (w : RunState) (responses after : List ℕ)
      → Released releases a start (Ok tt) r
      → seats ≡ table (length speeds) (units_left r.left)
      → Worked speeds a (with_table r seats) (take (length releases) before) w responses
      → take (length releases) after ≡ responses
      → drop (length releases) after ≡ drop (length releases) before
      → length after ≡ length before
      → Ticked speeds releases a start before (Ok w) after
  ticked_going r seats w responses after made sits worked first rest long =
      let rs : List ℕ = take (length releases) before in
      let same_count : (b : Board) → b.speeds ≡ speeds_of speeds → length b.speeds ≡ length speeds =
      λ b same. ap (λ (l : List ℕ). length l) same ∙ speeds_length speeds in
      let seated_by : (b : Board) → b.speeds ≡ speeds_of speeds → table (length b.speeds) (state_of r rs).left ≡ seats =
      λ b same.
      ap (λ (n : ℕ). table n (state_of r rs).left) (same_count b same)
      ∙ ap (table (length speeds)) (state_left r rs)
      ∙ sym sits in
      record {
        tick = λ b same.
            ap (λ (l : List ℕ). ran (state_of w l)) first
            ∙ ap ran worked.state
            ∙ ap (λ (x : State). ran (work (speeds_of speeds) seats a x)) (state_table r seats rs)
            ∙ ap (λ (l : List ℕ). ran (work (speeds_of speeds) l a (state_of r rs))) (sym (seated_by b same))
            ∙ ap (λ (l : List ℕ). ran (work l (table (length b.speeds) (state_of r rs).left) a (state_of r rs))) (sym same)
            ∙ sym (dispatched_going b a (state_of r rs))
            ∙ ap (dispatched b a) (made.release b rs)
            ∙ sym (tick_is b a releases (state_of start rs));
        table = λ b same.
            worked.table
            ∙ sym (seated_by b same)
            ∙ sym (seats_going b (state_of r rs))
            ∙ ap (seated b) (made.release b rs);
        cursor = subst (λ (n : ℕ). Cursor (releases_of releases) n (a + 1)) (sym worked.next) made.cursor;
        rest = rest;
        long = long;
        untouched = tt;
      }

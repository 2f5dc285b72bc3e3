-- The releases of one tick, with a cursor: those still to come make of the state what the whole list makes of the first state.
-- Assumes nothing.
use Rattle.std.specs.Prelude.{◌≡◌, refl, ℕ, zero, suc, ◌+◌, ◌-◌, ◌≤◌, ◌<◌, List, [], ◌∷◌, length, get_or, set, drop, Ok, Err}
use Rattle.std.proofs.Common.{sym, ap, ◌∙◌, arith, subst, add-one, drop-cons, drop_of_length-le, length-drop, get_or-drop}
use Rattle.std.proofs.Math.Nat.{zero-add, add-zero, suc-add, add-suc}
use Rattle.paper.specs.Board.{Board}
use Rattle.paper.proofs.Laws.Tests.{on_le, on_same}
use Rattle.paper.specs.Releases as paper
use Rattle.paper.specs.Releases.{units_of}
use Rattle.paper.specs.Laws.Ranges as paper_ranges
use Rattle.paper.specs.Scheduler.{State, ran, started, release}
use Rattle.paper.proofs.Laws.Cursor.{units-named, release_waits, release_starts, release_overruns}
use Rattle.quantity.specs.Quantity.{units as no_units}
use Rattle.quantity.specs.declared.Ticks.{Ticks}
use Rattle.quantity.specs.declared.Units.{Units}
use Rattle.releases.specs.Packed.{releases_of, unpacked_release}
use Rattle.releases.specs.Places.{no_release, releases_count, release-at}
use Rattle.releases.specs.declared.Release.{Release}
use Rattle.scheduler.specs.declared.RunState.{RunState}
use Rattle.scheduler.specs.State.{state_of}
use Rattle.scheduler.specs.Laws.{left_at, left_set, since_set}
use Rattle.scheduler.specs.Steps.{Released}
use Rattle.scheduler.specs.Tick.{nth, Listed, Cursor}

-- the release in place p starts its job at place k
abbrev pub started_run : RunState → ℕ → Units → Ticks → ℕ → RunState
started_run run k u a p = record {
  left = set run.left k u;
  since = set run.since k a;
  job = set run.job k p;
  table = run.table;
  next = p + 1;
}

state_started : (run : RunState) (rs : List ℕ) (k : ℕ) (u : Units) (a : Ticks) (p : ℕ)
    → state_of (started_run run k u a p) rs ≡ started (state_of run rs) k u.0 p a.0
unfolding state_of started
state_started run rs k u a p = rw (left_set, since_set)

state_left : (run : RunState) (rs : List ℕ) (k : ℕ) → get_or (state_of run rs).left k 0 ≡ (get_or run.left k (no_units 0)).0
unfolding state_of
state_left run rs k = left_at run.left k

release_end : (b : Board) (a p q : ℕ) (x : State) → release b a p [] x ≡ release b a q [] x
unfolding release
release_end b a p q x = refl

release_none : (b : Board) (a p : ℕ) (x : State) → release b a p [] x ≡ ran x
unfolding release
release_none b a p x = refl

-- n releases of other ticks are passed over
over_others : (b : Board) (a p n : ℕ) (list : List paper.Release) (x : State) → ((i : ℕ) → i < n → (nth list i).at ≡ a → ⊥)
    → release b a p list x ≡ release b a (p + n) (drop n list) x
over_others b a p zero list x h = rw add-zero
over_others b a p (suc n) [] x h = release_end b a p (p + suc n) x
over_others b a p (suc n) (w ∷ later) x h =
    release_waits b a p w later x (h 0 (omega arith))
    ∙ over_others b a (suc p) n later x (λ i l. h (suc i) (omega arith))
    ∙ rw (add-suc, suc-add)

-- where the cursor stands, and that what is still to come is the whole
pub record Releasing (list : List paper.Release) (a : ℕ) (start run : RunState) : Type 0 where
  pub within : run.next ≤ length list
  pub passed : (p : ℕ) → p < run.next → (nth list p).at < a + 1
  pub ahead : (p : ℕ) → run.next ≤ p → p < length list → a ≤ (nth list p).at
  pub same : (b : Board) (rs : List ℕ)
      → release b a run.next (drop run.next list) (state_of run rs) ≡ release b a 0 list (state_of start rs)

module _ (releases : List Release) (time : Ticks) (start : RunState) (listed : Listed (releases_of releases)) where
  abbrev list : List paper.Release
  list = releases_of releases

  pub begins : Cursor list start.next time.0 → Releasing list time.0 start start
  begins cursor = record {
    within = cursor.within;
    passed = λ p h. let k = cursor.passed p h in omega arith;
    ahead = cursor.ahead;
    same = λ b rs.
        let others : (i : ℕ) → i < start.next → (nth list i).at ≡ time.0 → ⊥ = λ i l same. let low = cursor.passed i l in omega arith in
        sym (rw zero-add at (over_others b time.0 0 start.next list (state_of start rs) others));
  }

  module _ (run : RunState) (inv : Releasing list time.0 start run) (w : Release) (is : w ≡ get_or releases run.next no_release) where
    here_is : nth list run.next ≡ unpacked_release w
    here_is = release-at releases run.next ∙ ap unpacked_release (sym is)

    module _ (h : run.next < length releases) (here : w.at.0 ≡ time.0) where
      shown : (b : Board) (x : State) → release b time.0 run.next (drop run.next list) x
          ≡ release b time.0 run.next (unpacked_release w ∷ drop (suc run.next) list) x
      shown b x =
          let l : run.next < length list = omega (arith, releases_count releases) in
          rw (drop-cons list run.next paper_ranges.no_release l, here_is)

      -- one release more
      pub one_more : (get_or run.left (w.task - 1) (no_units 0)).0 ≡ 0
          → Releasing list time.0 start (started_run run (w.task - 1) w.units time run.next)
      one_more empty =
          let n : ℕ = run.next in
          let k : ℕ = w.task - 1 in
          let x' : paper.Release = unpacked_release w in
          let later : List paper.Release = drop (suc n) list in
          let at : (nth list n).at ≡ time.0 = ap (λ (v : paper.Release). v.at) here_is ∙ here in
          record {
            within = omega (arith, releases_count releases);
            passed = λ p l. on_le (suc p) n (λ k. inv.passed p k) (λ k. let e : p ≡ n = omega arith in rw e (omega arith));
            ahead = λ p l m. inv.ahead p (omega arith) m;
            same = λ b rs.
                let x : State = state_of run rs in
                let named : 0 < (nth list n).units = listed.named n (omega (arith, releases_count releases)) in
                let u : units_of b x' ≡ w.units.0 = units-named b x' (subst (λ (v : paper.Release). 0 < v.units) here_is named) in
                let one : release b time.0 n (x' ∷ later) x ≡ release b time.0 (suc n) later (started x k (units_of b x') n time.0)
                = release_starts b time.0 n x' later x here (state_left run rs k ∙ empty) in
                rw (state_started run rs k w.units time n, add-one n)
                (ap (λ (v : ℕ). release b time.0 (suc n) later (started x k v n time.0)) (sym u)
                ∙ sym one
                ∙ sym (shown b x)
                ∙ inv.same b rs);
          }

      -- the release at the cursor meets an unfinished job
      pub stops : ((get_or run.left (w.task - 1) (no_units 0)).0 ≡ 0 → ⊥)
          → Released releases time.0 start (Err (record { release = run.next + 1; tick = time })) run
      stops busy = record {
        release = λ b rs.
            let x : State = state_of run rs in
            let later : List paper.Release = drop (suc run.next) list in
            let met : get_or x.left (w.task - 1) 0 ≡ 0 → ⊥ = λ e. busy (sym (state_left run rs (w.task - 1)) ∙ e) in
            rw (add-one run.next)
            (sym (release_overruns b time.0 run.next (unpacked_release w) later x here met)
            ∙ sym (shown b x)
            ∙ inv.same b rs);
        cursor = tt;
      }

  -- the list rises, so what comes after a release is not before it
  rises : (p j : ℕ) → p + j < length list → (nth list p).at ≤ (nth list (p + j)).at
  rises p zero h = rw add-zero (omega arith)
  rises p (suc j) h = rw add-suc (let one = rises p j (omega arith) in let two = listed.rising (p + j) (omega arith) in omega arith)

  -- no release of this tick is left
  pub ends : (run : RunState) → Releasing list time.0 start run
      → (run.next < length releases → (get_or releases run.next no_release).at.0 ≡ time.0 → ⊥)
      → Released releases time.0 start (Ok tt) run
  ends run inv none =
      let n : ℕ = run.next in
      let here : (nth list n).at ≡ (get_or releases n no_release).at.0 = ap (λ (v : paper.Release). v.at) (release-at releases n) in
      let later : (i : ℕ) → n ≤ i → i < length list → time.0 < (nth list i).at =
      λ i l k.
      let same : n + (i - n) ≡ i = omega arith in
      let up : (nth list n).at ≤ (nth list i).at =
      subst (λ (j : ℕ). (nth list n).at ≤ (nth list j).at) same (rises n (i - n) (omega arith)) in
      let low = inv.ahead n (omega arith) (omega arith) in
      on_same (nth list n).at time.0 (λ e. absurd (none (omega (arith, releases_count releases)) (sym here ∙ e))) (λ e. omega arith) in
      record {
        release = λ b rs.
            let x : State = state_of run rs in
            let rest : List paper.Release = drop n list in
            let none_left : (i : ℕ) → i < length rest → (nth rest i).at ≡ time.0 → ⊥ =
            λ i l e.
            let m = later (n + i) (omega arith) (omega (arith, length-drop n list)) in
            omega (arith, ap (λ (v : paper.Release). v.at) (get_or-drop n list i paper_ranges.no_release)) in
            sym (over_others b time.0 n (length rest) rest x none_left
            ∙ ap (λ (l : List paper.Release). release b time.0 (n + length rest) l x) (drop_of_length-le rest (omega arith))
            ∙ release_none b time.0 (n + length rest) x)
            ∙ inv.same b rs;
        cursor = record { within = inv.within; passed = inv.passed; ahead = λ p l k. let m = later p l k in omega arith };
      }

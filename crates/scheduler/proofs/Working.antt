-- The work of one tick: the seats still to come make of the state what all of them make of the first state.
-- Assumes nothing.
use Rattle.std.specs.Prelude.{◌≡◌, ℕ, suc, ◌+◌, ◌-◌, ◌≤◌, ◌<◌, List, length, get_or, set, drop, cond, eqb}
use Rattle.std.proofs.Common.{sym, ap, ◌∙◌, arith, subst, add-one}
use Rattle.std.proofs.Math.Nat.{mul-one}
use borrow.Author.Tests.{eq-eqb, ne_eqb}
use Rattle.paper.specs.Scheduler.{answered, worked}
use Rattle.paper.specs.Scheduler as paper
use Rattle.paper.proofs.Laws.Work.{work_idle, work_taken, work_end}
use Rattle.quantity.specs.Quantity.{units, ticks, speed, over, less, speeds_of}
use Rattle.quantity.specs.Speeds.{speeds_length, speed_inside}
use Rattle.quantity.specs.declared.Speed.{Speed}
use Rattle.quantity.specs.declared.Units.{Units}
use Rattle.scheduler.specs.declared.RunState.{RunState}
use Rattle.scheduler.specs.State.{state_of}
use Rattle.scheduler.specs.Laws.{left_at, left_set, since_at}
use Rattle.scheduler.specs.Steps.{Worked}

-- what is left of the job at place k after one tick at speed s
abbrev pub left_after : RunState → ℕ → Speed → Units
left_after run k s = less (get_or run.left k (units 0)) (over s (ticks 1))

abbrev pub with_left : RunState → ℕ → Units → RunState
with_left run k u = record {
  left = set run.left k u;
  since = run.since;
  job = run.job;
  table = run.table;
  next = run.next;
}

-- the responses when place k has u units left at tick a
abbrev pub responses_after : RunState → List ℕ → ℕ → Units → ℕ → List ℕ
responses_after run responses k u a =
    cond (eqb u.0 0) (set responses (get_or run.job k 0) (a + 1 - (get_or run.since k (ticks 0)).0)) responses

pub state_worked : (run : RunState) (responses : List ℕ) (k : ℕ) (s : Speed) (a : ℕ)
    → state_of (with_left run k (left_after run k s)) (responses_after run responses k (left_after run k s) a)
    ≡ worked (state_of run responses) k s.0 a
unfolding state_of worked answered
state_worked run responses k s a = rw (left_set, mul-one, left_at, since_at)

-- how far the work has come, and that what is still to come is the whole
pub record Working (speeds : List Speed) (a : ℕ) (start : RunState) (before : List ℕ)
    (run : RunState) (after : List ℕ) (i : ℕ) : Type 0 where
  pub table : run.table ≡ start.table
  pub next : run.next ≡ start.next
  pub same : paper.work (drop i (speeds_of speeds)) (drop i start.table) a (state_of run after)
      ≡ paper.work (speeds_of speeds) start.table a (state_of start before)

module _ (speeds : List Speed) (a : ℕ) (start : RunState) (before : List ℕ) where
  module _ (run : RunState) (after : List ℕ) (i j : ℕ) (inv : Working speeds a start before run after i) (e : j ≡ i + 1)
      (h : i < length speeds) (in_table : i < length start.table) (seat : ℕ) (sits : seat ≡ get_or start.table i 0) where
    -- nobody sits there
    pub idle : seat ≡ 0 → Working speeds a start before run after j
    idle none = record {
      table = inv.table;
      next = inv.next;
      same =
          let inside : i < length (speeds_of speeds) = omega (arith, speeds_length speeds) in
          rw (e, add-one i)
          (sym (work_idle a (state_of run after) (speeds_of speeds) start.table i inside in_table (sym sits ∙ none)) ∙ inv.same);
    }

    -- the task there has its turn
    module _ (taken : seat ≡ 0 → ⊥) (k : ℕ) (place : k ≡ seat - 1) (s : Speed) (at : s ≡ get_or speeds i (speed 0))
        (u : Units) (left : u ≡ left_after run k s) where
      turn : Working speeds a start before (with_left run k u) (responses_after run after k u a) j
      turn = record {
        table = inv.table;
        next = inv.next;
        same =
            let value : s.0 ≡ get_or (speeds_of speeds) i 0 = ap (λ (v : Speed). v.0) at ∙ sym (speed_inside speeds i) in
            let there : k ≡ get_or start.table i 0 - 1 = place ∙ ap (λ (n : ℕ). n - 1) sits in
            let inside : i < length (speeds_of speeds) = omega (arith, speeds_length speeds) in
            let one : state_of (with_left run k u) (responses_after run after k u a)
            ≡ worked (state_of run after) (get_or start.table i 0 - 1) (get_or (speeds_of speeds) i 0) a =
            ap (λ (v : Units). state_of (with_left run k v) (responses_after run after k v a)) left
            ∙ state_worked run after k s a
            ∙ ap (λ (v : ℕ). worked (state_of run after) k v a) value
            ∙ ap (λ (m : ℕ). worked (state_of run after) m (get_or (speeds_of speeds) i 0) a) there in
            rw (e, add-one i)
            (ap (paper.work (drop (suc i) (speeds_of speeds)) (drop (suc i) start.table) a) one
            ∙ sym (work_taken a (state_of run after) (speeds_of speeds) start.table i inside in_table (λ z. taken (sits ∙ z)))
            ∙ inv.same);
      }

      -- and its job is complete
      pub complete : u.0 ≡ 0 → (later : List ℕ) → later ≡ set after (get_or run.job k 0) (a + 1 - (get_or run.since k (ticks 0)).0)
          → Working speeds a start before (with_left run k u) later j
      complete none later is =
          subst (λ (l : List ℕ). Working speeds a start before (with_left run k u) l j) (rw (eq-eqb u.0 0 none) (sym is)) turn

      -- and its job goes on
      pub goes_on : (u.0 ≡ 0 → ⊥) → Working speeds a start before (with_left run k u) after j
      goes_on some =
          subst (λ (l : List ℕ). Working speeds a start before (with_left run k u) l j) (rw (ne_eqb u.0 0 some)) turn

  pub ends : (run : RunState) (after : List ℕ) (i : ℕ) → Working speeds a start before run after i → length speeds ≤ i
      → Worked speeds a start before run after
  ends run after i inv h = record {
    state = sym (work_end a (state_of run after) (speeds_of speeds) start.table i (omega (arith, speeds_length speeds))) ∙ inv.same;
    table = inv.table;
    next = inv.next;
  }

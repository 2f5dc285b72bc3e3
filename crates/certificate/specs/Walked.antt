-- The walk over the tasks of a board, seen from its middle: what is known after i tasks, and what one task more adds.
-- Assumes nothing.
use Rattle.std.specs.Prelude.{◌≡◌, refl, List, [], ◌∷◌, ◌++◌, length, get_or, take, drop, map, Result, Ok, Err}
use Rattle.std.proofs.Common.{sym, ◌∙◌, subst, append-nil, length-append, length-take, drop_of_length-le}
use Rattle.std.proofs.Math.Path.{ap}
use Rattle.std.proofs.Math.Seq.{take-suc, drop-cons}
use Rattle.std.proofs.lemmas.List.{length-map, map-append}
use Prim.Native.Nat.{ℕ, zero, suc, ◌+◌, ◌*◌, ◌-◌, ◌≤◌, ◌<◌, min}
use Rattle.std.proofs.Math.Nat.{mul-le-mul, le_trans}
use Rattle.std.proofs.Math.Numerals.{add-one}
use native.Mathlib.Omega.{arith}
use borrow.Author.Count.{below_more}
use Rattle.series.specs.Series.{Series}
use Rattle.paper.specs.Board as paper
use Rattle.paper.specs.Certificate.{S, fastest, covers, covered, charge_at, charge, count_in, jobs, load, demand, need}
use Rattle.paper.specs.Certificate.{slack, broken, judge, accepted, walk}
use Rattle.paper.specs.Basics.{sum}
use Rattle.paper.proofs.Laws.Loads.{S-next, load_next, rounded_most}
use Rattle.paper.specs.Laws.Judging.{uncovered_from, prefixed}
use Rattle.paper.specs.Laws.Ranges.{TaskIn, BoardIn}
use Rattle.paper.proofs.Laws.Judging.{judge_deadline, judge-bound, judge-column, judge_fails, judge_passes}
use Rattle.paper.proofs.Laws.Judging.{prefixed_none, walk_on, walk_breaks}
use Rattle.paper.specs.declared.Refusal.{Refusal}
use Rattle.paper.specs.declared.Refusal.TheVariants.{DeadlineAbovePeriod, BoundAboveDeadline, ColumnUncovered, BoundFails}
use Rattle.quantity.specs.Quantity.{units, ticks, speed, speeds_of}
use Rattle.quantity.specs.Speeds.{speeds_length, speed_inside}
use Rattle.quantity.specs.declared.Ticks.{Ticks}
use Rattle.quantity.specs.declared.Units.{Units}
use Rattle.quantity.specs.declared.Speed.{Speed}
use Rattle.board.specs.Packed.{unpacked_task, tasks_of, unpacked}
use Rattle.board.specs.Places.{no_task, tasks_count, task-at}
use Rattle.board.specs.declared.Task.{Task}
use Rattle.board.specs.declared.Board.{Board}
use Rattle.certificate.specs.declared.columns.Column.{Column}
use Rattle.certificate.specs.Columns.{Slow, Tables, no_column}
use Rattle.certificate.specs.Bound.{Above}
use Rattle.certificate.specs.Filling.{own_slow}
use Rattle.certificate.specs.Verdicts.{packed_verdict}

-- what a walk comes to in the code
abbrev pub Judged : Type 0
Judged = Result (Series Units) Refusal

module _ (b : Board) where
  -- the paper's speeds
  abbrev pub speeds_in : List ℕ
  speeds_in = speeds_of b.speeds.items

  -- the paper's task with k tasks above it
  abbrev pub task_at : ℕ → paper.Task
  task_at k = unpacked_task (get_or b.tasks.items k no_task)

  -- the first i tasks
  abbrev pub above_in : ℕ → List paper.Task
  above_in i = tasks_of (take i b.tasks.items)

  -- the tasks from i on
  abbrev pub below_in : ℕ → List paper.Task
  below_in i = tasks_of (drop i b.tasks.items)

  -- what the whole walk comes to
  abbrev pub whole_walk : Judged
  whole_walk = packed_verdict (walk (unpacked b).speeds [] (unpacked b).tasks)

module _ (tasks : List Task) where
  pub tasks_more : (k : ℕ) → k < length tasks
      → tasks_of (take (suc k) tasks) ≡ tasks_of (take k tasks) ++ (unpacked_task (get_or tasks k no_task) ∷ [])
  tasks_more k h = rw (take-suc tasks k no_task h) (map-append unpacked_task (take k tasks) _)

  pub tasks_length : (k : ℕ) → k ≤ length tasks → length (tasks_of (take k tasks)) ≡ k
  tasks_length k h = simp (length-map, length-take) (omega arith)

-- after i tasks, all of which passed
pub record Walked (b : Board) (slacks : List Units) (i : ℕ) : Type 0 where
  pub within : i ≤ length b.tasks.items
  pub passed : List ℕ
  pub count : length passed ≡ i
  pub stored : slacks ≡ map units passed
  pub bounded : (k : ℕ) → k < i → (task_at b k).r ≤ (task_at b k).t
  pub rest : prefixed passed (walk (speeds_in b) (above_in b i) (below_in b i)) ≡ walk (speeds_in b) [] (tasks_of b.tasks.items)

module _ (b : Board) where
  -- before the first task
  pub walk_starts : Walked b [] 0
  walk_starts =
      record {
        within = omega arith;
        passed = [];
        count = refl;
        stored = refl;
        bounded = λ k l. absurd (omega arith);
        rest = prefixed_none _;
      }

  module _ {slacks : List Units} {i : ℕ} (w : Walked b slacks i) where
    -- after the last task
    pub walk_ends : length b.tasks.items ≤ i → ◌≡◌ {A = Judged} (Ok (record { items = slacks })) (whole_walk b)
    unfolding unpacked walk prefixed
    walk_ends h =
        let e = w.rest in
        rw w.stored (ap packed_verdict (ap accepted (sym (append-nil w.passed)) ∙ (rw (drop_of_length-le b.tasks.items h) at e)))

    module _ (h : i < length b.tasks.items) where
      d : below_in b i ≡ task_at b i ∷ below_in b (suc i)
      d = rw (drop-cons b.tasks.items i no_task h)

      -- a task that breaks a rule ends the walk
      pub walk-broken : (a : Refusal) → judge (speeds_in b) (above_in b i) (task_at b i) ≡ broken a
          → ◌≡◌ {A = Judged} (Err a) (whole_walk b)
      unfolding unpacked
      walk-broken a e =
          let r = w.rest in
          ap packed_verdict (sym (walk_breaks (speeds_in b) w.passed (above_in b i) (task_at b i) _ a e) ∙ (rw d at r))

      -- a task that passes leaves its slack
      pub walk_passes : (x : ℕ) → judge (speeds_in b) (above_in b i) (task_at b i) ≡ slack x → (task_at b i).r ≤ (task_at b i).t
          → Walked b (slacks ++ (units x ∷ [])) (i + 1)
      walk_passes x e t =
          let r = w.rest in
          let a : above_in b (i + 1) ≡ above_in b i ++ (task_at b i ∷ []) = rw (add-one i) (tasks_more b.tasks.items i h) in
          record {
            within = omega arith;
            passed = w.passed ++ (x ∷ []);
            count = rw (length-append, w.count);
            stored = rw (w.stored, map-append units w.passed (x ∷ []));
            bounded = below_more _ _ w.bounded t;
            rest = rw (a, add-one i) (sym (walk_on (speeds_in b) w.passed (above_in b i) (task_at b i) _ x e) ∙ (rw d at r));
          }

-- the ways out of task i, and the way on, in the order of the rules
module _ (b : Board) {slacks : List Units} {i : ℕ} (w : Walked b slacks i) (h : i < length b.tasks.items) where
  abbrev here : paper.Task
  here = task_at b i

  abbrev Refused : (ℕ → Refusal) → Type 0
  Refused a = ◌≡◌ {A = Judged} (Err (a (i + 1))) (whole_walk b)

  out : (a : ℕ → Refusal) → judge (speeds_in b) (above_in b i) here ≡ broken (a (suc (length (above_in b i)))) → Refused a
  out a e = walk-broken b w h (a (i + 1)) (rw (add-one i) (rw (tasks_length b.tasks.items i w.within) at e))

  pub out_deadline : here.t < here.d → Refused DeadlineAbovePeriod
  out_deadline d = out DeadlineAbovePeriod (judge_deadline (speeds_in b) (above_in b i) here d)

  module _ (d : here.d ≤ here.t) where
    pub out_bound : here.d < here.r → Refused BoundAboveDeadline
    out_bound r = out BoundAboveDeadline (judge-bound (speeds_in b) (above_in b i) here d r)

    module _ (r : here.r ≤ here.d) (last : ℕ) (e : last ≡ min (length b.speeds.items) i) where
      m : last ≡ min (length (speeds_in b)) (length (above_in b i))
      m = rw (speeds_length b.speeds.items, tasks_length b.tasks.items i w.within) e

      pub out_column : (j : ℕ) → j ≤ last → uncovered_from (speeds_in b) here last 0 ≡ j → Refused (λ task. ColumnUncovered task j)
      out_column j l f = out (λ task. ColumnUncovered task j) (judge-column (speeds_in b) (above_in b i) here d r j (rw m at l) (rw m at f))

      module _ (j : ℕ) (l : last < j) (f : uncovered_from (speeds_in b) here last 0 ≡ j) where
        pub out_fails : here.q * here.r ≤ demand (speeds_in b) (above_in b i) here → Refused BoundFails
        out_fails n = out BoundFails (judge_fails (speeds_in b) (above_in b i) here d r j (rw m at l) (rw m at f) n)

        pub way_on : demand (speeds_in b) (above_in b i) here < here.q * here.r
            → Walked b (slacks ++ (units (here.q * here.r - demand (speeds_in b) (above_in b i) here) ∷ [])) (i + 1)
        way_on n =
            walk_passes b w h _ (judge_passes (speeds_in b) (above_in b i) here d r j (rw m at l) (rw m at f) n) (omega arith)

-- loads and the demand

-- what one task above adds: at most a million jobs at a charge of 1,000,099
pub added_most : (window : Ticks) (task : Task) (s : Speed) → Above window task → s.0 ≤ 100
    → count_in window.0 task.r.0 task.t.0 * charge_at s.0 task.c.0 ≤ 1000099000000
added_most window task s a slow =
    let n : count_in window.0 task.r.0 task.t.0 ≤ 1000000 = le_trans (rounded_most window.0 _ _ a.opens (omega arith) a.bounded) a.closes in
    let c : charge_at s.0 task.c.0 ≤ 1000099 = omega arith in
    omega (arith, mul-le-mul n c)

module _ (speeds : List ℕ) (tasks : List Task) where
  -- the task with k tasks above it
  abbrev task_in : ℕ → Task
  task_in k = get_or tasks k no_task

  load_more : (R k : ℕ) → k < length tasks → load speeds (tasks_of (take (k + 1) tasks)) R
      ≡ load speeds (tasks_of (take k tasks)) R
      + count_in R (task_in k).r.0 (task_in k).t.0 * charge_at (fastest speeds) (task_in k).c.0
  unfolding jobs charge
  load_more R k h =
      rw (add-one k, tasks_more tasks k h) (load_next speeds (tasks_of (take k tasks)) (unpacked_task (task_in k)) R)

  -- the load with one more task above
  pub load_with : (R k : ℕ) (u : Units) (s : Speed) → k < length tasks
      → u ≡ units (load speeds (tasks_of (take k tasks)) R) → s.0 ≡ fastest speeds
      → units (u.0 + count_in R (task_in k).r.0 (task_in k).t.0 * charge_at s.0 (task_in k).c.0)
      ≡ units (load speeds (tasks_of (take (k + 1) tasks)) R)
  load_with R k u s h e f = rw (load_more R k h, e, f)

module _ (b : Board) where
  -- the demand once all tasks above are counted
  pub demand_with : (i k : ℕ) (u : Units) → u ≡ units (load (speeds_in b) (above_in b k) (task_at b i).r) → k ≡ i
      → units ((task_at b i).y * u.0 + (task_at b i).z * need (speeds_in b) (task_at b i).c)
      ≡ units (demand (speeds_in b) (above_in b i) (task_at b i))
  unfolding demand
  demand_with i k u e f = rw (e, f)

-- speeds and loads, and how large they can be

module _ (b : Board) (ranged : BoardIn (unpacked b)) where
  pub ranged_task : (k : ℕ) → k < length b.tasks.items → TaskIn (task_at b k)
  ranged_task k h = subst TaskIn (task-at b k) (ranged.task k (rw (tasks_count b) h))

  pub slow : Slow b.speeds.items
  unfolding unpacked
  slow = record { each = λ p h. rw (← speed_inside b.speeds.items p) (ranged.speed p (rw (speeds_length b.speeds.items) h)).high }

  pub fastest_slow : fastest (speeds_in b) ≤ 100
  fastest_slow = own_slow b.speeds.items 0 slow

  pub S-slow : (j : ℕ) → S (speeds_in b) j ≤ 100 * j
  unfolding S sum
  S-slow zero = omega arith
  S-slow (suc j) = omega (arith, S-next (speeds_in b) j, S-slow j, own_slow b.speeds.items j slow)

  -- a million jobs of a million units each, for each task above
  pub load_most : (R k : ℕ) → 1 ≤ R → R ≤ 1000000 → k ≤ length b.tasks.items → ((a : ℕ) → a < k → (task_at b a).r ≤ (task_at b a).t)
      → load (speeds_in b) (above_in b k) R ≤ 1000099000000 * k
  unfolding load sum
  load_most R zero h g l t = omega arith
  load_most R (suc k) h g l t =
      let i = ranged_task k (omega arith) in
      let a : Above (ticks R) (get_or b.tasks.items k no_task) =
      record { opens = h; closes = g; work = i.c.high; starts = i.r.low; bounded = t k (omega arith); returns = i.t.high } in
      omega (
        arith,
        added_most (ticks R) (get_or b.tasks.items k no_task) (speed (fastest (speeds_in b))) a fastest_slow,
        rw (add-one k) at (load_more (speeds_in b) b.tasks.items R k (omega arith)),
        load_most R k h g (omega arith) (λ a l. t a (omega arith)),
      )

-- the speeds of a column are those of the tables
pub column_is : (speeds : List ℕ) (columns : List Column) (k : paper.Task) (j : ℕ) → Tables speeds columns → j < 9
    → covers (get_or columns j no_column).sum.0 (get_or columns j no_column).own.0 k.y k.z k.q ≡ covered speeds k j
unfolding covered
column_is speeds columns k j tables h = rw (tables.sums j h, tables.own j h)

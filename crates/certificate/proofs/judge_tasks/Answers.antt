-- The walk over the tasks, one test after another: each way out of a task is the paper's, and so is the way on to the next, by the laws
-- of the walk seen from its middle.
use Rattle.std.proofs.Common.{◌≡◌, refl, sym, ap, ◌∙◌, ℕ, ◌+◌, ◌<◌, ◌≤◌, min, List, Bool, length, get_or, take}
use Rattle.std.proofs.Common.{arith, length-take, get_or-take}
use Rattle.std.specs.Prelude.{Option, Some, None}
use Rattle.paper.proofs.Laws.Judging.{column-covered, column_uncovered, columns_end}
use Rattle.paper.specs.Certificate.{fastest, covers, covered}
use Rattle.paper.specs.Laws.Judging.{uncovered_from}
use Rattle.board.specs.Places.{no_task, speeds_count, tasks_count}
use Rattle.paper.specs.Laws.Ranges.{BoardIn}
use Rattle.board.specs.Packed.{unpacked}
use Rattle.paper.specs.Board.{Task}
use Rattle.board.specs.declared.Board.{Board}
use Rattle.certificate.specs.Columns.{Tables, Columned, no_column}
use Rattle.certificate.specs.declared.columns.Column.{Column}
use Rattle.certificate.specs.Filling.{own_slow}
use Rattle.certificate.specs.Walked.{speeds_in, task_at, ranged_task, slow, fastest_slow, S-slow, column_is}
use Rattle.certificate.specs.Walked.{walk_starts, walk_ends, out_deadline, out_bound, out_column, out_fails, way_on}
use Rattle.certificate.proofs.Order.{less, not_less}
use Rattle.certificate.proofs.judge_tasks.Goals as goal
use Rattle.certificate.proofs.judge_tasks.Goals.{After-min-last, After-slack_of, else-search-test, then-search-test+then-not-covers}

none_some : {x : ℕ} → ◌≡◌ {A = Option ℕ} (Some x) None → ⊥
none_some e = cc

some_same : {x y : ℕ} → ◌≡◌ {A = Option ℕ} (Some x) (Some y) → x ≡ y
some_same e = cc

-- column j of the first n columns is column j of all
searched : (columns : List Column) (n j : ℕ) → j < length (take n columns)
    → (j < n) × (j < length columns) × (get_or (take n columns) j no_column ≡ get_or columns j no_column)
searched columns n j h =
    let i : j < n = omega (arith, length-take n columns) in
    (i, omega (arith, length-take n columns), get_or-take n columns j no_column i)

-- what the test of a column tells
module _ (b : Board) (columns : List Column) (i n j : ℕ) (tables : Tables (speeds_in b) columns) (h : j < length (take n columns)) where
  abbrev column : Column
  column = get_or (take n columns) j no_column

  abbrev here : Task
  here = task_at b i

  tested : (r : Bool) → r ≡ covers column.sum.0 column.own.0 here.y here.z here.q → r ≡ covered (speeds_in b) here j
  tested r e =
      let s = searched columns n j h in
      (rw s.2 at e) ∙ column_is (speeds_in b) columns here j tables (omega (arith, tables.count))

  -- and that its sums fit
  columned : BoardIn (unpacked b) → i < length b.tasks.items → Columned column (get_or b.tasks.items i no_task)
  columned ranged more =
      let s = searched columns n j h in
      let l : j < 9 = omega (arith, tables.count) in
      let t = ranged_task b ranged i more in
      rw s.2
      (record {
        slow_sum = omega (arith, tables.sums j l, S-slow b ranged j);
        slow_own = omega (arith, tables.own j l, own_slow b.speeds.items j (slow b ranged));
        by_y = t.y.high;
        by_z = t.z.high;
      })

pub columns_of-columns-requires : goal.columns_of-columns-requires
columns_of-columns-requires c = rw c.deref.ensures.0 (slow c.args.board.now c.requires.ranged)

pub loop-i-init : goal.loop-i-init
loop-i-init c = rw c.new-slacks.ensures (walk_starts _)

pub returns-then-lt : goal.returns-then-lt
returns-then-lt c =
    let e = c.deref-task-items.ensures.0 in
    let x = get_or c.deref-task-items.result.now c.loop-i.i no_task in
    let l = less x.t.0 x.d.0 c.lt.ensures c.if-lt.true in
    out_deadline c.args.board.now c.loop-i.invariant (rw e at c.loop-i-test.true) (rw e at l)

pub returns-then-lt-2 : goal.returns-then-lt-2
returns-then-lt-2 c =
    let e = c.deref-task-items.ensures.0 in
    let x = get_or c.deref-task-items.result.now c.loop-i.i no_task in
    let d = not_less x.t.0 x.d.0 c.lt.ensures c.if-lt.false in
    let r = less x.d.0 x.r.0 c.lt-in-loop-i.ensures c.if-lt-2.true in
    out_bound c.args.board.now c.loop-i.invariant (rw e at c.loop-i-test.true) (rw e at d) (rw e at r)

-- what is known of task i once the rules 4 and 5 are passed: there is such a task, its bound is within its deadline and that within its
-- period, and the last column to be searched is the paper's
module _ (c : After-min-last) where
  more : c.loop-i.i < length c.args.board.now.tasks.items
  more = rw c.deref-task-items.ensures.0 at c.loop-i-test.true

  d_in : (task_at c.args.board.now c.loop-i.i).d ≤ (task_at c.args.board.now c.loop-i.i).t
  d_in =
      let x = get_or c.deref-task-items.result.now c.loop-i.i no_task in
      let d = not_less x.t.0 x.d.0 c.lt.ensures c.if-lt.false in
      rw c.deref-task-items.ensures.0 at d

  r_in : (task_at c.args.board.now c.loop-i.i).r ≤ (task_at c.args.board.now c.loop-i.i).d
  r_in =
      let x = get_or c.deref-task-items.result.now c.loop-i.i no_task in
      let r = not_less x.d.0 x.r.0 c.lt-in-loop-i.ensures c.if-lt-2.false in
      rw c.deref-task-items.ensures.0 at r

  last_is : c.min-last.result ≡ min (length c.args.board.now.speeds.items) c.loop-i.i
  last_is = c.min-last.ensures ∙ ap (λ n. min n c.loop-i.i) c.len.ensures.value

  few : c.min-last.result ≤ 8
  few = omega (arith, last_is, speeds_count c.args.board.now, c.requires.ranged.procs.high)

  tables : Tables (speeds_in c.args.board.now) c.columns_of-columns.result
  tables = rw c.deref.ensures.0 at c.columns_of-columns.ensures

pub covers-requires : goal.covers-requires
covers-requires c =
    let a = (goal.at.covers-requires c).After-min-last in
    rw c.deref-task-items.ensures.0
    (columned c.args.board.now c.columns_of-columns.result c.loop-i.i _ c.search.j (tables a) c.search-test.true c.requires.ranged (more a))

pub search-preserved : goal.search-preserved
search-preserved c =
    let b = c.args.board.now in
    let j = c.search.j in
    let columns = c.columns_of-columns.result in
    let a = (goal.at.search-preserved c).After-min-last in
    let h : j ≤ c.min-last.result = omega (arith, (searched columns _ j c.search-test.true).0) in
    let e = rw c.deref-task-items.ensures.0 at c.covers.ensures in
    let t = tested b columns c.loop-i.i _ j (tables a) c.search-test.true c.covers.result e in
    record {
      none = c.search.invariant.none;
      covered =
          sym (column-covered (speeds_in b) (task_at b c.loop-i.i) c.min-last.result j h (sym t ∙ c.if-not-covers.false))
          ∙ c.search.invariant.covered;
    }

pub returns-in-Some : goal.returns-in-Some
returns-in-Some c =
    let b = c.args.board.now in
    let i = c.loop-i.i in
    let j = c.search.j in
    let last = c.min-last.result in
    let columns = c.columns_of-columns.result in
    let a = (goal.at.returns-in-Some c).After-min-last in
    elim c.search-test.branch [
      | else-search-test w ↦ absurd (none_some (sym c.in-Some.is ∙ w.uncovered-is ∙ c.search.invariant.none))
      | then-search-test+then-not-covers w ↦
          let h : j ≤ last = omega (arith, (searched columns _ j w.search-test.true).0) in
          let e = rw c.deref-task-items.ensures.0 at w.covers.ensures in
          let t = tested b columns i _ j (tables a) w.search-test.true w.covers.result e in
          let f = sym c.search.invariant.covered ∙ column_uncovered (speeds_in b) (task_at b i) last j h (sym t ∙ w.if-not-covers.true) in
          let g : c.in-Some.column ≡ j = some_same (sym c.in-Some.is ∙ w.uncovered-is) in
          rw g (out_column b c.loop-i.invariant (more a) (d_in a) (r_in a) last (last_is a) j h f)
    ]

pub slack_of-requires : goal.slack_of-requires
slack_of-requires c =
    let b = c.args.board.now in
    let i = c.loop-i.i in
    let a = (goal.at.slack_of-requires c).After-min-last in
    let t = ranged_task b c.requires.ranged i (more a) in
    rw (c.deref-task-items.ensures.0, c.deref-in-loop-i.ensures.0)
    (record {
      loads =
          record {
            few = simp length-take (omega (arith, more a, tasks_count b, c.requires.ranged.tasks.high));
            each = λ k l.
                let g : k < i = omega (arith, length-take i b.tasks.items) in
                let above = ranged_task b c.requires.ranged k (omega (arith, more a)) in
                rw (get_or-take i b.tasks.items k no_task g)
                (record {
                  opens = t.r.low;
                  closes = t.r.high;
                  work = above.c.high;
                  starts = above.r.low;
                  bounded = c.loop-i.invariant.bounded k g;
                  returns = above.t.high;
                });
            slow = omega (arith, (tables a).own 0 (omega arith), fastest_slow b c.requires.ranged);
          };
      work = t.c.high;
      by_y = t.y.high;
      by_z = t.z.high;
    })

-- once the search is over with no column found
covered_all : (c : After-slack_of) → c.min-last.result ≤ 8
    → c.min-last.result < uncovered_from (speeds_in c.args.board.now) (task_at c.args.board.now c.loop-i.i) c.min-last.result 0
covered_all c few =
    let b = c.args.board.now in
    let i = c.loop-i.i in
    let j = c.search.j in
    let last = c.min-last.result in
    elim c.search-test.branch [
      | else-search-test w ↦
          let h : last < j =
          omega (
            arith,
            few,
            length-take (last + 1) c.columns_of-columns.result,
            c.columns_of-columns.ensures.count,
            w.search-test.false,
          ) in
          rw (sym c.search.invariant.covered ∙ columns_end (speeds_in b) (task_at b i) last j h) h
      | then-search-test+then-not-covers w ↦ absurd (none_some (sym w.uncovered-is ∙ c.in_default.is))
    ]

-- the fastest speed is the first column's own
fastest_is : (c : After-slack_of) → (get_or c.columns_of-columns.result 0 no_column).own.0 ≡ fastest (speeds_in c.args.board.now)
fastest_is c = (rw c.deref.ensures.0 at c.columns_of-columns.ensures).own 0 (omega arith)

pub returns-in_default-slack_of : goal.returns-in_default-slack_of
returns-in_default-slack_of c =
    let b = c.args.board.now in
    let a = (goal.at.returns-in_default-slack_of c).After-min-last in
    let s = (goal.at.returns-in_default-slack_of c).After-slack_of in
    let n = c.in_default-slack_of.ensures (speeds_in b) (fastest_is s) in
    out_fails b c.loop-i.invariant (more a) (d_in a) (r_in a) c.min-last.result (last_is a) _ (covered_all s (few a)) refl
    (rw (c.deref-task-items.ensures.0, c.deref-in-loop-i.ensures.0) at n)

pub loop-i-preserved : goal.loop-i-preserved
loop-i-preserved c =
    let b = c.args.board.now in
    let a = (goal.at.loop-i-preserved c).After-min-last in
    let s = (goal.at.loop-i-preserved c).After-slack_of in
    let n = rw (c.deref-task-items.ensures.0, c.deref-in-loop-i.ensures.0) at (c.in-Some-slack_of.ensures (speeds_in b) (fastest_is s)) in
    rw (c.push.ensures, n.1)
    (way_on b c.loop-i.invariant (more a) (d_in a) (r_in a) c.min-last.result (last_is a) _ (covered_all s (few a)) refl n.0)

pub returns : goal.returns
returns c =
    let g : length c.deref-task-items.result.now ≤ c.loop-i.i = c.loop-i-test.false in
    walk_ends c.args.board.now c.loop-i.invariant (rw c.deref-task-items.ensures.0 at g)

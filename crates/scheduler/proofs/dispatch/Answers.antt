-- `scheduler::dispatch` meets its contract: the walk over an empty place changes nothing, over a ready one it fills the next seat, and
-- with no seat or no place left it leaves the table as it is.
use Rattle.std.proofs.Common.{arith, ◌≡◌, ◌<◌, ◌∙◌, sym, add-one, length, ℕ, List, get_or}
use Rattle.paper.specs.Scheduler.{table}
use Rattle.paper.specs.Laws.Seats.{seats_from}
use Rattle.paper.proofs.Laws.Seats.{seats_begin, seats_empty, seats_taken, seats_end}
use Rattle.quantity.specs.declared.Units.{Units}
use Rattle.scheduler.specs.State.{units_left}
use Rattle.scheduler.specs.Laws.{left_at, length_left}
use Rattle.scheduler.proofs.Tests.{other_if, same_if_not}
use Rattle.scheduler.proofs.dispatch.Goals as goal
use Rattle.scheduler.proofs.dispatch.Goals.{then-ne+else-seated-procs, else-ne}

pub loop-i-init : goal.loop-i-init
loop-i-init c = record { walk = seats_begin c.args.procs (units_left c.args.left.now) c.requires.few; few = omega arith }

pub loop-i-preserved : goal.loop-i-preserved
loop-i-preserved c =
    let us : List Units = c.args.left.now in
    let m : ℕ = c.args.procs in
    let i : ℕ = c.loop-i.i in
    let n : ℕ = c.loop-i.seated in
    let t : List ℕ = c.loop-i.table in
    let left : List ℕ = units_left us in
    let inv : seats_from m left t n i ≡ table m left = c.loop-i.invariant.walk in
    let h : i < length left = omega (arith, length_left us) in
    elim c.if-ne.branch [
      | then-ne+else-seated-procs w ↦
          let full = w.if-seated-procs.false in
          let ready : get_or left i 0 ≡ 0 → ⊥ = λ e. other_if _ _ _ c.ne.ensures w.if-ne.true (sym (left_at us i) ∙ e) in
          rw (w.table-is, w.seated-is)
          (record {
            walk = rw (add-one n, add-one i) (seats_taken m left t n i h ready (omega arith)) ∙ inv;
            few = omega arith;
          })
      | else-ne w ↦
          rw (w.table-is, w.seated-is)
          (record {
            walk = rw (add-one i) (seats_empty m left t n i h (left_at us i ∙ same_if_not _ _ _ c.ne.ensures w.if-ne.false)) ∙ inv;
            few = omega arith;
          })
    ]

pub returns-after-loop-i : goal.returns-after-loop-i
returns-after-loop-i c =
    let us : List Units = c.args.left.now in
    sym (seats_end c.args.procs (units_left us) c.loop-i.table c.loop-i.seated c.loop-i.i (omega (arith, length_left us)))
    ∙ c.loop-i.invariant.walk

-- `scheduler::work` meets its contract: an idle seat changes nothing, a taken one does the paper's work of one tick, and the walk ends
-- at the last processor.
use Rattle.std.proofs.Common.{arith, rules, ◌≡◌, ◌∙◌, ap, length, length-append, get_or, set, ℕ, List}
use Rattle.std.proofs.lemmas.Slice.Zip.{zip_turn, zip_end}
use Rattle.quantity.specs.Quantity.{speed, units, less}
use Rattle.quantity.specs.declared.Ticks.{Ticks}
use Rattle.scheduler.proofs.Working.{idle, complete, goes_on, ends}
use Rattle.scheduler.proofs.Tests.{same_if, other_if_not}
use Rattle.scheduler.proofs.work.Goals as goal

pub loop-speed-preserved-in_default : goal.loop-speed-preserved-in_default
loop-speed-preserved-in_default c =
    let s = c.args in
    let l = c.loop-speed in
    let seats : List ℕ = s.run.now.table in
    let t = zip_turn s.speeds.now seats l.yielded c.into_iter-speed-iterator.result l.speed-iterator c.next.new.self _
    (search rules) (search rules) l.yielded_by _ c.in-Some.is c.next.ensures.steps in
    idle s.speeds.now s.time.0 s.run.now s.responses.now l.run l.responses _ _ l.invariant (length-append l.yielded _)
    t.0 t.1 _ (t.3 0)
    (omega (arith, c.in_default.ensures))

pub loop-speed-preserved-then-eq : goal.loop-speed-preserved-then-eq
loop-speed-preserved-then-eq c =
    let s = c.args in
    let l = c.loop-speed in
    let seats : List ℕ = s.run.now.table in
    let t = zip_turn s.speeds.now seats l.yielded c.into_iter-speed-iterator.result l.speed-iterator c.next.new.self _
    (search rules) (search rules) l.yielded_by _ c.in-Some.is c.next.ensures.steps in
    let place : ℕ = c.in-Some-checked_sub.place in
    let taken = c.in-Some-checked_sub.ensures in
    complete s.speeds.now s.time.0 s.run.now s.responses.now l.run l.responses _ _ l.invariant (length-append l.yielded _)
    t.0 t.1 _ (t.3 0)
    (λ z. omega (arith, taken)) place taken.1 c.in-Some.speed.now (t.2 (speed 0)) c.less-left.result
    (c.less-left.ensures ∙ ap (less (get_or l.run.left place (units 0))) c.over.ensures)
    (same_if _ _ _ c.eq.ensures c.if-eq.true) _
    (c.answer.ensures ∙ ap (λ (v : Ticks). set l.responses (get_or l.run.job place 0) v.0) c.through.ensures)

pub loop-speed-preserved : goal.loop-speed-preserved
loop-speed-preserved c =
    let s = c.args in
    let l = c.loop-speed in
    let seats : List ℕ = s.run.now.table in
    let t = zip_turn s.speeds.now seats l.yielded c.into_iter-speed-iterator.result l.speed-iterator c.next.new.self _
    (search rules) (search rules) l.yielded_by _ c.in-Some.is c.next.ensures.steps in
    let place : ℕ = c.in-Some-checked_sub.place in
    let taken = c.in-Some-checked_sub.ensures in
    goes_on s.speeds.now s.time.0 s.run.now s.responses.now l.run l.responses _ _ l.invariant (length-append l.yielded _)
    t.0 t.1 _ (t.3 0)
    (λ z. omega (arith, taken)) place taken.1 c.in-Some.speed.now (t.2 (speed 0)) c.less-left.result
    (c.less-left.ensures ∙ ap (less (get_or l.run.left place (units 0))) c.over.ensures)
    (other_if_not _ _ _ c.eq.ensures c.if-eq.false)

pub returns : goal.returns
returns c =
    let s = c.args in
    let l = c.loop-speed in
    let seats : List ℕ = s.run.now.table in
    let t = zip_end s.speeds.now seats l.yielded c.into_iter-speed-iterator.result l.speed-iterator c.next.new.self _
    (search rules) (search rules) l.yielded_by c.in-None.is c.next.ensures.steps in
    let eight : length seats ≡ 8 = search rules in
    ends s.speeds.now s.time.0 s.run.now s.responses.now l.run l.responses _ l.invariant (omega (arith, c.requires.few))

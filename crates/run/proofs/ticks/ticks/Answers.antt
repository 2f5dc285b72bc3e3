-- `ticks::ticks` makes the ticks of the paper's run: a tick more keeps the invariant, and a release that meets an unfinished job ends it.
use Rattle.std.proofs.lemmas.Result.{err_from_is_err_and}
use Rattle.run.specs.Going.{going_first, going_next, going_ended, going_last}
use Rattle.run.proofs.ticks.ticks.Goals as goal

pub loop-tick-init : goal.loop-tick-init
loop-tick-init c = going_first _ _ _ _ c.requires _ c.fresh-run.ensures

pub loop-tick-preserved : goal.loop-tick-preserved
loop-tick-preserved c =
    going_next _ _ _ _ _ _ _ c.loop-tick.invariant c.loop-tick-test.true _ _ c.in_ok-step.ensures.ticked

pub returns-in_err-step : goal.returns-in_err-step
returns-in_err-step c =
    let p = err_from_is_err_and c.from_residual.result c.from_residual.ensures.1 in
    rw (p.1, p.2) (going_ended _ _ _ _ _ _ _ c.loop-tick.invariant c.loop-tick-test.true _ _ c.in_err-step.ensures.ticked)

pub returns : goal.returns
returns c = going_last _ _ _ _ _ _ _ c.loop-tick.invariant c.loop-tick-test.false

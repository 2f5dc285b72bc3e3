-- `ticks::ticks` makes the ticks of the paper's run. The invariant is the record Going: before tick a the state is the paper's after a
-- ticks, the lent places past the releases are as they were, and the state's table is that of tick a − 1.
use Rattle.run.specs.Going.{Going}
use Rattle.run.proofs.ticks.ticks.Given as goal

abbrev pub invariant-loop-tick : goal.invariant-loop-tick
invariant-loop-tick l = Going l.speeds l.releases l.fn.horizon.0 l.initial.places l.run l.places l.tick

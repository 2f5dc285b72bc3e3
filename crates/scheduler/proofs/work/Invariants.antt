-- The invariant of `scheduler::work`: what the seats still to come make of the state is what all of them make of the first one.
use Rattle.std.proofs.Common.{length}
use Rattle.scheduler.proofs.Working.{Working}
use Rattle.scheduler.proofs.work.Given as goal

abbrev pub invariant-loop-speed : goal.invariant-loop-speed
invariant-loop-speed l = Working l.speeds l.time.0 l.fn.run l.fn.responses l.run l.responses (length l.yielded)

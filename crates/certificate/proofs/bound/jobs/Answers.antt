-- The job count is a quotient rounded up, and none of its sums wraps.
use Rattle.paper.specs.Basics.{rounded_up}
use Rattle.certificate.proofs.bound.jobs.Goals as goal

pub returns : goal.returns
unfolding rounded_up
returns c = c.from.ensures

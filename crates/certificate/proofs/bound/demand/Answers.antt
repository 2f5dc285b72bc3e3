-- Both products of the demand fit, and so does their sum.
use Rattle.std.proofs.Common.{ap, arith}
use Rattle.paper.specs.Certificate.{need}
use Rattle.quantity.specs.Quantity.{units}
use Rattle.certificate.proofs.bound.demand.Goals as goal

pub returns : goal.returns
unfolding need
returns c speeds =
    rw (c.plus.ensures, c.times-2.ensures, c.less.ensures, c.times.ensures, c.from.ensures, c.from-2.ensures)
    (ap units (omega arith))

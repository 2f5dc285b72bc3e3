-- The slack of a task: its demand is that of the paper, with the load of the tasks above, and the test against the bound decides.
use Rattle.std.proofs.Common.{refl}
use Rattle.paper.specs.Certificate.{demand}
use Rattle.certificate.proofs.Order.{less, not_less}
use Rattle.certificate.proofs.bound.slack_of.Goals as goal

pub demand-needed-requires : goal.demand-needed-requires
demand-needed-requires c = record { loaded = c.load.ensures.light; work = c.requires.work; by_y = c.requires.by_y; by_z = c.requires.by_z }

pub returns-then-lt : goal.returns-then-lt
unfolding demand
returns-then-lt c = λ speeds e.
    let n = rw (c.load.ensures.loaded speeds e) at (c.demand-needed.ensures speeds) in
    let l = less c.demand-needed.result.0 c.over-bound.result.0 c.lt.ensures c.if-lt.true in
    (rw (n, c.over-bound.ensures) at l, rw (c.less.ensures, n, c.over-bound.ensures) refl)

pub returns-else-lt : goal.returns-else-lt
unfolding demand
returns-else-lt c = λ speeds e.
    let n = rw (c.load.ensures.loaded speeds e) at (c.demand-needed.ensures speeds) in
    let l = not_less c.demand-needed.result.0 c.over-bound.result.0 c.lt.ensures c.if-lt.false in
    rw (n, c.over-bound.ensures) at l

-- The load grows by one task's job count times its charge, which is at most a million times 1,000,099: so no sum wraps.
use Rattle.std.proofs.Common.{refl, ap, ◌*◌, ◌≤◌, arith}
use Rattle.std.proofs.Math.Nat.{mul_comm}
use Rattle.paper.specs.Basics.{sum}
use Rattle.paper.specs.Certificate.{load}
use Rattle.quantity.specs.declared.Units.{Units}
use Rattle.certificate.specs.Walked.{added_most, load_with}
use Rattle.certificate.proofs.bound.load.Goals as goal
use Rattle.certificate.proofs.bound.load.Goals.{After-jobs}

-- what one task adds, as the code writes it
added : (c : After-jobs) → c.charge.result.0 * c.jobs.result ≤ 1000099000000
added c =
    let above = c.requires.each c.loop-task.task-index c.loop-task-test.true in
    rw (c.charge.ensures, c.jobs.ensures, mul_comm) (added_most c.args.window _ c.args.fastest above c.requires.slow)

pub times-requires : goal.times-requires
times-requires c = omega (arith, added (goal.at.times-requires c).After-jobs)

pub plus-load-requires : goal.plus-load-requires
plus-load-requires c =
    omega (arith, added (goal.at.plus-load-requires c).After-jobs, ap (λ (u : Units). u.0) c.times.ensures)

pub loop-task-init : goal.loop-task-init
unfolding load sum
loop-task-init c = record { loaded = λ speeds e. refl; light = omega arith }

pub loop-task-preserved : goal.loop-task-preserved
loop-task-preserved c =
    let so_far = c.loop-task.invariant.loaded in
    record {
      loaded = λ speeds e.
          rw (c.plus-load.ensures, c.times.ensures, c.charge.ensures, c.jobs.ensures, mul_comm)
          (load_with speeds c.args.above.now c.args.window.0 c.loop-task.task-index c.loop-task.load c.args.fastest c.loop-task-test.true
          (so_far speeds e) e);
      light =
          omega (
            arith,
            added (goal.at.loop-task-preserved c).After-jobs,
            ap (λ (u : Units). u.0) c.times.ensures,
            ap (λ (u : Units). u.0) c.plus-load.ensures,
          );
    }

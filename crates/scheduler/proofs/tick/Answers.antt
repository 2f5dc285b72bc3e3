-- `scheduler::tick` meets its contract: the releases, then the seats, and each seat's work is the paper's.
use Rattle.std.proofs.Common.{rules, arith, ◌≡◌, ◌≤◌, length, length-append, length-drop, drop, ℕ, List}
use Rattle.std.proofs.lemmas.List.{take_at, drop_at}
use Rattle.std.proofs.lemmas.Result.{err_from_is_err_and}
use Rattle.scheduler.proofs.Ticking.{seat_within, ticked-stopped, ticked_going}
use Rattle.scheduler.proofs.tick.Goals as goal

pub returns-in_err-release_due : goal.returns-in_err-release_due
returns-in_err-release_due c =
    let s = c.args in
    let p = err_from_is_err_and c.from_residual.result c.from_residual.ensures.1 in
    rw (p.1, p.2)
    (ticked-stopped s.speeds.now s.releases.now s.time.0 s.start s.places.now c.in_err-release_due.field-0.0 c.release_due.new.run
    c.in_err-release_due.ensures)

pub work-requires-clause-seats : goal.work-requires-clause-seats
work-requires-clause-seats c =
    λ i _. seat_within (length c.args.speeds.now) c.release_due.new.run.left c.dispatch-run.result c.dispatch-run.ensures i

pub returns : goal.returns
returns c =
    let s = c.args in
    let count : ℕ = length s.releases.now in
    let rest : List ℕ = drop count s.places.now in
    let later : List ℕ = c.work.new.responses in
    let lent : count ≤ length s.places.now = c.requires.standing.lent in
    let all : length later ≡ count = search rules in
    ticked_going s.speeds.now s.releases.now s.time.0 s.start s.places.now c.release_due.new.run c.dispatch-run.result c.work.new.run
    later _ c.in_ok-release_due.ensures c.dispatch-run.ensures c.work.ensures
    (take_at later rest count all) (drop_at later rest count all)
    (omega (arith, length-append later rest, length-drop count s.places.now))

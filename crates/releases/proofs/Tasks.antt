-- What the board's tasks are to the paper, for the tests of one release.
use Rattle.std.proofs.lemmas.Bool.Decides.{nat_tests}
use Rattle.board.specs.Places.{tasks_count, task-at}

pub ruleset on_tasks = (nat_tests, tasks_count, task-at)

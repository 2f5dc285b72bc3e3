-- P1 to P11: one statement over one list of cases, each from the bytes of a text on.
use Rattle.std.specs.Prelude.{◌≡◌, refl, map}
use Rattle.paper.specs.Basics.{bytes, bytes_from, sum, rounded_up, decimal, decimal_in}
use Rattle.paper.specs.Text.{whole, at_end, one, numbered, after_key, ranged, number_at, digits, times, and_then}
use Rattle.paper.specs.Board.{read_board, read_task}
use Rattle.paper.specs.Certificate.{judged, unless_rising, rising, walk, followed_by, with_slack, judge, demand, load, jobs, charge, need, first_uncovered, covered, S}
use Rattle.paper.specs.Releases.{read_release, read_releases, units_of, rises, apart, fault_or, legal_from, legality}
use Rattle.paper.specs.Scheduler.{fresh, started, release, ready, table, answered, worked, work, dispatched, tick, ticked, after, released, seated, seats}
use Rattle.paper.specs.Check.{check, check_read, checked_as}
use Rattle.paper.specs.Run.{run, run_read, run_board, unless_faster, unless_late, unless_illegal, read_both, late, finished}
use Rattle.paper.specs.Tables.{table as table_of, table_read, table_board, table_unless_illegal, seated_in, table_at, ticks_to}
use Rattle.paper.specs.Output.{printed, printed_all, printed_numbers, check_prints}
use Rattle.paper.specs.Cases.{task_lines, board, release_lines, ticks, told, expected, cases}

-- P1 to P11
pub paper : map told cases ≡ map expected cases
unfolding told expected board task_lines ticks release_lines bytes bytes_from sum rounded_up decimal decimal_in whole at_end one numbered after_key ranged number_at digits times and_then read_board read_task read_release read_releases read_both judged unless_rising rising walk followed_by with_slack judge demand load jobs charge need first_uncovered covered S units_of rises apart fault_or legal_from legality fresh started release ready table answered worked work dispatched tick ticked after released seated seats table_of table_read table_board table_unless_illegal seated_in table_at ticks_to check check_read checked_as run run_read run_board unless_faster unless_late unless_illegal late finished printed printed_all printed_numbers check_prints
paper = refl

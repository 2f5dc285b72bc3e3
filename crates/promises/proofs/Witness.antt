-- What demand 3 asks for is met: board B with the list of P7, whose responses 7 and 11 stay within the bounds 7 and 12.
-- Assumes nothing.
use Rattle.std.specs.Prelude.{refl, List, [], ◌∷◌, ℕ, replicate}
use Rattle.std.proofs.Common.{arith}
use Rattle.paper.specs.Basics.{bytes, bytes_from, sum, rounded_up}
use Rattle.paper.specs.Text.{whole, at_end, one, numbered, after_key, ranged, number_at, digits, times, and_then}
use Rattle.paper.specs.Board.{Task, read_board, read_task}
use Rattle.paper.specs.Certificate.{judged, unless_rising, rising, walk, followed_by, with_slack, judge, demand, load, jobs, charge, need, first_uncovered, covered, S}
use Rattle.paper.specs.Releases.{Release, read_release, read_releases, rises, apart, fault_or, legal_from, legality}
use Rattle.paper.specs.Check.{check, check_read, checked_as}
use Rattle.paper.specs.Run.{Both, read_both}
use Rattle.promises.specs.Promises.{Asked}

abbrev board_b : List ℕ
board_b = bytes "procs=3\ns=7\ns=2\ns=1\ntasks=4\nc=49\nd=1000\nt=1000\nr=7\ny=0\nz=1\nq=7\nc=14\nd=1000\nt=1000\nr=8\ny=5\nz=7\nq=49\nc=7\nd=1000\nt=1000\nr=9\ny=5\nz=7\nq=49\nc=21\nd=1000\nt=1000\nr=12\ny=5\nz=7\nq=49\n"

abbrev list7 : List ℕ
list7 = bytes "ticks=12\nreleases=4\nat=0\ntask=1\nunits=0\nat=0\ntask=4\nunits=0\nat=7\ntask=2\nunits=0\nat=9\ntask=3\nunits=0\n"

abbrev task : ℕ → ℕ → ℕ → ℕ → ℕ → Task
task c r y z q = record { c = c; d = 1000; t = 1000; r = r; y = y; z = z; q = q }

abbrev at : ℕ → ℕ → Release
at tick task = record { at = tick; task = task; units = 0 }

abbrev both : Both
both = record {
  board = record { speeds = 7 ∷ 2 ∷ 1 ∷ []; tasks = task 49 7 0 1 7 ∷ task 14 8 5 7 49 ∷ task 7 9 5 7 49 ∷ task 21 12 5 7 49 ∷ [] };
  releases = record { ticks = 12; list = at 0 1 ∷ at 0 4 ∷ at 7 2 ∷ at 9 3 ∷ [] };
}

pub met : Asked board_b list7 (replicate 4 0) both
unfolding bytes bytes_from sum rounded_up whole at_end one numbered after_key ranged number_at digits times and_then read_board read_task read_release read_releases read_both judged unless_rising rising walk followed_by with_slack judge demand load jobs charge need first_uncovered covered S rises apart fault_or legal_from legality check check_read checked_as
met = record { accepted = refl; rest = []; lines = _; reads = refl; legal = refl; enough = omega arith }

-- The ranges of the paper's table.
use Rattle.std.specs.Prelude.{ℕ, ◌<◌, length, get_or}
use Rattle.paper.specs.Board.{Task, Board, task}
use Rattle.paper.specs.Releases.{Release, Releases}
use Rattle.paper.specs.Run.{Both}
use Rattle.paper.specs.Laws.Reading.{In}

pub record TaskIn (k : Task) : Type 0 where
  pub c : In 1 1000000 k.c
  pub d : In 1 1000000 k.d
  pub t : In 1 1000000 k.t
  pub r : In 1 1000000 k.r
  pub y : In 0 100000 k.y
  pub z : In 0 100000 k.z
  pub q : In 1 100000 k.q

pub record BoardIn (b : Board) : Type 0 where
  pub procs : In 1 8 (length b.speeds)
  pub tasks : In 1 96 (length b.tasks)
  pub speed : (p : ℕ) → p < length b.speeds → In 1 100 (get_or b.speeds p 0)
  pub task : (k : ℕ) → k < length b.tasks → TaskIn (task b k)

pub record ReleaseIn (w : Release) : Type 0 where
  pub at : In 0 1000000 w.at
  pub task : In 0 1000000 w.task
  pub units : In 0 1000000 w.units

abbrev pub no_release : Release
no_release = record { at = 0; task = 0; units = 0 }

pub record ReleasesIn (l : Releases) : Type 0 where
  pub ticks : In 0 1000000 l.ticks
  pub count : In 0 1000 (length l.list)
  pub release : (p : ℕ) → p < length l.list → ReleaseIn (get_or l.list p no_release)

pub record BothIn (x : Both) : Type 0 where
  pub board : BoardIn x.board
  pub releases : ReleasesIn x.releases

-- What the promises speak of: the texts and places that demand 3 asks for, and what a run keeps. The promises themselves
-- stand in proofs/Promises.antt.
use Rattle.std.specs.Prelude.{◌≡◌, List, ◌++◌, ℕ, ◌+◌, ◌≤◌, ◌<◌, length, get_or}
use Rattle.paper.specs.Text.{good, whole}
use Rattle.paper.specs.Releases.{Release, task_of, legal, legality}
use Rattle.paper.specs.Check.{check}
use Rattle.paper.specs.Run.{Both, read_both, Finished}
use Rattle.paper.specs.Laws.Reading.{In}
use Rattle.paper.specs.Laws.Legal.{nth}
use Rattle.paper.specs.Answers.{Done}

-- the texts of an accepted board and of a legal list, and enough places
pub record Asked (board list places : List ℕ) (x : Both) : Type 0 where
  pub accepted : (check board).answer ≡ Done
  pub rest : List ℕ
  pub lines : ℕ
  pub reads : whole read_both (board ++ list) ≡ good x rest lines
  pub legal : legality x.board x.releases.list ≡ legal
  pub enough : length x.releases.list ≤ length places

-- release p of a list, counted from 0, and the bound r of its task
abbrev pub release_of : Both → ℕ → Release
release_of x p = nth x.releases.list p

abbrev pub bound_of : Both → ℕ → ℕ
bound_of x p = (task_of x.board (release_of x p)).r

-- release p has r ticks inside the run
pub record Inside (x : Both) (p : ℕ) : Type 0 where
  pub listed : p < length x.releases.list
  pub ends : (release_of x p).at + bound_of x p ≤ x.releases.ticks

pub record Kept (x : Both) (y : Finished) : Type 0 where
  pub done : y.answer ≡ Done
  pub places : (p : ℕ) → Inside x p → In 1 (bound_of x p) (get_or y.places p 0)
  pub responses : (p : ℕ) → Inside x p → In 1 (bound_of x p) (get_or y.responses p 0)

-- What a call from C is told: the numbers of an answer, and what the lent places hold.
use Rattle.std.specs.Prelude.{ℕ, ◌≡◌, List, cond, length, leb}
use Rattle.paper.specs.Answers.{Answer, numbers_of}
use Rattle.paper.specs.Run.{over}

-- the code is the result, place and detail stand where they were asked for
pub record Told (answer : Answer) (code place detail : ℕ) : Type 0 where
  pub is_code : code ≡ (numbers_of answer).code
  pub is_place : place ≡ (numbers_of answer).place
  pub is_detail : detail ≡ (numbers_of answer).detail

-- the slacks in the first places, if there is a place for each; else the places keep what they had
abbrev pub slacks_in : List ℕ → List ℕ → List ℕ
slacks_in slacks places = cond (leb (length slacks) (length places)) (over slacks places) places

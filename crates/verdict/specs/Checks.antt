-- What the check promises: for every text, the paper's answer and slacks.
use Rattle.std.specs.Prelude.{◌≡◌, List, [], map, ℕ, Result, Ok, Err}
use Rattle.series.specs.Series.{Series}
use Rattle.paper.specs.Answers.{Done}
use Rattle.paper.specs.Check as paper
use Rattle.paper.specs.declared.Refusal.{Refusal}
use Rattle.quantity.specs.declared.Units.{Units}

-- the numbers of slacks
abbrev pub slack_numbers : List Units → List ℕ
slack_numbers slacks = map (λ (u : Units). u.0) slacks

-- the paper's answer and slacks that a result holds
abbrev pub checked_of : Result (Series Units) Refusal → paper.Checked
checked_of (Ok slacks) = record { answer = Done; slacks = slack_numbers slacks.items }
checked_of (Err refusal) = record { answer = Err refusal; slacks = [] }

-- the promise
abbrev pub Checks : List ℕ → Result (Series Units) Refusal → Type 0
Checks text r = checked_of r ≡ paper.check text

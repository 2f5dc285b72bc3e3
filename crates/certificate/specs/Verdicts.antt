-- What the walk over tasks gives, in the paper's words.
use Rattle.std.specs.Prelude.{ℕ, List, map, Result, Ok, Err}
use Rattle.series.specs.Series.{Series}
use Rattle.paper.specs.Certificate.{Verdict, accepted, refused}
use Rattle.paper.specs.declared.Refusal.{Refusal}
use Rattle.quantity.specs.Quantity.{units}
use Rattle.quantity.specs.declared.Units.{Units}

-- the slacks as the code holds them
abbrev pub packed_slacks : List ℕ → Series Units
packed_slacks slacks = record { items = map units slacks }

-- the paper's verdict as the code gives it
abbrev pub packed_verdict : Verdict → Result (Series Units) Refusal
packed_verdict (accepted slacks) = Ok (packed_slacks slacks)
packed_verdict (refused refusal) = Err refusal

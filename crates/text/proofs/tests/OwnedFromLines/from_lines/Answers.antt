-- A line of a speed, as for the speed itself.
use Rattle.std.proofs.Common.{rules, refl}
use Rattle.paper.specs.Basics.{bytes, bytes_from}
use Rattle.text.specs.Reading.{reads_on, reads_bad, stops, stopped}
use Rattle.text.proofs.tests.OwnedFromLines.from_lines.Goals as goal

pub returns-in_err-next-clause-read : goal.returns-in_err-next-clause-read
unfolding bytes bytes_from
returns-in_err-next-clause-read c = stopped _ _ (reads_bad _ (stops _ _ _ c.in_err-next.ensures.read)) (search rules)

pub returns-clause-read : goal.returns-clause-read
unfolding bytes bytes_from
returns-clause-read c = reads_on _ c.in_ok-next.ensures.read refl

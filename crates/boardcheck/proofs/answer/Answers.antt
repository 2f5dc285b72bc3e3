-- What is written is what the report gives of what was read, and that is what the check says of the whole input.
use Rattle.std.proofs.Common.{rules}
use Rattle.std.proofs.lemmas.Result.{on_ok_weaker}
use Rattle.paper.specs.Output.{check_prints}
use Rattle.console.proofs.Enough.{check_long, answered}
use Rattle.boardcheck.proofs.answer.Goals as goal

pub returns-clause-ok : goal.returns-clause-ok
returns-clause-ok g c =
    on_ok_weaker c.answer.result
    (answered check_prints check_long _ _ _ (λ text said report. search rules) _ _ _)
    c.answer.ensures.ok

-- `run_list` is the paper's run of a legal list: places cleared, the ticks, and cleared again after an overrun.
use Rattle.run.specs.Ending.{meets_through, meets_overran, filled}
use Rattle.run.proofs.run_list.Goals as goal

pub returns-in-Ok : goal.returns-in-Ok
returns-in-Ok c = λ b s.
    meets_through _ _ _ b s _ _ c.requires.places (filled _ _ _ c.requires.places (c.fill.ensures.after (λ y e. e))) _ _ c.in-Ok.ensures

pub returns-in-Err : goal.returns-in-Err
returns-in-Err c = λ b s.
    meets_overran _ _ _ b s _ _ c.requires.places (filled _ _ _ c.requires.places (c.fill.ensures.after (λ y e. e))) _ _ c.in-Err.ensures _
    (c.fill-in-Err.ensures.after (λ y e. e))

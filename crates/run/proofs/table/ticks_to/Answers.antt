-- `table::ticks_to` counts the ticks up to the one that is asked for, or the run's own.
use Rattle.std.proofs.Common.{◌≡◌, sym, ltb, rules, ap, ◌∙◌, add-one}
use Rattle.paper.specs.Tables.{ticks_to}
use Rattle.quantity.specs.declared.Ticks.{Ticks}
use Rattle.run.proofs.table.ticks_to.Goals as goal

pub returns-then-lt : goal.returns-then-lt
unfolding ticks_to
returns-then-lt c =
    let is : c.lt.result ≡ ltb c.args.tick.0 c.args.horizon.0 = search rules in
    rw (sym is ∙ c.if-lt.true) (ap (λ (t : Ticks). t.0) c.next.ensures ∙ add-one c.args.tick.0)

pub returns-else-lt : goal.returns-else-lt
unfolding ticks_to
returns-else-lt c =
    let is : c.lt.result ≡ ltb c.args.tick.0 c.args.horizon.0 = search rules in
    rw (sym is ∙ c.if-lt.false)

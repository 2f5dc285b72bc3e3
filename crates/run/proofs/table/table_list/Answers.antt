-- `table::table_list` shows the paper's table of a legal list: the ticks up to the one that is asked for, in places of its own.
use Rattle.std.proofs.Common.{◌≡◌, sym, ◌∙◌, ltb, rules}
use Rattle.std.proofs.lemmas.Bool.{ltb-true, ltb-false}
use Rattle.run.specs.Showing.{ready_to, shows_through, shows_idle, shows_overran}
use Rattle.run.proofs.table.table_list.Goals as goal

pub ticks-requires : goal.ticks-requires
ticks-requires c = ready_to _ _ _ c.requires _ _ c.ticks_to.ensures

pub returns-in-Ok : goal.returns-in-Ok
returns-in-Ok c = λ b s lent.
    let is : c.lt.result ≡ ltb c.args.tick.0 c.args.horizon.0 = search rules in
    shows_through _ _ _ _ _ c.ticks_to.ensures _ b s lent _ c.in-Ok.ensures (ltb-true _ _ (sym is ∙ c.if-lt.true))

pub returns-in-Ok-2 : goal.returns-in-Ok-2
returns-in-Ok-2 c = λ b s lent.
    let is : c.lt.result ≡ ltb c.args.tick.0 c.args.horizon.0 = search rules in
    shows_idle _ _ _ _ _ c.ticks_to.ensures _ b s lent _ c.in-Ok-2.ensures (ltb-false _ _ (sym is ∙ c.if-lt.false))

pub returns-in-Err : goal.returns-in-Err
returns-in-Err c = λ b s lent. shows_overran _ _ _ _ _ c.ticks_to.ensures _ b s lent _ c.in-Err.ensures

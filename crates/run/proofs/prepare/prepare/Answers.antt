-- `prepare::prepare` refuses what cannot be run, and names the units of the rest.
use Rattle.std.proofs.Common.{refl, sym, ◌∙◌}
use Rattle.releases.specs.Packed.{unpacked_list}
use Rattle.run.specs.Naming.{named_list}
use Rattle.run.specs.Order.{legal_listed}
use Rattle.run.proofs.prepare.prepare.Goals as goal

pub name_units-requires : goal.name_units-requires
unfolding unpacked_list
name_units-requires c = rw c.deref_mut.ensures.value (legal_listed _ _ _ (sym c.ready.ensures ∙ c.in_ok-ready.was))

pub returns : goal.returns
unfolding unpacked_list
returns c =
    let n = named_list _ _ _ _ c.deref_mut.ensures.value c.name_units.ensures in
    (sym c.ready.ensures ∙ c.in_ok-ready.was, refl, rw n)

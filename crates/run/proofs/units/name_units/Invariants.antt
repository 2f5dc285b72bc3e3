-- `units::name_units` names every release's units where it stands. The invariant is the record Naming: the releases before the
-- one in hand are named, the others are as they were.
use Rattle.board.specs.Packed.{unpacked}
use Rattle.run.specs.Naming.{Naming}
use Rattle.run.proofs.units.name_units.Given as goal

abbrev pub invariant-loop-release : goal.invariant-loop-release
invariant-loop-release l = Naming (unpacked l.board) l.initial.releases l.releases l.release-index

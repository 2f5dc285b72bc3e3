-- The tables of columns. The invariant: they are filled up to column j, and the running sum is S_j.
use Rattle.quantity.specs.Quantity.{speeds_of}
use Rattle.certificate.specs.Filling.{Filled}
use Rattle.certificate.proofs.columns.columns_of.Given as goal

abbrev pub invariant-loop-j : goal.invariant-loop-j
invariant-loop-j l = Filled (speeds_of l.speeds) l.column-items l.sum.0 l.j

-- The table of a tick, once some task places have had their turn.
use Rattle.std.specs.Prelude.{drop}
use Prim.Native.Nat.{ℕ, suc, ◌-◌}
use mathlib.Core.List.{List}
use Rattle.std.proofs.Math.ListN.{take}
use Rattle.std.proofs.lemmas.List.Edits.{sets}
use Rattle.paper.specs.Scheduler.{ready}

-- a table t with n seats taken, once the places from i on have had their turn
abbrev pub seats_from : ℕ → List ℕ → List ℕ → ℕ → ℕ → List ℕ
seats_from m left t n i = sets t n (take (m - n) (ready (suc i) (drop i left)))

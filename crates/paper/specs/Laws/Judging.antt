-- The rules one at a time: the first uncovered column from the middle of the search on, and a verdict from the middle of the walk on.
use Rattle.std.specs.Prelude.{List, ◌++◌}
use Prim.Native.Nat.{ℕ, suc, ◌-◌}
use Rattle.paper.specs.Board.{Task}
use Rattle.paper.specs.Certificate.{first_uncovered, Verdict, accepted, refused}

-- columns j to M, M being the last
module _ (speeds : List ℕ) (k : Task) (M : ℕ) where
  -- the first uncovered column from j on
  abbrev pub uncovered_from : ℕ → ℕ
  uncovered_from j = first_uncovered speeds k j (suc M - j)

-- a verdict on the tasks from some place on, with the slacks of those before it
unfoldable pub prefixed : List ℕ → Verdict → Verdict
prefixed passed (refused a) = refused a
prefixed passed (accepted slacks) = accepted (passed ++ slacks)

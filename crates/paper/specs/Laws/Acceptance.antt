-- The slacks of an accepted board, task by task.
use Rattle.std.specs.Prelude.{List, [], ◌∷◌, ◌++◌}
use Prim.Native.Nat.{ℕ}
use Rattle.paper.specs.Board.{Task}
use Rattle.paper.specs.Accepted.{slack_of}

-- the slacks of the tasks `below`, the first of which has the tasks `above` above it
unfoldable pub slacks_from : List ℕ → List Task → List Task → List ℕ
slacks_from speeds above [] = []
slacks_from speeds above (k ∷ below) = slack_of speeds above k ∷ slacks_from speeds (above ++ (k ∷ [])) below

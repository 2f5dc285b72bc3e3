-- Both series are empty, and so is what the definition packs.
use Rattle.std.proofs.Common.{List, [], ap, ◌∙◌}
use Rattle.quantity.specs.declared.Speed.{Speed}
use Rattle.board.specs.declared.Task.{Task}
use Rattle.board.specs.declared.Board.{Board}
use Rattle.board.specs.Packed.{packed}
use Rattle.board.proofs.empty.Goals as goal

pub returns : goal.returns
unfolding packed
returns c =
    ap {B = Board} (λ (l : List Speed). record { speeds = record { items = l }; tasks = c.new-2.result }) c.new.ensures
    ∙ ap {B = Board} (λ (l : List Task). record { speeds = record { items = [] }; tasks = record { items = l } }) c.new-2.ensures

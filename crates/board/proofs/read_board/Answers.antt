-- A whole board is the paper's, its value made as it is read.
use Rattle.std.proofs.Common.{◌∙◌}
use Rattle.paper.specs.Board.{read_board}
use Rattle.text.specs.Reading.{whole_held}
use Rattle.board.specs.Packed.{packed}
use Rattle.board.proofs.read_board.Goals as goal

pub returns : goal.returns
returns c = c.whole.ensures ∙ whole_held packed read_board _

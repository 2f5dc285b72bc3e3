-- Three lines, each placed where the one before it ends.
use Rattle.std.proofs.Common.{arith}
use Rattle.paper.specs.Basics.{bytes, bytes_from}
use Rattle.text.specs.Placing.{numbers_placed}
use Rattle.text.proofs.print.print_numbers.Goals as goal

pub returns : goal.returns
unfolding bytes bytes_from
returns c =
    numbers_placed 0 c.args.numbers (omega arith)
    (rw c.from.ensures at c.print_line-place.ensures)
    (rw c.from-2.ensures at c.print_line-detail.ensures)
    (rw c.from-3.ensures at c.print_line.ensures)

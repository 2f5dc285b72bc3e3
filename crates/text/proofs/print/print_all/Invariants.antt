-- Before each turn the numbers so far have their lines, and there is room for a line of each of the rest.
use Rattle.std.proofs.Common.{◌+◌, ◌*◌, ◌≤◌, length, take}
use Rattle.text.specs.Printing.{Lines}
use Rattle.text.proofs.print.print_all.Given as goal

abbrev pub invariant-loop-number : goal.invariant-loop-number
invariant-loop-number g l = record {
  room : l.end + (length l.key + 21) * length l.numbers ≤ length l.fn.out + (length l.key + 21) * l.number-index;
  lines : Lines g.T.Into.converts l.fn.out l.at l.key (take l.number-index l.numbers) l.out l.end;
}

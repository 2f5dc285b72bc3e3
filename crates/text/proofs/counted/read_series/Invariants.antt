-- What is counted is read as in the paper. The invariant: what is left to read from here, put after what is there, gives the whole.
use Rattle.std.specs.Prelude.{◌≡◌, [], length}
use Rattle.text.specs.Positions.{pushed, Fills}
use Rattle.text.proofs.counted.read_series.Given as goal

abbrev pub invariant-loop : goal.invariant-loop
invariant-loop g l =
    let t = g.T.FromLines in
    let at = l.initial.lines in
    record {
      read : Fills t.reader pushed t.most_lines l.count at.rest.now at.number [] l.counter l.lines.rest.now l.lines.number l.items.items;
      so_far : length l.items.items ≡ l.counter;
    }

-- What is read fits the buffer, which keeps its length and is never filled past it, and is what the reader gave.
use Rattle.std.proofs.Common.{◌≡◌, ◌≤◌, ◌-◌, length, take}
use Rattle.std.specs.Io.KnownBytes.{Consumes}
use Rattle.console.proofs.read_input.Given as goal

abbrev pub invariant-loop-read : goal.invariant-loop-read
invariant-loop-read g l = record {
  within : l.read ≤ length l.buffer;
  kept : length l.buffer ≡ length l.initial.buffer;
  bytes : Consumes (g.R.Read.remaining l.initial.from) (g.R.Read.remaining l.from) (take l.read l.buffer);
}

abbrev pub decreases-loop-read : goal.decreases-loop-read
decreases-loop-read g l = length l.initial.buffer - l.read

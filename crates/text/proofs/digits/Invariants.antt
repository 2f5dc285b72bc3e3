-- The rest of a number is the paper's. The invariant: the digits left from byte i on, after the value so far, give what the number
-- gives, and the value with as many digits more as are allowed stays below ten million.
use Rattle.std.proofs.Common.{◌≡◌, ◌+◌, ◌-◌, ◌*◌, ◌^◌, ◌≤◌, drop}
use Rattle.paper.specs.Text.{digits}
use Rattle.text.proofs.digits.Given as goal

abbrev pub invariant-loop-i : goal.invariant-loop-i
invariant-loop-i l = record {
  within : l.i ≤ l.more;
  room : (l.value + 1) * 10 ^ (l.more - l.i) ≤ 10000000;
  same : digits l.more l.value-2 l.rest ≡ digits (l.more - l.i) l.value (drop l.i l.rest);
}

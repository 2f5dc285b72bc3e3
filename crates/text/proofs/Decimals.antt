-- The digits that the library gives of a number are the paper's. Assumes nothing.
use Rattle.std.proofs.Common.{◌≡◌, ℕ, ◌^◌, ◌<◌, arith, lt-ltb, le-ltb}
use Rattle.std.specs.Fmt as std
use Rattle.std.proofs.lemmas.Fmt.{AppendsLastDigit, decimal_from_appends, length-decimal-le}
use Rattle.paper.specs.Basics.{decimal, decimal_in}

appends : AppendsLastDigit decimal_in
unfolding decimal_in
appends = record {
  one = λ most n h. rw (lt-ltb n 10 h);
  more = λ most n h. rw (le-ltb n 10 h);
}

pub same_digits : (n : ℕ) → n < 2 ^ 64 → decimal n ≡ std.decimal n
unfolding decimal
same_digits n h = decimal_from_appends decimal_in appends 20 n h (length-decimal-le 20 n (omega arith) (omega arith) h)

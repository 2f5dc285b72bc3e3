-- A line is its key, its digits and LF, each written where the one before it ends; the digits that the library gives are the paper's.
use Rattle.std.proofs.Common.{◌≡◌, ℕ, List, [], ◌∷◌, ◌++◌, ◌+◌, ◌-◌, ◌^◌, ◌<◌, ◌≤◌, length, ap, sym, ◌∙◌, rules, arith}
use Rattle.paper.specs.Basics.{decimal}
use Rattle.paper.proofs.Laws.Decimal.{decimal-length}
use Rattle.text.specs.Placing.{placed_part, placed_as, placed_one, placed_then, placed_length}
use Rattle.text.proofs.Decimals.{same_digits}
use Rattle.text.proofs.print.print_line.Goals as goal

pub returns : goal.returns
unfolding decimal
returns c =
    let few : c.args.value < 2 ^ 64 = search rules in
    let old = c.args.out.now in
    let at = c.args.at in
    let key = c.args.key.now in
    let written = c.as_bytes-digits.result.now in
    let digits : written ≡ decimal c.args.value
    = c.as_bytes-digits.ensures.value ∙ c.format.ensures.text ∙ sym (same_digits c.args.value few) in
    let short : length written ≤ 20 = rw digits (decimal-length 20 c.args.value) in
    let first = placed_part old at (at + length key - at) key c.copy_from_slice.new.self c.copy_from_slice.ensures.after (omega arith) (omega arith) in
    let long = placed_length first in
    let second =
    placed_part _ (at + length key) (at + length key + length written - (at + length key)) written c.copy_from_slice-2.new.self
    c.copy_from_slice-2.ensures.after (omega arith) (omega (arith, long)) in
    let both = placed_then first second in
    record {
      printed = λ h. placed_as (ap (λ (l : List ℕ). (key ++ l) ++ (10 ∷ [])) digits) (placed_one both 10 (omega (arith, long, placed_length second)));
      none = λ h. absurd (omega arith);
    }

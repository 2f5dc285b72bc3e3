-- One turn more places the line of what the next number converts to.
use Rattle.std.proofs.Common.{◌≡◌, ℕ, ◌+◌, ◌≤◌, List, [], ◌∷◌, ◌++◌, length, take, arith, sym, ap, ◌∙◌}
use Rattle.std.proofs.lemmas.List.{take_more}
use Rattle.std.proofs.lemmas.Slice.Zip.{all_zipped_more}
use Rattle.text.specs.Printing.{lines_bytes}
use Rattle.text.specs.Placing.{placed_none, placed_length, lines_next, line_ended}
use Rattle.text.proofs.print.print_all.Goals as goal

pub loop-number-init : goal.loop-number-init
unfolding lines_bytes
loop-number-init g c = record {
  room = omega arith;
  lines = record { numbers = []; converted = tt; printed = placed_none _ _ (grind arith) };
}

pub loop-number-preserved : goal.loop-number-preserved
loop-number-preserved g c =
    let all = c.args.numbers.now in
    let i = c.loop-number.number-index in
    let number = c.number-item.result in
    let more : take (i + 1) all ≡ take i all ++ (number ∷ [])
    = take_more all i number c.loop-number-test.true ∙ ap (λ (x : g.row.T.Denot). take i all ++ (x ∷ [])) (sym c.number-item.is) in
    let had = c.loop-number.invariant.lines in
    let kept = placed_length had.printed in
    let room : c.loop-number.end + length c.args.key.now + 21 ≤ length c.loop-number.out = grind (arith, kept) in
    let line = c.print_line-end.ensures.printed room in
    let ended = line_ended c.args.key.now c.into.result line in
    record {
      room = grind (arith, ended.by);
      lines = record {
        numbers = had.numbers ++ (c.into.result ∷ []);
        converted =
            rw more (all_zipped_more g.T.Into.converts (take i all) had.numbers number c.into.result had.converted c.into.ensures);
        printed = lines_next c.args.key.now had.numbers c.into.result had.printed line;
      };
    }

-- What is counted is read as in the paper: one more that is read is one more that is put after those that are there.
use Rattle.std.proofs.Common.{rules, ◌∙◌, refl, arith, [], ◌∷◌, length-append}
use Rattle.text.specs.Many.{series_of}
use Rattle.text.specs.Reading.{reads_on, reads_bad, stops, stopped}
use Rattle.text.specs.Positions.{fill_step, fill_bad, fill_end, filled_list, pushed}
use Rattle.text.proofs.counted.read_series.Goals as goal

pub returns-in_err-from_lines-clause-read : goal.returns-in_err-from_lines-clause-read
returns-in_err-from_lines-clause-read g c =
    let m = g.T.FromLines.reader in
    let f = fill_bad m pushed c.loop.invariant.read c.loop-test.true (stops _ _ _ c.in_err-from_lines.ensures.read) in
    stopped _ _ (reads_bad _ f) (search rules) ∙ filled_list m series_of c.args.count _ _

pub loop-preserved : goal.loop-preserved
loop-preserved g c =
    let e = c.push.ensures in
    let r = c.in_ok-from_lines.ensures in
    rw e
    (record {
      read = fill_step g.T.FromLines.reader pushed c.loop.invariant.read c.loop-test.true r.lines r.read;
      so_far = length-append c.loop.items.items (c.in_ok-from_lines.field-0 ∷ []) ∙ omega arith;
    })

pub returns-clause-read : goal.returns-clause-read
returns-clause-read g c =
    let m = g.T.FromLines.reader in
    reads_on _ (fill_end m pushed c.loop.invariant.read c.loop-test.false) refl ∙ filled_list m series_of c.args.count _ _

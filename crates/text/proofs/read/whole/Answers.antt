-- The size, the lines and the end of a text, each with the paper's answer.
use Rattle.std.proofs.Common.{rules, ◌≡◌, Err, ◌∙◌, ap}
use Rattle.text.specs.Reading.{too_long, ends_bad, ends_more, ends_good}
use Rattle.text.proofs.read.whole.Goals as goal

pub returns-in_err-lines : goal.returns-in_err-lines
returns-in_err-lines g c =
    let e : c.from_residual.result ≡ Err c.in_err-lines.field-0.0 = search rules in
    let h = c.in_err-lines.ensures in
    e ∙ ap Err h.1 ∙ too_long g.T.FromLines.reader _ h.0

pub returns-in_err-end : goal.returns-in_err-end
returns-in_err-end g c =
    let e : c.from_residual-in_err-end.result ≡ Err c.in_err-end.field-0.0 = search rules in
    e ∙ ends_more g.T.FromLines.reader _ c.in_ok-lines.ensures _ _ _ c.from_lines-read.ensures.read c.if-is_ok.ensures.value _ c.in_err-end.ensures

pub returns-in_ok-end : goal.returns-in_ok-end
returns-in_ok-end g c =
    ends_good g.T.FromLines.reader _ c.in_ok-lines.ensures _ _ _ c.from_lines-read.ensures.read c.if-is_ok.ensures.value c.in_ok-end.ensures

pub returns-else-is_ok : goal.returns-else-is_ok
returns-else-is_ok g c =
    ends_bad g.T.FromLines.reader _ c.in_ok-lines.ensures _ _ _ c.from_lines-read.ensures.read c.if-is_ok.ensures.value

-- The report is the numbers of the answer and then the slacks: the check's promise says that they are the paper's.
use Rattle.std.proofs.Common.{rules, ◌≡◌, ℕ, ◌≤◌, ap, ◌∙◌, refl, sym, arith, List, ◌++◌, append-nil, length}
use Rattle.std.proofs.lemmas.Slice.Zip.{AllZip-map}
use Rattle.std.specs.Prelude.{Ok}
use Rattle.paper.specs.Answers.{numbers_of}
use Rattle.paper.specs.declared.Numbers.{Numbers}
use Rattle.paper.specs.Basics.{bytes, bytes_from}
use Rattle.paper.specs.Check as paper
use Rattle.paper.specs.Output.{check_prints, printed_numbers, printed_all}
use Rattle.text.specs.Placing.{placed_as, placed_front, placed_then, placed_length, lines_printed, numbers_short}
use Rattle.quantity.specs.declared.Units.{Units}
use Rattle.verdict.specs.Checks.{slack_numbers}
use Rattle.boardcheck.proofs.report.Goals as goal

-- what is printed for such an answer and slacks
abbrev prints : paper.Checked → List ℕ
prints x = printed_numbers (numbers_of x.answer) ++ printed_all "slack=" x.slacks

pub print_all-end-requires : goal.print_all-end-requires
print_all-end-requires c =
    let p = c.print_numbers-first.ensures in
    let few : length c.deref.result.now ≤ 96 = c.deref.ensures.1 in
    let room : length c.args.out.now ≡ 4096 = search rules in
    omega (arith, few, room, p.ends, placed_length p, numbers_short c.from.result)

pub returns-in-Ok : goal.returns-in-Ok
unfolding check_prints bytes bytes_from
returns-in-Ok c =
    let lines = c.print_all-end.ensures in
    let slacks = AllZip-map (λ (u : Units). u.0) c.deref.result.now lines.numbers lines.converted ∙ ap slack_numbers c.deref.ensures.0 in
    let q = placed_as (lines_printed "slack=" lines.numbers) lines.printed in
    placed_front (placed_then c.print_numbers-first.ensures q)
    ∙ ap (λ (n : Numbers). printed_numbers n ++ printed_all "slack=" lines.numbers) c.from.ensures
    ∙ ap (λ (l : List ℕ). printed_numbers (numbers_of (Ok tt)) ++ printed_all "slack=" l) slacks
    ∙ ap prints c.in-Ok.ensures

pub returns-in-Err : goal.returns-in-Err
unfolding check_prints printed_all
returns-in-Err c =
    placed_front c.print_numbers-end.ensures
    ∙ ap printed_numbers c.from-in-Err.ensures
    ∙ sym (append-nil _)
    ∙ ap prints c.in-Err.ensures

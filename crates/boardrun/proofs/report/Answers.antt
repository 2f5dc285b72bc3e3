-- The report is the numbers of the answer and then the responses: the run's promise says that they are the paper's.
use Rattle.std.proofs.Common.{◌≡◌, ap, ◌∙◌, refl, sym, arith, rules, List, ℕ, [], ◌++◌, append-nil, length, length-take, take}
use Rattle.std.specs.Prelude.{replicate, Ok}
use Rattle.std.specs.List.{each_same}
use Rattle.std.proofs.lemmas.List.{nil_from_length}
use Rattle.paper.specs.Answers.{Answer, numbers_of}
use Rattle.paper.specs.declared.Numbers.{Numbers}
use Rattle.paper.specs.Basics.{bytes, bytes_from}
use Rattle.paper.specs.Output.{run_prints, printed_numbers, printed_all}
use Rattle.paper.specs.Run as paper
use Rattle.run.specs.Responses.{responses_first, responses_fit}
use Rattle.text.specs.Placing.{placed_as, placed_front, placed_then, placed_length, lines_printed, numbers_short}
use Rattle.boardrun.proofs.report.Goals as goal

-- what is printed for such an answer and responses
abbrev prints : Answer → List ℕ → List ℕ
prints answer responses = printed_numbers (numbers_of answer) ++ printed_all "response=" responses

pub slice_bounds-places-end : goal.slice_bounds-places-end
slice_bounds-places-end c = responses_fit c.args.both.now (replicate 1000 0) (Ok c.in-Ok.count) c.run.new.places c.in-Ok.ensures

pub slice_bounds-print_all-end-in-Ok-2 : goal.slice_bounds-print_all-end-in-Ok-2
slice_bounds-print_all-end-in-Ok-2 c =
    let count = c.in-Ok.count in
    let places = c.run.new.places in
    let fit = responses_fit c.args.both.now (replicate 1000 0) (Ok count) places c.in-Ok.ensures in
    omega (arith, fit, length-take count places)

pub print_all-end-requires : goal.print_all-end-requires
print_all-end-requires c =
    let p = c.print_numbers-first.ensures in
    let lent : length c.run.new.places ≡ 1000 = search rules in
    let room : length c.args.out.now ≡ 32768 = search rules in
    let few = length-take c.in-Ok.count c.run.new.places in
    omega (arith, few, lent, room, p.ends, placed_length p, numbers_short c.from.result)

pub returns-in-Ok : goal.returns-in-Ok
unfolding run_prints bytes bytes_from
returns-in-Ok c =
    let ran = paper.run c.args.both.now (replicate 1000 0) in
    let shown = take c.in-Ok.count c.run.new.places in
    let lines = c.print_all-end.ensures in
    let same = each_same shown lines.numbers lines.converted in
    let first = responses_first c.args.both.now (replicate 1000 0) (Ok c.in-Ok.count) c.run.new.places c.in-Ok.ensures in
    let q = placed_as (lines_printed "response=" lines.numbers) lines.printed in
    placed_front (placed_then c.print_numbers-first.ensures q)
    ∙ ap (λ (n : Numbers). printed_numbers n ++ printed_all "response=" lines.numbers) c.from.ensures
    ∙ ap (λ (l : List ℕ). printed_numbers (numbers_of (Ok tt)) ++ printed_all "response=" l) (same ∙ first)
    ∙ ap (λ (a : Answer). prints a ran.responses) c.in-Ok.ensures.answer

pub returns-in-Err : goal.returns-in-Err
unfolding run_prints printed_all
returns-in-Err c =
    let ran = paper.run c.args.both.now (replicate 1000 0) in
    let none = nil_from_length ran.responses (sym c.in-Err.ensures.count) in
    placed_front c.print_numbers-end.ensures
    ∙ ap printed_numbers c.from-in-Err.ensures
    ∙ sym (append-nil _)
    ∙ ap (λ (a : Answer). prints a []) c.in-Err.ensures.answer
    ∙ ap (prints ran.answer) (sym none)

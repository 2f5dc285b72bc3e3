-- Where there is no place for each, nothing is written; else one slack more is put by each turn, and in the end all of them.
use Rattle.std.proofs.Common.{◌≡◌, ℕ, ◌+◌, ◌<◌, List, get_or, ◌++◌, length, drop, ◌∙◌, ap, sym, arith, set, zero-add}
use Rattle.std.proofs.lemmas.List.{length-map}
use Rattle.std.proofs.lemmas.List.Edits.{paste_more, paste_all}
use Rattle.std.proofs.Math.ListN.{get_or-map}
use Rattle.std.proofs.Math.Seq.{paste}
use Rattle.quantity.specs.Quantity.{units}
use Rattle.quantity.specs.declared.Units.{Units}
use Rattle.verdict.specs.Checks.{slack_numbers}
use Rattle.desk.specs.Telling.{slacks_none, slacks_placed}
use Rattle.desk.proofs.put_slacks.Goals as goal

many : (slacks : List Units) → length (slack_numbers slacks) ≡ length slacks
many slacks = length-map slacks (λ (u : Units). u.0)

pub returns-then-places-slacks : goal.returns-then-places-slacks
returns-then-places-slacks c =
    sym (slacks_none (slack_numbers c.args.slacks.now) c.args.places.now (omega (arith, many c.args.slacks.now, c.if-places-slacks.true)))

pub loop-i-preserved : goal.loop-i-preserved
loop-i-preserved c =
    let l = c.loop-i in
    let slacks = c.args.slacks.now in
    let here : l.i < length (slack_numbers slacks) = omega (arith, many slacks) in
    let done : List ℕ = paste c.args.places.now 0 (slack_numbers slacks) l.i in
    let slack : ℕ = (get_or slacks l.i (units 0)).0 in
    record {
      room = l.invariant.room;
      put =
          ap (λ (s : List ℕ). set s l.i slack) l.invariant.put
          ∙ ap (λ (n : ℕ). set done n slack) (sym (zero-add l.i))
          ∙ ap (λ (v : ℕ). set done (0 + l.i) v) (sym (get_or-map (λ (u : Units). u.0) slacks l.i (units 0)))
          ∙ paste_more c.args.places.now 0 (slack_numbers slacks) l.i 0 (omega arith) here;
    }

pub returns : goal.returns
returns c =
    let l = c.loop-i in
    let numbers = slack_numbers c.args.slacks.now in
    let all : l.i ≡ length numbers = omega (arith, many c.args.slacks.now) in
    sym
    (slacks_placed numbers c.args.places.now (omega (arith, many c.args.slacks.now, l.invariant.room)) l.places
    (l.invariant.put ∙ paste_all c.args.places.now 0 numbers l.i all
    ∙ ap (λ (n : ℕ). numbers ++ drop n c.args.places.now) (zero-add l.i ∙ all)))

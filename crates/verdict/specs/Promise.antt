-- What follows from the check's promise alone: it leaves nothing open, and it says "accepted" exactly where every rule holds.
-- Assumes nothing.
use Rattle.std.specs.Prelude.{◌≡◌, refl, List, [], ◌∷◌, map, ℕ, ◌≤◌, ◌<◌, length, get_or, take, Result, Ok, Err}
use Rattle.std.proofs.Common.{sym, ap, ◌∙◌, arith}
use Rattle.std.proofs.lemmas.List.{length-map}
use Rattle.std.proofs.Math.ListN.{get_or-map}
use Rattle.series.specs.Series.{Series}
use Rattle.paper.specs.Check as paper
use Rattle.paper.specs.Text.{Read, good, bad, whole}
use Rattle.paper.specs.Certificate.{Verdict, accepted, refused, judged}
use Rattle.paper.specs.Board.{Board, task, read_board}
use Rattle.paper.proofs.Laws.Ranges.{board_in}
use Rattle.paper.specs.Accepted.{Accepted, ReadsAs, Slacks, slack_of}
use Rattle.paper.specs.Laws.Acceptance.{slacks_from}
use Rattle.paper.proofs.Laws.Acceptance.{slacks_of, accepted_slacks, done_accepted, accepted_done}
use Rattle.paper.specs.Answers.{Answer, Done, answer_of}
use Rattle.paper.specs.declared.Refusal.{Refusal}
use Rattle.quantity.specs.Quantity.{units}
use Rattle.quantity.specs.declared.Units.{Units}
use Rattle.verdict.specs.Checks.{slack_numbers, checked_of, Checks}

-- what a check gives
abbrev Given : Type 0
Given = Result (Series Units) Refusal

-- two results that meet the promise coincide
pub one_result : (text : List ℕ) (r r' : Given) → Checks text r → Checks text r' → r ≡ r'
one_result text r r' h h' = same r r' (h ∙ sym h')
  where
    units_back : (l : List Units) → map units (slack_numbers l) ≡ l
    units_back [] = refl
    units_back (u ∷ l) = ap (λ (l : List Units). u ∷ l) (units_back l)

    held : List Units → Given
    held l = Ok (record { items = l })

    no_refusal : {a : Refusal} {s : Series Units} → ◌≡◌ {A = Answer} Done (Err a) → ◌≡◌ {A = Given} (Ok s) (Err a)
    no_refusal e = let z : ◌≡◌ {A = ℕ} 0 1 = cc in absurd (omega arith)

    same : (r r' : Given) → checked_of r ≡ checked_of r' → r ≡ r'
    same (Ok s) (Ok s') e =
        let n : slack_numbers s.items ≡ slack_numbers s'.items = ap (λ (c : paper.Checked). c.slacks) e in
        let i : s.items ≡ s'.items = sym (units_back s.items) ∙ ap (map units) n ∙ units_back s'.items in
        ap held i
    same (Ok s) (Err a) e = no_refusal (ap (λ (c : paper.Checked). c.answer) e)
    same (Err a) (Ok s) e = sym (no_refusal (sym (ap (λ (c : paper.Checked). c.answer) e)))
    same (Err a) (Err a') e =
        let i : ◌≡◌ {A = Answer} (Err a) (Err a') = ap (λ (c : paper.Checked). c.answer) e in
        let g : a ≡ a' = cc in
        rw g

-- what an accepted text comes back with: one slack for each task, q times r less its demand
pub record Told (b : Board) (r : Given) : Type 0 where
  pub slacks : Series Units
  pub done : r ≡ Ok slacks
  pub count : length slacks.items ≡ length b.tasks
  pub slack : (i : ℕ) → i < length b.tasks → get_or slacks.items i (units 0) ≡ units (slack_of b.speeds (take i b.tasks) (task b i))

-- `Done` comes only to the text of a board that obeys every rule
pub done_only : (text : List ℕ) (r : Given) → Checks text r → answer_of r ≡ Done → (b : Board) × ReadsAs text b × Accepted b
done_only text r h d = done_accepted text (sym (ap (λ (c : paper.Checked). c.answer) h) ∙ go r d)
  where
    go : (r : Given) → answer_of r ≡ Done → (checked_of r).answer ≡ Done
    go (Ok slacks) d = refl
    go (Err a) d = d

-- and to every such text, with the slacks of the board's tasks
pub done_always : (text : List ℕ) (r : Given) → Checks text r → (b : Board) → ReadsAs text b → Accepted b → Told b r
done_always text r h b reads obeys = go r (h ∙ accepted_done text b reads obeys)
  where
    s : Slacks b (slacks_from b.speeds [] b.tasks)
    s = slacks_of b

    go : (r : Given) → checked_of r ≡ record { answer = Done; slacks = slacks_from b.speeds [] b.tasks } → Told b r
    go (Err a) e =
        let f : ◌≡◌ {A = Answer} (Err a) Done = ap (λ (c : paper.Checked). c.answer) e in
        let z : ◌≡◌ {A = ℕ} 0 1 = cc in
        absurd (omega arith)
    go (Ok slacks) e =
        let n : slack_numbers slacks.items ≡ slacks_from b.speeds [] b.tasks = ap (λ (c : paper.Checked). c.slacks) e in
        record {
          slacks = slacks;
          done = refl;
          count = sym (length-map slacks.items (λ (u : Units). u.0)) ∙ ap length n ∙ s.count;
          slack = λ i l.
              ap units
              (sym (get_or-map (λ (u : Units). u.0) slacks.items i (units 0)) ∙ ap (λ (l : List ℕ). get_or l i 0) n ∙ s.each i l);
        }

-- a text has no more slacks than a board can have tasks
pub few_slacks : (text : List ℕ) → length (paper.check text).slacks ≤ 96
unfolding paper.check paper.check_read paper.checked_as
few_slacks text = read (whole read_board text) refl
  where
    verdict : (b : Board) (rest : List ℕ) (n : ℕ) → whole read_board text ≡ good b rest n → (v : Verdict) → judged b ≡ v
        → length (paper.checked_as v).slacks ≤ 96
    verdict b rest n e (refused a) i = omega arith
    verdict b rest n e (accepted slacks) i = rw (accepted_slacks b slacks i).count (board_in text b rest n e).tasks.high

    read : (r : Read Board) → whole read_board text ≡ r → length (paper.check_read r).slacks ≤ 96
    read (bad damage n) e = omega arith
    read (good b rest n) e = verdict b rest n e (judged b) refl

-- the numbers of the slacks are the paper's slacks
pub slack-numbers : (text : List ℕ) (r : Given) → Checks text r
    → (length (checked_of r).slacks ≤ 96) × ((checked_of r).slacks ≡ (paper.check text).slacks)
slack-numbers text r h =
    let e = ap (λ (c : paper.Checked). c.slacks) h in
    (rw e (few_slacks text), e)

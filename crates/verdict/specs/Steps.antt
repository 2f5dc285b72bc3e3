-- The check's ways out, one after another: each is the paper's answer. Assumes nothing.
use Rattle.std.specs.Prelude.{◌≡◌, refl, List, [], ◌∷◌, map, ℕ, zero, suc, Some, None, Result, Ok, Err}
use Rattle.std.proofs.Common.{ap, arith}
use Rattle.series.specs.Series.{Series}
use Rattle.paper.specs.Board as paper
use Rattle.paper.specs.Certificate.{Verdict, accepted, refused, walk, rising, unless_rising, judged}
use Rattle.paper.specs.Check.{checked_as, check_read, check}
use Rattle.paper.specs.declared.Refusal.{Refusal}
use Rattle.paper.specs.declared.Refusal.TheVariants.{SpeedRises}
use Rattle.quantity.specs.Quantity.{units}
use Rattle.quantity.specs.declared.Units.{Units}
use Rattle.text.specs.declared.BadLine.{BadLine}
use Rattle.text.specs.Lines.{refusal_of}
use Rattle.text.specs.Back.{Refused}
use Rattle.board.specs.Packed.{unpacked}
use Rattle.board.specs.First.{first_of}
use Rattle.board.specs.Back.{Held}
use Rattle.board.specs.declared.Board.{Board}
use Rattle.certificate.specs.Verdicts.{packed_verdict}
use Rattle.verdict.specs.Checks.{slack_numbers, checked_of, Checks}

-- numbers held as units come back
pub numbers_back : (xs : List ℕ) → slack_numbers (map units xs) ≡ xs
numbers_back [] = refl
numbers_back (x ∷ xs) = ap (λ (l : List ℕ). x ∷ l) (numbers_back xs)

-- a verdict, as the code gives it and as the paper tells it
pub verdict_told : (v : Verdict) → checked_of (packed_verdict v) ≡ checked_as v
unfolding checked_as
verdict_told (refused a) = refl
verdict_told (accepted slacks) = rw numbers_back

-- a bad line
pub out_line : {text : List ℕ} {x : BadLine} → Refused paper.read_board text x → Checks text (Err (refusal_of x))
unfolding check check_read
out_line f = rw (f.same, f.told)

-- a board was read
module _ {text : List ℕ} {b : Board} (f : Held text b) where
  abbrev here : paper.Board
  here = unpacked b

  read : check text ≡ checked_as (judged here)
  unfolding check check_read
  read = rw f.same

  -- a speed rises
  pub out_speed : (p : ℕ) → first_of (rising 1 here.speeds) ≡ Some p → Checks text (Err (SpeedRises p))
  unfolding judged unless_rising checked_as
  out_speed p e = rw read (go (rising 1 here.speeds) e)
    where
      go : (n : ℕ) → first_of n ≡ Some p → checked_of (Err (SpeedRises p)) ≡ checked_as (unless_rising n (walk here.speeds [] here.tasks))
      go zero e = let z : ◌≡◌ {A = ℕ} 0 1 = cc in absurd (omega arith)
      go (suc n) e = let g : suc n ≡ p = cc in rw g

  -- no speed rises: the tasks decide
  module _
      (e : first_of (rising 1 here.speeds) ≡ None)
      {j : Result (Series Units) Refusal}
      (i : j ≡ packed_verdict (walk here.speeds [] here.tasks)) where
    same : judged here ≡ walk here.speeds [] here.tasks
    unfolding judged unless_rising
    same = go (rising 1 here.speeds) e
      where
        go : (n : ℕ) → first_of n ≡ None → unless_rising n (walk here.speeds [] here.tasks) ≡ walk here.speeds [] here.tasks
        go zero e = refl
        go (suc n) e = let z : ◌≡◌ {A = ℕ} 0 1 = cc in absurd (omega arith)

    -- as they are judged, so the text is checked
    pub tasks_decide : Checks text j
    tasks_decide = rw (read, same, i) (verdict_told (walk here.speeds [] here.tasks))

    -- a task breaks a rule
    pub out_task : {a : Refusal} → j ≡ Err a → Checks text (Err a)
    out_task h = rw h at tasks_decide

    -- all tasks pass
    pub all_pass : {slacks : Series Units} → j ≡ Ok slacks → Checks text (Ok slacks)
    all_pass h = rw h at tasks_decide

-- What is told of an answer, and of slacks. Assumes nothing.
use Rattle.std.specs.Prelude.{ℕ, ◌≤◌, ◌<◌, ◌≡◌, List, length}
use Rattle.std.proofs.Common.{sym, ap, ◌∙◌, le-leb}
use Rattle.std.proofs.lemmas.Bool.{lt-leb}
use Rattle.paper.specs.Answers.{Answer, numbers_of}
use Rattle.paper.specs.Run.{over}
use Rattle.paper.specs.declared.Numbers.{Numbers}
use Rattle.desk.specs.Told.{Told, slacks_in}

-- the numbers of an answer tell it
pub told : (answer : Answer) (n : Numbers) → n ≡ numbers_of answer → Told answer n.code n.place n.detail
told answer n e =
    record {
      is_code = ap (λ (n : Numbers). n.code) e;
      is_place = ap (λ (n : Numbers). n.place) e;
      is_detail = ap (λ (n : Numbers). n.detail) e;
    }

-- two calls that tell the same answer give the same three numbers
pub told_unique : (answer : Answer) (code place detail code' place' detail' : ℕ) → Told answer code place detail
    → Told answer code' place' detail' → (code ≡ code') × (place ≡ place') × (detail ≡ detail')
told_unique answer code place detail code' place' detail' h g =
    (h.is_code ∙ sym g.is_code, h.is_place ∙ sym g.is_place, h.is_detail ∙ sym g.is_detail)

-- numbers in the first places, where there is room for them, and else none
module _ (numbers places : List ℕ) where
  pub slacks_none : length places < length numbers → slacks_in numbers places ≡ places
  slacks_none h = rw (lt-leb (length numbers) (length places) h)

  pub slacks_placed : length numbers ≤ length places → (new : List ℕ) → new ≡ over numbers places → slacks_in numbers places ≡ new
  slacks_placed h new e = rw (le-leb (length numbers) (length places) h) (sym e)

-- One byte more than a text may have tells as much as the whole input. Assumes nothing.
use Rattle.std.specs.Prelude.{ℕ, ◌≤◌, ◌<◌, ◌≡◌, List, [], ◌++◌, length, Option, None, Some, IfSome}
use Rattle.std.proofs.Common.{sym, ap, ◌∙◌, arith, append-nil, length-append, subst}
use borrow.Author.Tests.{lt-leb}
use Rattle.std.specs.Io.KnownBytes.{Consumes, Appends, IsAtEnd}
use Rattle.std.specs.Fn.{Once, FnOnceReturnsAt}
use denote.Ref.{Bor}
use Rattle.console.specs.Answered.{Answered}
use Rattle.paper.specs.Text.{Reader, whole}
use Rattle.paper.proofs.Laws.Tests.{on_le}
use Rattle.paper.specs.Check.{check}
use Rattle.paper.specs.Run.{run}
use Rattle.paper.specs.Output.{check_prints, run_prints}

-- past 65,536 bytes nothing is read
pub whole_long : {A : Type 0} (m : Reader A) (xs ys : List ℕ) → 65536 < length xs → whole m (xs ++ ys) ≡ whole m xs
unfolding whole
whole_long m xs ys h =
    let more : 65536 < length (xs ++ ys) = omega (arith, length-append xs ys) in
    rw (lt-leb (length (xs ++ ys)) 65536 more, lt-leb (length xs) 65536 h)

pub check_long : (xs ys : List ℕ) → 65536 < length xs → check_prints (xs ++ ys) ≡ check_prints xs
unfolding check_prints check
check_long xs ys h = rw (whole_long _ xs ys h)

pub run_long : (xs ys : List ℕ) → 65536 < length xs → run_prints (xs ++ ys) ≡ run_prints xs
unfolding run_prints run
run_long xs ys h = rw (whole_long _ xs ys h)

module _ (prints : List ℕ → List ℕ) (long : (xs ys : List ℕ) → 65536 < length xs → prints (xs ++ ys) ≡ prints xs) where
  -- what is printed for what was read is what is printed for all that there was
  same : (xs rest : List ℕ) → (length xs ≤ 65536 → rest ≡ []) → prints xs ≡ prints (xs ++ rest)
  same xs rest end =
      on_le (length xs) 65536
      (λ h. ap prints (sym (append-nil xs) ∙ ap (λ l. xs ++ l) (sym (end h))))
      (λ h. sym (long xs rest h))

  pub enough : (a b c d : Option (List ℕ)) (xs : List ℕ) → Consumes a b xs → (length xs ≤ 65536 → IsAtEnd b) → Appends c d (prints xs)
      → IfSome a (λ text. Appends c d (prints text))
  enough None b c d xs read end said = tt
  enough (Some text) None c d xs read end said = absurd read
  enough (Some text) (Some rest) c d xs read end said = subst (λ bs. Appends c d bs) (same xs rest end ∙ ap prints (sym read)) said

  -- where a report gives what is printed for each text, that is what is written for the whole input
  pub answered : {F T : Type 0} (fn : Once F (Bor (List ℕ) × Unit {0}) T) (bytes : T → List ℕ) (report : F)
      → ((text : List ℕ) (said : T) → FnOnceReturnsAt fn report text said → bytes said ≡ prints text)
      → (input before after : Option (List ℕ)) → Answered fn bytes report input before after
      → IfSome input (λ text. Appends before after (prints text))
  answered fn bytes report says input before after a =
      enough input a.rest before after a.text a.read a.whole
      (subst (λ bs. Appends before after bs) (says a.text a.said a.reported) a.written)

-- Back from a whole text's answer to what was read. Assumes nothing.
use Rattle.std.specs.Prelude.{◌≡◌, refl, ℕ, List, Result, Ok, Err}
use Rattle.std.proofs.Common.{sym, ap, ◌∙◌, arith}
use Rattle.paper.specs.Text.{malformed, out_of_range, Damage, damaged, Read, good, bad, Reader, whole}
use Rattle.text.specs.declared.BadLine.{BadLine}
use Rattle.text.specs.declared.BadLine.TheVariants as line
use Rattle.text.specs.Lines.{refusal_of, answered}

-- where a text was read: its value, and what was made of it
pub record Taken {A C : Type 0} (m : Reader A) (make : A → C) (s : List ℕ) (c : C) : Type 0 where
  pub value : A
  pub rest : List ℕ
  pub line : ℕ
  pub same : whole m s ≡ good value rest line
  pub made : c ≡ make value

-- and where a line was bad
pub record Refused {A : Type 0} (m : Reader A) (s : List ℕ) (x : BadLine) : Type 0 where
  pub damage : Damage
  pub line : ℕ
  pub same : whole m s ≡ bad damage line
  pub told : refusal_of x ≡ damaged damage line

no_error : {A C D : Type 0} (c : C) (e : D) → ◌≡◌ {A = Result C D} (Ok c) (Err e) → A
no_error c e h = let z : ◌≡◌ {A = ℕ} 0 1 = cc in absurd (omega arith)

-- back from the answer of any reader
module _ {A C : Type 0} (make : A → C) (m : Reader A) (s : List ℕ) {r : Result C BadLine} (e : r ≡ answered make (whole m s)) where
  pub taken : {c : C} → r ≡ Ok c → Taken m make s c
  unfolding answered
  taken {c} h = go (whole m s) refl (sym h ∙ e)
    where
      go : (x : Read A) → whole m s ≡ x → Ok c ≡ answered make x → Taken m make s c
      go (good a rest n) i f = record { value = a; rest = rest; line = n; same = i; made = cc }
      go (bad malformed n) i f = no_error _ _ f
      go (bad out_of_range n) i f = no_error _ _ f

  pub refused : {x : BadLine} → r ≡ Err x → Refused m s x
  unfolding answered
  refused {x} h = go (whole m s) refl (sym h ∙ e)
    where
      go : (y : Read A) → whole m s ≡ y → Err x ≡ answered make y → Refused m s x
      go (good a rest n) i f = no_error _ _ (sym f)
      go (bad malformed n) i f = record { damage = malformed; line = n; same = i; told = let g : x ≡ line.Malformed n = cc in ap refusal_of g }
      go (bad out_of_range n) i f = record { damage = out_of_range; line = n; same = i; told = let g : x ≡ line.OutOfRange n = cc in ap refusal_of g }

-- Laws of reading on: readers one after the other, and the ends of a whole text. Assumes nothing.
use Rattle.std.specs.Prelude.{◌≡◌, refl, ℕ, ◌≤◌, ◌<◌, List, [], ◌∷◌, length, Bool, true, false, cond, leb, Result, Ok, Err, is_ok}
use Rattle.std.proofs.Common.{sym, ap, ◌∙◌, le-leb, arith}
use Rattle.std.proofs.lemmas.Bool.{lt-leb}
use Rattle.paper.specs.Text.{malformed, out_of_range, Read, good, bad, Reader, and_then, give, whole, at_end}
use Rattle.paper.proofs.Laws.Reading.{not_good}
use Rattle.text.specs.declared.BadLine.{BadLine}
use Rattle.text.specs.declared.BadLine.TheVariants.{Malformed, OutOfRange}
use Rattle.text.specs.Lines.{read_of, Reads, held, answered, whole_by}

-- a reading that comes to this bad line, whatever is left
pub record Stops {A : Type 0} (line : BadLine) (x : Read A) : Type 0 where
  pub same : (rest : List ℕ) (next : ℕ) → read_of (Err line) rest next ≡ x

module _ {A : Type 0} {x : Read A} where
  pub stops : (line : BadLine) (rest : List ℕ) (next : ℕ) → read_of (Err line) rest next ≡ x → Stops line x
  stops (Malformed line) rest next e = record { same = λ _ _. e }
  stops (OutOfRange line) rest next e = record { same = λ _ _. e }

  pub stopped : {line : BadLine} {r : Result A BadLine} (rest : List ℕ) (next : ℕ) → Stops line x → r ≡ Err line → read_of r rest next ≡ x
  stopped rest next e f = rw f (e.same rest next)

module _ {A B : Type 0} {x : Read A} (k : A → Reader B) where
  -- after a value what follows is read from where it ends
  pub reads_on : {a : A} {rest : List ℕ} {next : ℕ} {r : Read B} → good a rest next ≡ x → r ≡ k a rest next → r ≡ and_then x k
  unfolding and_then
  reads_on e f = f ∙ ap (λ (y : Read A). and_then y k) e

  -- a bad line after a value ends the work
  pub stops_on : {a : A} {rest : List ℕ} {next : ℕ} {line : BadLine} → good a rest next ≡ x → Stops line (k a rest next) → Stops line (and_then x k)
  stops_on e f = record { same = λ rest next. reads_on e (f.same rest next) }

  -- a bad line ends the work
  pub reads_bad : {line : BadLine} → Stops line x → Stops line (and_then x k)
  unfolding and_then
  reads_bad {line} e = go line e
    where
      go : (line : BadLine) → Stops line x → Stops line (and_then x k)
      go (Malformed line) e = record { same = λ rest next. ap (λ (y : Read A). and_then y k) (e.same rest next) }
      go (OutOfRange line) e = record { same = λ rest next. ap (λ (y : Read A). and_then y k) (e.same rest next) }

-- what the code has made of a value that was read, as the code holds it
pub record Made {A C : Type 0} (make : A → C) (x : Read A) (c : C) (rest : List ℕ) (next : ℕ) : Type 0 where
  pub value : A
  pub same : good value rest next ≡ x
  pub made : c ≡ make value

module _ {A C : Type 0} (make : A → C) (x : Read A) where
  pub value_of : {c : C} {rest : List ℕ} {next : ℕ} → good c rest next ≡ and_then x (λ a. give (make a)) → Made make x c rest next
  unfolding and_then
  value_of {c} {rest} {next} e = go x e
    where
      go : (x : Read A) → good c rest next ≡ and_then x (λ a. give (make a)) → Made make x c rest next
      go (good a s n) e = record { value = a; same = cc; made = cc }
      go (bad damage n) e = not_good damage n c rest next (sym e)

  -- no line is bad in what is made of it
  pub stops_before : {line : BadLine} → Stops line (and_then x (λ a. give (make a))) → Stops line x
  unfolding and_then
  stops_before {line} e = go line x e.same
    where
      go : (line : BadLine) (x : Read A) → ((rest : List ℕ) (next : ℕ) → read_of (Err line) rest next ≡ and_then x (λ a. give (make a))) → Stops line x
      go (Malformed line) (good a s n) f = not_good malformed line (make a) s n (f [] 0)
      go (OutOfRange line) (good a s n) f = not_good out_of_range line (make a) s n (f [] 0)
      go (Malformed line) (bad damage n) f = record { same = λ rest next. let g = f rest next in cc }
      go (OutOfRange line) (bad damage n) f = record { same = λ rest next. let g = f rest next in cc }

-- what `end` says of the bytes that are left
abbrev pub AtEnd : Result Unit BadLine → List ℕ → ℕ → Type 0
AtEnd r rest next = ◌≡◌ {A = Read Unit} (read_of r rest next) (at_end (good tt rest next))

-- the ends of a whole text: too long, a bad line, a byte too many, all read
module _ {A : Type 0} (m : Reader A) (s : List ℕ) where
  pub too_long : 65536 < length s → Err (Malformed 0) ≡ whole_by m s
  unfolding whole answered
  too_long h = rw (lt-leb (length s) 65536 h)

  -- the lines of the text begin at l, with the number n
  abbrev pub Begins : List ℕ → ℕ → Type 0
  Begins l n = (length s ≤ 65536) × (l ≡ s) × (n ≡ 1)

  module _ {l : List ℕ} {n : ℕ} (h : Begins l n) (rest : List ℕ) (next : ℕ) where
    ends : (r : Result A BadLine) → Reads m l n r rest next → answered (λ a. a) (at_end (read_of r rest next)) ≡ whole_by m s
    unfolding whole
    ends r e =
        let f : Reads m s 1 r rest next = rw (h.1, h.2) at e in
        rw (le-leb (length s) 65536 h.0) (ap (λ (x : Read A). answered (λ a. a) (at_end x)) f)

    module _ {a : A} (e : Reads m l n (Ok a) rest next) where
      more : (x : BadLine) → AtEnd (Err x) rest next → Err x ≡ whole_by m s
      unfolding at_end answered
      more x f = go rest x (ends (Ok a) e) f
        where
          go : (rest : List ℕ) (x : BadLine) → answered (λ a. a) (at_end (good a rest next)) ≡ whole_by m s → AtEnd (Err x) rest next
              → Err x ≡ whole_by m s
          go [] (Malformed line) g f = not_good _ _ _ _ _ f
          go [] (OutOfRange line) g f = not_good _ _ _ _ _ f
          go (y ∷ rest) (Malformed line) g f = let i : line ≡ next = cc in rw i g
          go (y ∷ rest) (OutOfRange line) g f = let z : ◌≡◌ {A = ℕ} 0 1 = cc in absurd (omega arith)

      all : AtEnd (Ok tt) rest next → Ok a ≡ whole_by m s
      unfolding at_end answered
      all f = go rest (ends (Ok a) e) f
        where
          go : (rest : List ℕ) → answered (λ a. a) (at_end (good a rest next)) ≡ whole_by m s → AtEnd (Ok tt) rest next → Ok a ≡ whole_by m s
          go [] g f = g
          go (y ∷ rest) g f = not_good _ _ _ _ _ (sym f)

    clash : {C : Type 0} → ◌≡◌ {A = Bool} false true → C
    clash e = let z : ◌≡◌ {A = ℕ} 0 1 = cc in absurd (omega arith)

    pub ends_bad : (r : Result A BadLine) → Reads m l n r rest next → false ≡ is_ok r → r ≡ whole_by m s
    unfolding at_end answered
    ends_bad (Ok a) e h = clash h
    ends_bad (Err (Malformed line)) e h = ends (Err (Malformed line)) e
    ends_bad (Err (OutOfRange line)) e h = ends (Err (OutOfRange line)) e

    pub ends_more : (r : Result A BadLine) → Reads m l n r rest next → true ≡ is_ok r → (x : BadLine) → AtEnd (Err x) rest next → Err x ≡ whole_by m s
    ends_more (Ok a) e h x f = more e x f
    ends_more (Err y) e h x f = clash (sym h)

    pub ends_good : (r : Result A BadLine) → Reads m l n r rest next → true ≡ is_ok r → AtEnd (Ok tt) rest next → r ≡ whole_by m s
    ends_good (Ok a) e h f = all e f
    ends_good (Err y) e h f = clash (sym h)

-- a whole text, its value made at the end or as it is read
pub whole_held : {A C : Type 0} (make : A → C) (m : Reader A) (s : List ℕ) → whole_by (held make m) s ≡ answered make (whole m s)
unfolding whole answered at_end and_then
whole_held make m s = go (leb (length s) 65536)
  where
    finished : (r : Read _) → answered (λ c. c) (at_end (and_then r (λ a. give (make a)))) ≡ answered make (at_end r)
    finished (bad malformed n) = refl
    finished (bad out_of_range n) = refl
    finished (good a [] n) = refl
    finished (good a (x ∷ l) n) = refl

    go : (b : Bool) → answered (λ c. c) (cond b (at_end (held make m s 1)) (bad malformed 0)) ≡ answered make (cond b (at_end (m s 1)) (bad malformed 0))
    go true = finished (m s 1)
    go false = refl

-- Acceptance is exactly the rules: a board is accepted if and only if its speeds never rise and each task passes against those above it.
-- Assumes nothing.
use Rattle.std.proofs.Math.Path.{◌≡◌}
use Rattle.std.specs.Prelude.{refl, List, [], ◌∷◌, ◌++◌, length, get_or, take}
use Rattle.std.proofs.Common.{ap, ◌∙◌, append_assoc, append-nil, le_refl}
use Prim.Native.Nat.{ℕ, zero, suc, ◌+◌, ◌*◌, ◌≤◌, ◌<◌, min}
use native.Mathlib.Omega.{arith}
use borrow.Author.Tests.{le-leb, lt-leb, lt-ltb, le-ltb}
use Rattle.paper.proofs.Laws.Tests.{on_le, on_leb, on_ltb}
use Rattle.paper.specs.Text.{malformed, out_of_range, Read, good, bad, whole}
use Rattle.paper.specs.Board.{Task, Board, no_task, read_board}
use Rattle.paper.specs.Certificate.{S, own, covered, first_uncovered, demand, Outcome, slack, broken, judge, Verdict, accepted, refused, with_slack, followed_by, walk, rising, unless_rising, judged}
use Rattle.paper.specs.Accepted.{Covered, Passes, Accepted, slack_of, Slacks, ReadsAs}
use Rattle.paper.specs.Check.{checked_as, check_read, check}
use Rattle.paper.specs.Answers.{Done}
use Rattle.paper.specs.declared.Refusal.{Refusal}
use Rattle.paper.specs.Laws.Acceptance.{slacks_from}

-- columns

all_covered : (speeds : List ℕ) (k : Task) (j n : ℕ) → j + n ≤ first_uncovered speeds k j n → (c : ℕ) → j ≤ c → c < j + n → Covered speeds k c
unfolding first_uncovered covered
all_covered speeds k j zero = λ h c p q. absurd (omega arith)
all_covered speeds k j (suc n) =
    on_leb (λ (v : ℕ). j + suc n ≤ v → (c : ℕ) → j ≤ c → c < j + suc n → Covered speeds k c) k.q (S speeds j * k.y + own speeds j * k.z) _ _
    (λ g h c p q.
    on_le c j
    (λ m. let e : j ≡ c = omega arith in rw e at g)
    (λ m. all_covered speeds k (suc j) n (omega arith) c m (omega arith)))
    (λ g h. absurd (omega arith))

-- where every column is covered, none is the first uncovered one
pub none_uncovered : (speeds : List ℕ) (k : Task) (j n : ℕ) → ((c : ℕ) → j ≤ c → c < j + n → Covered speeds k c) → first_uncovered speeds k j n ≡ j + n
unfolding first_uncovered covered
none_uncovered speeds k j zero h = omega arith
none_uncovered speeds k j (suc n) h =
    rw (le-leb k.q (S speeds j * k.y + own speeds j * k.z) (h j (omega arith) (omega arith)))
    (none_uncovered speeds k (suc j) n (λ c p q. h c (omega arith) (omega arith)) ∙ omega arith)

-- one task

module _ (speeds : List ℕ) (above : List Task) (k : Task) where
  passes : (x : ℕ) → judge speeds above k ≡ slack x → Passes speeds above k
  unfolding judge
  passes x =
      let P : Outcome → Type 0 = λ o. o ≡ slack x → Passes speeds above k in
      let M = min (length speeds) (length above) in
      let no : (a : Refusal) → P (broken a) = λ a e. let z : ◌≡◌ {A = ℕ} 0 1 = cc in absurd (omega arith) in
      on_ltb P k.t k.d _ _ (λ _. no _)
      (λ d.
      on_ltb P k.d k.r _ _ (λ _. no _)
      (λ r.
      on_leb P (first_uncovered speeds k 0 (suc M)) M _ _ (λ _. no _)
      (λ f.
      on_ltb P (demand speeds above k) (k.q * k.r) _ _
      (λ h _. record { d_in = d; r_in = r; covers = λ j l. all_covered speeds k 0 (suc M) (omega arith) j (omega arith) (omega arith); holds = h })
      (λ _. no _))))

  pub passed : Passes speeds above k → judge speeds above k ≡ slack (slack_of speeds above k)
  unfolding judge
  passed p =
      let M = min (length speeds) (length above) in
      let f : first_uncovered speeds k 0 (suc M) ≡ suc M = none_uncovered speeds k 0 (suc M) (λ c _ l. p.covers c (omega arith)) ∙ omega arith in
      rw (le-ltb k.t k.d p.d_in, le-ltb k.d k.r p.r_in, f, lt-leb (suc M) M (omega arith), lt-ltb (demand speeds above k) (k.q * k.r) p.holds)

-- all tasks

-- an accepted walk, taken apart at its first task
record Next (o : Outcome) (later : Verdict) (slacks : List ℕ) : Type 0 where
  x : ℕ
  xs : List ℕ
  first : o ≡ slack x
  rest : later ≡ accepted xs
  all : slacks ≡ x ∷ xs

is_next : (o : Outcome) (later : Verdict) (slacks : List ℕ) → followed_by o later ≡ accepted slacks → Next o later slacks
unfolding followed_by with_slack
is_next (broken a) later slacks e = let z : ◌≡◌ {A = ℕ} 0 1 = cc in absurd (omega arith)
is_next (slack x) (refused a) slacks e = let z : ◌≡◌ {A = ℕ} 0 1 = cc in absurd (omega arith)
is_next (slack x) (accepted xs) slacks e = record { x = x; xs = xs; first = refl; rest = refl; all = cc }

walk_passes : (speeds : List ℕ) (above below : List Task) (slacks : List ℕ) → walk speeds above below ≡ accepted slacks
    → (i : ℕ) → i < length below → Passes speeds (above ++ take i below) (get_or below i no_task)
unfolding walk
walk_passes speeds above [] slacks h i l = absurd (omega arith)
walk_passes speeds above (k ∷ below) slacks h zero l =
    let n = is_next (judge speeds above k) _ slacks h in rw append-nil (passes speeds above k n.x n.first)
walk_passes speeds above (k ∷ below) slacks h (suc i) l =
    let n = is_next (judge speeds above k) _ slacks h in
    rw append_assoc at (walk_passes speeds (above ++ (k ∷ [])) below n.xs n.rest i (omega arith))

walk_passed : (speeds : List ℕ) (above below : List Task)
    → ((i : ℕ) → i < length below → Passes speeds (above ++ take i below) (get_or below i no_task))
    → walk speeds above below ≡ accepted (slacks_from speeds above below)
unfolding walk slacks_from followed_by with_slack
walk_passed speeds above [] h = refl
walk_passed speeds above (k ∷ below) h =
    rw (passed speeds above k (rw append-nil at (h 0 (omega arith))))
    (rw (walk_passed speeds (above ++ (k ∷ [])) below (λ i l. rw append_assoc (h (suc i) (omega arith)))))

slacks_count : (speeds : List ℕ) (above below : List Task) → length (slacks_from speeds above below) ≡ length below
unfolding slacks_from
slacks_count speeds above [] = refl
slacks_count speeds above (k ∷ below) = ap suc (slacks_count speeds (above ++ (k ∷ [])) below)

slacks_each : (speeds : List ℕ) (above below : List Task) (i : ℕ) → i < length below
    → get_or (slacks_from speeds above below) i 0 ≡ slack_of speeds (above ++ take i below) (get_or below i no_task)
unfolding slacks_from
slacks_each speeds above [] i l = absurd (omega arith)
slacks_each speeds above (k ∷ below) zero l = rw append-nil
slacks_each speeds above (k ∷ below) (suc i) l = rw append_assoc at (slacks_each speeds (above ++ (k ∷ [])) below i (omega arith))

-- speeds

falls : (p : ℕ) (speeds : List ℕ) → rising p speeds ≡ 0 → (j : ℕ) → own speeds (suc j) ≤ own speeds j
unfolding rising
falls p [] = λ h j. le_refl 0
falls p (a ∷ []) = λ h j. omega arith
falls p (a ∷ b ∷ speeds) =
    on_ltb (λ (v : ℕ). v ≡ 0 → (j : ℕ) → own (a ∷ b ∷ speeds) (suc j) ≤ own (a ∷ b ∷ speeds) j) a b _ _
    (λ g h. absurd (omega arith))
    (λ g h. go g (falls (suc p) (b ∷ speeds) h))
  where
    go : b ≤ a → ((j : ℕ) → own (b ∷ speeds) (suc j) ≤ own (b ∷ speeds) j) → (j : ℕ) → own (a ∷ b ∷ speeds) (suc j) ≤ own (a ∷ b ∷ speeds) j
    go g f zero = g
    go g f (suc j) = f j

-- speeds that never rise break no rule
pub none_rises : (p : ℕ) (speeds : List ℕ) → ((j : ℕ) → own speeds (suc j) ≤ own speeds j) → rising p speeds ≡ 0
unfolding rising
none_rises p [] h = refl
none_rises p (a ∷ []) h = refl
none_rises p (a ∷ b ∷ speeds) h = rw (le-ltb a b (h 0)) (none_rises (suc p) (b ∷ speeds) (λ j. h (suc j)))

unrisen : (p : ℕ) (v : Verdict) (slacks : List ℕ) → unless_rising p v ≡ accepted slacks → (p ≡ 0) × (v ≡ accepted slacks)
unfolding unless_rising
unrisen zero v slacks h = (refl, h)
unrisen (suc p) v slacks h = let z : ◌≡◌ {A = ℕ} 0 1 = cc in absurd (omega arith)

-- a whole board

-- an accepted board obeys every rule
pub accepted_passes : (b : Board) (slacks : List ℕ) → judged b ≡ accepted slacks → Accepted b
unfolding judged
accepted_passes b slacks h =
    let u = unrisen (rising 1 b.speeds) _ slacks h in
    record { falling = falls 1 b.speeds u.0; pass = walk_passes b.speeds [] b.tasks slacks u.1 }

-- a board that obeys every rule is accepted
pub passes_accepted : (b : Board) → Accepted b → judged b ≡ accepted (slacks_from b.speeds [] b.tasks)
unfolding judged unless_rising
passes_accepted b h = rw (none_rises 1 b.speeds h.falling) (walk_passed b.speeds [] b.tasks h.pass)

-- there is one slack for each task: q times r less the demand
pub slacks_of : (b : Board) → Slacks b (slacks_from b.speeds [] b.tasks)
slacks_of b = record { count = slacks_count b.speeds [] b.tasks; each = slacks_each b.speeds [] b.tasks }

-- and these are the slacks that come back
pub accepted_slacks : (b : Board) (slacks : List ℕ) → judged b ≡ accepted slacks → Slacks b slacks
accepted_slacks b slacks h =
    let e : slacks ≡ slacks_from b.speeds [] b.tasks = cc (passes_accepted b (accepted_passes b slacks h)) in
    rw e (slacks_of b)

-- from bytes

-- the check answers `Done` only to the text of a board that obeys every rule
pub done_accepted : (text : List ℕ) → (check text).answer ≡ Done → (b : Board) × ReadsAs text b × Accepted b
unfolding check check_read checked_as
done_accepted text = go (whole read_board text) refl
  where
    verdict : (b : Board) (v : Verdict) → judged b ≡ v → (checked_as v).answer ≡ Done → Accepted b
    verdict b (accepted slacks) i h = accepted_passes b slacks i
    verdict b (refused a) i h = let z : ◌≡◌ {A = ℕ} 0 1 = cc in absurd (omega arith)

    go : (r : Read Board) → whole read_board text ≡ r → (check_read r).answer ≡ Done → (b : Board) × ReadsAs text b × Accepted b
    go (good b rest n) i h = (b, record { rest = rest; lines = n; reads = i }, verdict b (judged b) refl h)
    go (bad malformed n) i h = let z : ◌≡◌ {A = ℕ} 0 1 = cc in absurd (omega arith)
    go (bad out_of_range n) i h = let z : ◌≡◌ {A = ℕ} 0 1 = cc in absurd (omega arith)

-- the text of a board that obeys every rule is answered by `Done` and its slacks
pub accepted_done : (text : List ℕ) (b : Board) → ReadsAs text b → Accepted b
    → check text ≡ record { answer = Done; slacks = slacks_from b.speeds [] b.tasks }
unfolding check check_read checked_as
accepted_done text b r h = rw r.reads (rw (passes_accepted b h))

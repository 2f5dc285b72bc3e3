-- What a legal list says of its releases, by their places, and back: one part concerns all releases, the other the gaps of each task.
-- Assumes nothing.
use Rattle.std.specs.Prelude.{◌≡◌, Bool, true, false, cond, ℕ, zero, suc, ◌+◌, ◌≤◌, ◌<◌, length, ltb, eqb, T}
use Rattle.std.proofs.Math.Path.{refl}
use Rattle.std.proofs.Common.{sym, ◌∙◌, arith, leb→le, ltb→lt}
use mathlib.Core.List.{List, [], ◌∷◌}
use borrow.Author.Tests.{lt-ltb, le-ltb, le-leb}
use Rattle.paper.proofs.Laws.Tests.{on_le, on_same, on_eqb, on_leb, on_ltb, on_not}
use Rattle.paper.specs.Board.{Board}
use Rattle.paper.specs.Releases.{Release, task_of, mark, known, rises, apart, fault_or, Legality, legal, illegal, legal_from, legality}
use Rattle.paper.specs.declared.Fault.{Fault}
use Rattle.paper.specs.declared.Fault.TheVariants.{UnknownTask, Order, Units, Gap}
use Rattle.paper.specs.Laws.Legal.{nth, Before, Listed, Spaced, Apart, Rises, Faultless}

-- tests and what they say
apart_cons : (t : ℕ) (w : Release) (earlier : List Release) (x : Release) → (w.task ≡ x.task → mark w + t ≤ mark x) → Apart t earlier x → Apart t (w ∷ earlier) x
apart_cons t w earlier x f g zero l e = f e
apart_cons t w earlier x f g (suc p) l e = g p (omega arith) e

pub apart_says : (t : ℕ) (earlier : List Release) (x : Release) → T (apart t earlier x) → Apart t earlier x
unfolding apart
apart_says t [] x = λ h p l e. absurd (omega arith)
apart_says t (w ∷ earlier) x =
    let P : Bool → Type 0 = λ v. T v → Apart t (w ∷ earlier) x in
    on_eqb P w.task x.task _ _
    (λ e. on_leb P (mark w + t) (mark x) _ _ (λ g h. apart_cons t w earlier x (λ _. g) (apart_says t earlier x h)) (λ g h. absurd h))
    (λ d h. apart_cons t w earlier x (λ e. absurd (d e)) (apart_says t earlier x h))

pub says_apart : (t : ℕ) (earlier : List Release) (x : Release) → Apart t earlier x → apart t earlier x ≡ true
unfolding apart
says_apart t [] x h = refl
says_apart t (w ∷ earlier) x h =
    let P : Bool → Type 0 = λ v. v ≡ true in
    let later : apart t earlier x ≡ true = says_apart t earlier x (λ p l e. h (suc p) (omega arith) e) in
    on_eqb P w.task x.task _ _
    (λ e. on_leb P (mark w + t) (mark x) _ _ (λ _. later) (λ g. let i = h 0 (omega arith) e in absurd (omega arith)))
    (λ d. later)

pub rises_says : (earlier : List Release) (x : Release) → T (rises earlier x) → Rises earlier x
unfolding rises
rises_says [] x = λ h l. absurd (omega arith)
rises_says (w ∷ earlier) x =
    let P : Bool → Type 0 = λ v. T v → Rises (w ∷ earlier) x in
    on_ltb P w.at x.at _ _
    (λ g h l. record { tick = omega arith; task = λ e. absurd (omega arith) })
    (λ g.
    on_eqb P w.at x.at _ _
    (λ e h l. record { tick = omega arith; task = λ _. ltb→lt _ _ h })
    (λ d h. absurd h))

pub says_rises : (earlier : List Release) (x : Release) → Rises earlier x → rises earlier x ≡ true
unfolding rises
says_rises [] x h = refl
says_rises (w ∷ earlier) x h =
    let P : Bool → Type 0 = λ v. v ≡ true in
    let i : Before w x = h (omega arith) in
    on_ltb P w.at x.at _ _
    (λ g. refl)
    (λ g.
    on_eqb P w.at x.at _ _
    (λ e. lt-ltb _ _ (i.task e))
    (λ d. absurd (d (le_antisymm i.tick g))))
  where
    le_antisymm : {m n : ℕ} → m ≤ n → n ≤ m → m ≡ n
    le_antisymm f g = omega arith

-- tick 0 and task 0, which stand before the first release, come before every release of a known task
pub rises_latest : (earlier : List Release) (x : Release) → 1 ≤ x.task
    → rises earlier x ≡ cond (ltb (nth earlier 0).at x.at) true (cond (eqb (nth earlier 0).at x.at) (ltb (nth earlier 0).task x.task) false)
unfolding rises
rises_latest [] x h =
    let P : Bool → Type 0 = λ v. true ≡ v in
    on_ltb P 0 x.at _ _
    (λ _. refl)
    (λ g. on_eqb P 0 x.at _ _ (λ _. sym (lt-ltb _ _ h)) (λ d. absurd (d (omega arith))))
rises_latest (w ∷ earlier) x h = refl

pub known_says : (b : Board) (x : Release) → T (known b x) → (1 ≤ x.task) × (x.task ≤ length b.tasks)
known_says b x =
    let P : Bool → Type 0 = λ v. T v → (1 ≤ x.task) × (x.task ≤ length b.tasks) in
    on_leb P 1 x.task _ _ (λ g h. (g, leb→le _ _ h)) (λ g h. absurd h)

pub says_known : (b : Board) (x : Release) → 1 ≤ x.task → x.task ≤ length b.tasks → known b x ≡ true
says_known b x f g = simp (le-leb _ _ f, le-leb _ _ g)

not_legal : {B : Type 0} (n : ℕ) (fault : Fault) → ◌≡◌ {A = Legality} (illegal n fault) legal → B
not_legal n fault e = let z : ◌≡◌ {A = ℕ} 0 1 = cc in absurd (omega arith)

module _ (b : Board) where
  pub faultless : (n : ℕ) (earlier : List Release) (x : Release) (later : Legality) → fault_or b n earlier x later ≡ legal → Faultless b earlier x × (later ≡ legal)
  unfolding fault_or
  faultless n earlier x later =
      let P : Legality → Type 0 = λ v. v ≡ legal → Faultless b earlier x × (later ≡ legal) in
      on_not P (known b x) _ _
      (λ _. not_legal n UnknownTask)
      (λ k.
      on_not P (rises earlier x) _ _
      (λ _. not_legal n Order)
      (λ r.
      on_ltb P (task_of b x).c x.units _ _
      (λ _. not_legal n Units)
      (λ u.
      on_not P (apart (task_of b x).t earlier x) _ _
      (λ _. not_legal n Gap)
      (λ a h. (
        record {
          some = (known_says b x k).0;
          there = (known_says b x k).1;
          rise = rises_says earlier x r;
          small = u;
          gap = apart_says _ earlier x a;
        },
        h,
      )))))

  -- a release without a fault leaves the judgement to the later ones
  pub passes : (n : ℕ) (earlier : List Release) (x : Release) (later : Legality) → Faultless b earlier x → fault_or b n earlier x later ≡ later
  unfolding fault_or
  passes n earlier x later h =
      rw (says_known b x h.some h.there, says_rises earlier x h.rise, le-ltb _ _ h.small, says_apart _ earlier x h.gap)

  -- what a part of a list says, given the releases before it, the latest first
  record Continued (earlier later : List Release) : Type 0 where
    listed : Listed b later
    spaced : Spaced b later
    across : (o : ℕ) → o < length later → Apart (task_of b (nth later o)).t earlier (nth later o)
    first : 0 < length later → Rises earlier (nth later 0)

  -- no release, and one more in front
  continued_none : (earlier : List Release) → Continued earlier []
  continued_none earlier = record {
    listed = record {
      some = λ p l. absurd (omega arith);
      there = λ p l. absurd (omega arith);
      small = λ p l. absurd (omega arith);
      order = λ p l. absurd (omega arith);
    };
    spaced = record { gap = λ p o h l e. absurd (omega arith) };
    across = λ o l. absurd (omega arith);
    first = λ l. absurd (omega arith);
  }

  listed_more : (x : Release) (later : List Release) → 1 ≤ x.task → x.task ≤ length b.tasks → x.units ≤ (task_of b x).c
      → (0 < length later → Before x (nth later 0)) → Listed b later → Listed b (x ∷ later)
  listed_more x later f g u r h = record { some = some; there = there; small = small; order = order }
    where
      some : (p : ℕ) → p < length (x ∷ later) → 1 ≤ (nth (x ∷ later) p).task
      some zero l = f
      some (suc p) l = h.some p (omega arith)

      there : (p : ℕ) → p < length (x ∷ later) → (nth (x ∷ later) p).task ≤ length b.tasks
      there zero l = g
      there (suc p) l = h.there p (omega arith)

      small : (p : ℕ) → p < length (x ∷ later) → (nth (x ∷ later) p).units ≤ (task_of b (nth (x ∷ later) p)).c
      small zero l = u
      small (suc p) l = h.small p (omega arith)

      order : (p : ℕ) → suc p < length (x ∷ later) → Before (nth (x ∷ later) p) (nth later p)
      order zero l = r (omega arith)
      order (suc p) l = h.order p (omega arith)

  spaced_more : (x : Release) (later : List Release) → ((o : ℕ) → o < length later → x.task ≡ (nth later o).task → mark x + (task_of b (nth later o)).t ≤ mark (nth later o))
      → Spaced b later → Spaced b (x ∷ later)
  spaced_more x later f h = record { gap = gap }
    where
      gap : (p o : ℕ) → p < o → o < length (x ∷ later) → (nth (x ∷ later) p).task ≡ (nth (x ∷ later) o).task
          → mark (nth (x ∷ later) p) + (task_of b (nth (x ∷ later) o)).t ≤ mark (nth (x ∷ later) o)
      gap p zero i l e = absurd (omega arith)
      gap zero (suc o) i l e = f o (omega arith) e
      gap (suc p) (suc o) i l e = h.gap p o (omega arith) (omega arith) e

  continued_more : (earlier : List Release) (x : Release) (later : List Release) → Faultless b earlier x → Continued (x ∷ earlier) later → Continued earlier (x ∷ later)
  continued_more earlier x later f h = record {
    listed = listed_more x later f.some f.there f.small (λ l. h.first l (omega arith)) h.listed;
    spaced = spaced_more x later (λ o l e. h.across o l 0 (omega arith) e) h.spaced;
    across = across;
    first = λ l. f.rise;
  }
    where
      across : (o : ℕ) → o < length (x ∷ later) → Apart (task_of b (nth (x ∷ later) o)).t earlier (nth (x ∷ later) o)
      across zero l = f.gap
      across (suc o) l = λ p i e. h.across o (omega arith) (suc p) (omega arith) e

  continued_first : (earlier : List Release) (x : Release) (later : List Release) → Continued earlier (x ∷ later) → Faultless b earlier x
  continued_first earlier x later h = record {
    some = h.listed.some 0 (omega arith);
    there = h.listed.there 0 (omega arith);
    rise = h.first (omega arith);
    small = h.listed.small 0 (omega arith);
    gap = h.across 0 (omega arith);
  }

  continued_rest : (earlier : List Release) (x : Release) (later : List Release) → Continued earlier (x ∷ later) → Continued (x ∷ earlier) later
  continued_rest earlier x later h = record {
    listed = record {
      some = λ p l. h.listed.some (suc p) (omega arith);
      there = λ p l. h.listed.there (suc p) (omega arith);
      small = λ p l. h.listed.small (suc p) (omega arith);
      order = λ p l. h.listed.order (suc p) (omega arith);
    };
    spaced = record { gap = λ p o i l e. h.spaced.gap (suc p) (suc o) (omega arith) (omega arith) e };
    across = λ o l. apart_cons _ x earlier (nth later o) (h.spaced.gap 0 (suc o) (omega arith) (omega arith)) (h.across (suc o) (omega arith));
    first = λ l _. h.listed.order 0 (omega arith);
  }

  from-legal : (n : ℕ) (earlier later : List Release) → legal_from b n earlier later ≡ legal → Continued earlier later
  unfolding legal_from
  from-legal n earlier [] h = continued_none earlier
  from-legal n earlier (x ∷ later) h =
      let f = faultless n earlier x (legal_from b (suc n) (x ∷ earlier) later) h in
      continued_more earlier x later f.0 (from-legal (suc n) (x ∷ earlier) later f.1)

  to_legal : (n : ℕ) (earlier later : List Release) → Continued earlier later → legal_from b n earlier later ≡ legal
  unfolding legal_from
  to_legal n earlier [] h = refl
  to_legal n earlier (x ∷ later) h =
      passes n earlier x _ (continued_first earlier x later h) ∙ to_legal (suc n) (x ∷ earlier) later (continued_rest earlier x later h)

  -- a legal list is listed and spaced, and a list that is both is legal
  pub legal-listed : (l : List Release) → legality b l ≡ legal → Listed b l
  unfolding legality
  legal-listed l h = (from-legal 1 [] l h).listed

  pub legal_spaced : (l : List Release) → legality b l ≡ legal → Spaced b l
  unfolding legality
  legal_spaced l h = (from-legal 1 [] l h).spaced

  pub listed-legal : (l : List Release) → Listed b l → Spaced b l → legality b l ≡ legal
  unfolding legality
  listed-legal l h g = to_legal 1 [] l (record { listed = h; spaced = g; across = λ o m p i e. absurd (omega arith); first = λ m i. absurd (omega arith) })

  -- the ticks of a listed list never fall
  pub listed_order : (l : List Release) → Listed b l → (p o : ℕ) → p ≤ o → o < length l → (nth l p).at ≤ (nth l o).at
  listed_order l h p zero i m = rw (zero_only p i) (omega arith)
    where
      zero_only : (p : ℕ) → p ≤ 0 → p ≡ 0
      zero_only p i = omega arith
  listed_order l h p (suc o) i m =
      on_le p o (λ g. let f = listed_order l h p o g (omega arith) in let k = (h.order o m).tick in omega arith) (λ g. rw (last g) (omega arith))
    where
      last : o < p → p ≡ suc o
      last g = omega arith

  -- and those of one tick rise by task
  pub listed_once : (l : List Release) → Listed b l → (p o : ℕ) → p < o → o < length l → (nth l p).at ≡ (nth l o).at → (nth l p).task < (nth l o).task
  listed_once l h p zero i m e = absurd (omega arith)
  listed_once l h p (suc o) i m e =
      let next = h.order o m in
      on_same p o
      (λ f. rw f (next.task (rw f at e)))
      (λ d.
      let f = listed_order l h p o (omega arith) (omega arith) in
      omega (arith, listed_once l h p o (omega arith) (omega arith) (omega (arith, next.tick)), next.task (omega (arith, next.tick))))

-- What a list releases to each task place at each tick, as a function. Assumes nothing.
use Rattle.std.specs.Prelude.{◌≡◌, refl, List, [], ◌∷◌, ◌++◌, ℕ, zero, suc, ◌<◌}
use Rattle.std.proofs.Common.{sym, ◌∙◌, arith}
use Rattle.paper.proofs.Laws.Tests.{on_zero, on_eqb}
use Rattle.paper.specs.Board.{Board}
use Rattle.paper.specs.Releases.{Release, units_of, mark}
use Rattle.paper.specs.Laws.Legal.{nth}
use Rattle.paper.specs.Laws.Flow.{renewed}
use Rattle.paper.proofs.Laws.Flow.{renewed_none, renewed_some, renewed_twice}
use Rattle.paper.specs.Laws.Released.{brings, released, marked, Goes, Entry}

pub brings_is : (b : Board) (w : Release) (a k : ℕ) → w.at ≡ a → w.task ≡ suc k → brings b w a k ≡ units_of b w
unfolding brings
brings_is b w a k e f =
    let P : ℕ → Type 0 = λ v. v ≡ units_of b w in
    on_eqb P w.at a _ _ (λ _. on_eqb P w.task (suc k) _ _ (λ _. refl) (λ g. absurd (g f))) (λ g. absurd (g e))

pub brings_not : (b : Board) (w : Release) (a k : ℕ) → (w.at ≡ a → w.task ≡ suc k → ⊥) → brings b w a k ≡ 0
unfolding brings
brings_not b w a k d =
    let P : ℕ → Type 0 = λ v. v ≡ 0 in
    on_eqb P w.at a _ _ (λ e. on_eqb P w.task (suc k) _ _ (λ f. absurd (d e f)) (λ g. refl)) (λ g. refl)

brings_some : (b : Board) (w : Release) (a k : ℕ) → 0 < brings b w a k → (w.at ≡ a) × (w.task ≡ suc k) × (brings b w a k ≡ units_of b w)
unfolding brings
brings_some b w a k =
    let P : ℕ → Type 0 = λ v. 0 < v → (w.at ≡ a) × (w.task ≡ suc k) × (v ≡ units_of b w) in
    on_eqb P w.at a _ _
    (λ e. on_eqb P w.task (suc k) _ _ (λ f h. (e, f, refl)) (λ f h. absurd (omega arith)))
    (λ e h. absurd (omega arith))

-- one more release at the end
pub released_more : (b : Board) (l : List Release) (w : Release) (a k : ℕ) → released b (l ++ (w ∷ [])) a k ≡ renewed (brings b w a k) (released b l a k)
unfolding released renewed
released_more b [] w a k = on_zero (brings b w a k) (λ e. rw e) (λ h. sym (renewed_some 0 h))
released_more b (v ∷ l) w a k = rw (released_more b l w a k) (renewed_twice (brings b w a k) (released b l a k) (brings b v a k))

pub entry : (b : Board) (l : List Release) (a k : ℕ) → 0 < released b l a k → Entry b l a k
unfolding released marked
entry b [] a k h = absurd (omega arith)
entry b (w ∷ l) a k h =
    on_zero (released b l a k)
    (λ z.
    let e = renewed_none (brings b w a k) z in
    let g = brings_some b w a k (omega (arith, e)) in
    record {
      place = 0;
      goes = record { listed = omega arith; at = g.0; task = g.1 };
      units = e ∙ g.2;
      marks = on_eqb (λ v. v ≡ mark w) (released b l a k) 0 _ _ (λ _. refl) (λ d. absurd (d z));
    })
    (λ s.
    let g = entry b l a k s in
    record {
      place = suc g.place;
      goes = record { listed = omega (arith, g.goes.listed); at = g.goes.at; task = g.goes.task };
      units = renewed_some (brings b w a k) s ∙ g.units;
      marks = on_eqb (λ v. v ≡ mark (nth l g.place)) (released b l a k) 0 _ _ (λ z. absurd (omega arith)) (λ _. g.marks);
    })

renewed_either : (u x : ℕ) → 0 < x → 0 < renewed u x
unfolding renewed
renewed_either zero x h = h
renewed_either (suc u) x h = omega arith

-- and what stands in the list is released
pub released_some : (b : Board) (l : List Release) (p a k : ℕ) → Goes l p a k → 0 < units_of b (nth l p) → 0 < released b l a k
unfolding released
released_some b [] p a k g h = absurd (omega (arith, g.listed))
released_some b (w ∷ l) zero a k g h = renewed_either _ _ (omega (arith, brings_is b w a k g.at g.task))
released_some b (w ∷ l) (suc p) a k g h =
    let i = released_some b l p a k (record { listed = omega (arith, g.listed); at = g.at; task = g.task }) h in
    omega (arith, renewed_some (brings b w a k) i)

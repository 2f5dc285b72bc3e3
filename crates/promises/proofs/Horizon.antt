-- The bound for a run whose list keeps its gaps among the releases before tick H: up to H no job is late and no release meets
-- an unfinished one. What is released from H on is cut away, since what is left before a tick depends on earlier releases
-- alone. Assumes nothing.
use Rattle.std.specs.Prelude.{◌≡◌, List, ℕ, ◌+◌, ◌-◌, ◌≤◌, ◌<◌, length}
use Rattle.std.proofs.Common.{sym, ap, ◌∙◌, arith}
use Rattle.std.proofs.Math.Nat.{le_refl}
use Rattle.paper.specs.Board.{Task, Board, task}
use Rattle.paper.specs.Releases.{Release, task_of, units_of, mark}
use Rattle.paper.proofs.Laws.Tests.{on_zero, on_le, on_eqb}
use Rattle.paper.specs.Laws.Reading.{In}
use Rattle.paper.specs.Laws.Ranges.{BoardIn}
use Rattle.paper.specs.Accepted.{Accepted}
use Rattle.paper.specs.Laws.Legal.{nth, Listed, Spaced}
use Rattle.paper.proofs.Laws.Legal.{listed_order}
use Rattle.paper.specs.Laws.Sums.{if_any}
use Rattle.paper.proofs.Laws.Sums.{any_none, any_some}
use Rattle.paper.specs.Laws.Counting.{lateness}
use Rattle.paper.specs.Laws.Flow.{remaining}
use Rattle.paper.proofs.Laws.Flow.{follows, follows_same}
use Rattle.paper.specs.Laws.Released.{released, marked, Goes}
use Rattle.paper.proofs.Laws.Released.{entry, released_some}
use Rattle.paper.proofs.Laws.Bridge.{fit}
use Rattle.promises.specs.Bound.{Lawful}
use Rattle.promises.proofs.Bound.{own_window, prompt, none_met}
use Rattle.promises.specs.Horizon.{SpacedBefore, bound, PromptBefore}

pub spaced_before : (b : Board) (l : List Release) (H : ℕ) → Spaced b l → SpacedBefore b l H
spaced_before b l H s = record { gap = λ p o h g _ e. omega (arith, s.gap p o h g e) }

-- a release comes at its mark
punctual : (k : Task) (w : Release) → In (mark w) (mark w + lateness k) w.at
punctual k w = record { low = le_refl _; high = omega arith }

module _ (b : Board) (inside : BoardIn b) (l : List Release) (listed : Listed b l) where
  pub homed : (p : ℕ) → p < length l → (nth l p).task - 1 < length b.tasks
  homed p h = omega (arith, listed.some p h, listed.there p h)

  pub bound_some : (p : ℕ) → p < length l → 0 < bound b l p
  bound_some p h = (inside.task _ (homed p h)).r.low

  units_small : (p : ℕ) → p < length l → units_of b (nth l p) ≤ (task_of b (nth l p)).c
  unfolding units_of
  units_small p h =
      on_eqb (λ v. v ≤ (task_of b (nth l p)).c) (nth l p).units 0 _ _ (λ e. le_refl _) (λ d. listed.small p h)

  task_is : (p a k : ℕ) → Goes l p a k → task_of b (nth l p) ≡ task b k
  task_is p a k g = ap (task b) (omega (arith, g.task))

  there : (p a k : ℕ) → Goes l p a k → k < length b.tasks
  there p a k g = omega (arith, g.task, listed.there p g.listed)

  module _ (H : ℕ) (spaced : SpacedBefore b l H) where
    -- the releases before H
    abbrev early : ℕ → ℕ → ℕ
    early a k = if_any (H - a) (released b l a k)

    early_is : (a : ℕ) → a < H → (k : ℕ) → released b l a k ≡ early a k
    early_is a h k = sym (any_some (released b l a k) (omega arith))

    early_some : (a k : ℕ) → 0 < early a k → (a < H) × (0 < released b l a k)
    early_some a k h =
        on_le H a
        (λ g. absurd (omega (arith, any_none {x = H - a} (released b l a k) (omega arith))))
        (λ g. (g, omega (arith, early_is a g k)))

    lawful : (k : ℕ) → k < length b.tasks → Lawful (task b k) (λ a. early a k) (λ a. marked b l a k)
    lawful k h = record {
      small = λ a.
          on_zero (early a k)
          (λ e. omega arith)
          (λ s.
          let g = early_some a k s in
          let w = entry b l a k g.1 in
          omega (arith, early_is a g.0 k, w.units, units_small w.place w.goes.listed, ap (λ (x : Task). x.c) (task_is w.place a k w.goes)));
      sporadic = record {
        period = (inside.task k h).t.low;
        gap = λ x y m f g.
            let f' = early_some x k f in
            let g' = early_some y k g in
            let v = entry b l x k f'.1 in
            let w = entry b l y k g'.1 in
            let same = v.goes.task ∙ sym w.goes.task in
            let e = ap (λ (x : Task). x.t) (task_is w.place y k w.goes) in
            on_le w.place v.place
            (λ i. absurd (omega (arith, v.goes.at, w.goes.at, listed_order b l listed w.place v.place i v.goes.listed)))
            (λ i. omega (arith, v.marks, w.marks, e, spaced.gap v.place w.place i w.goes.listed (omega (arith, w.goes.at)) same));
        after = λ x f. let v = entry b l x k (early_some x k f).1 in omega (arith, v.marks, v.goes.at, (punctual (task b k) (nth l v.place)).low);
        by = λ x f. let v = entry b l x k (early_some x k f).1 in omega (arith, v.marks, v.goes.at, (punctual (task b k) (nth l v.place)).high);
      };
    }

    module _ (ok : Accepted b) where
      pub prompt_before : PromptBefore b l H
      prompt_before =
          let F = follows b.speeds early in
          let W = own_window b inside ok F lawful in
          let same = follows_same (follows b.speeds (released b l)) F H early_is in
          record {
            clear = λ a k h s.
                let w = entry b l a k s in
                same a (omega arith) k
                ∙ none_met b inside ok F lawful W k (there w.place a k w.goes) a (omega (arith, early_is a h k));
            prompt = λ p a k g h.
                let s = released_some b l p a k g ((fit b l inside listed).units p g.listed) in
                let i : a < H = omega (arith, bound_some p g.listed) in
                same (a + bound b l p) h k
                ∙ ap (λ (x : Task). remaining b.speeds early (a + x.r) k) (task_is p a k g)
                ∙ prompt b inside ok F lawful W k (there p a k g) a (omega (arith, early_is a i k));
          }

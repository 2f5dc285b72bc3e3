-- The bridge: the tick machine computes what remains of each job, as a function of tick and task. Assumes nothing.
use Rattle.std.specs.Prelude.{◌≡◌, take, replicate}
use Rattle.std.proofs.Math.Path.{refl, sym, ap, fun_ext}
use Rattle.std.proofs.Common.{◌∙◌, le_trans, arith, get_or-set_other, take-suc}
use mathlib.Core.List.{List}
use Prim.Native.Nat.{ℕ, zero, suc, ◌-◌, ◌≤◌, ◌<◌}
use Rattle.std.proofs.Math.Nat.{zero-add}
use Rattle.std.proofs.Math.ListN.{length, get_or, length-set}
use Rattle.std.proofs.Math.Seq.{get_or-set_same, take-length}
use Rattle.paper.proofs.Laws.Tests.{on_same, on_eqb}
use Rattle.paper.specs.Board.{Board}
use Rattle.paper.specs.Releases.{Release, units_of}
use Rattle.paper.specs.Laws.Ranges.{BoardIn, no_release}
use Rattle.paper.specs.Laws.Legal.{nth, Listed}
use Rattle.paper.specs.Scheduler.{State, ran, fresh, started, worked, after}
use Rattle.paper.specs.Laws.Flow.{renewed, given, held, remaining}
use Rattle.paper.proofs.Laws.Flow.{renewed_none, renewed_some, renewed_twice}
use Rattle.paper.specs.Laws.Released.{brings, released, remains}
use Rattle.paper.proofs.Laws.Released.{brings_is, brings_not, released_more}
use Rattle.paper.specs.Laws.Served.{left_of}
use Rattle.paper.proofs.Laws.Served.{work_keeps, work-served, served-at}
use Rattle.paper.specs.Laws.Steps.{Holds, Steps, place_of}
use Rattle.paper.proofs.Laws.Steps.{run_keeps}
use Rattle.paper.specs.Laws.Bridge.{Fit, Lefts}

pub fit : (b : Board) (l : List Release) → BoardIn b → Listed b l → Fit b l
unfolding units_of
fit b l r g = record {
  some = g.some;
  home = λ p h. le_trans (g.there p h) r.tasks.high;
  units = λ p h.
      on_eqb (λ v. 0 < v) (nth l p).units 0 _ _
      (λ e. (r.task (place_of l p) (omega (arith, g.some p h, g.there p h))).c.low)
      (λ d. omega arith);
}

zeros : (n k : ℕ) → ◌≡◌ {A = ℕ} (get_or (replicate n 0) k 0) 0
zeros zero k = refl
zeros (suc n) zero = refl
zeros (suc n) (suc k) = zeros n k

pub lefts_fresh : (b : Board) (l : List Release) → Lefts b l 0 0 (fresh (length l))
unfolding fresh remaining released renewed
lefts_fresh b l = record { size = refl; is = λ k. zeros 96 k }

module _ (b : Board) (l : List Release) (f : Fit b l) where
  released_next : (a n k : ℕ) → n < length l → released b (take (suc n) l) a k ≡ renewed (brings b (nth l n) a k) (released b (take n l) a k)
  released_next a n k h = ap (λ (v : List Release). released b v a k) (take-suc l n no_release h) ∙ released_more b (take n l) (nth l n) a k

  -- the next release, where it changes place k to what it brings
  lefts_next : (a n : ℕ) (x x' : State) → n < length l → length x'.left ≡ 96
      → ((k : ℕ) → left_of x' k ≡ renewed (brings b (nth l n) a k) (left_of x k)) → Lefts b l a n x → Lefts b l a (suc n) x'
  lefts_next a n x x' h s e g = record {
    size = s;
    is = λ k.
        let u = brings b (nth l n) a k in
        e k ∙ ap (renewed u) (g.is k) ∙ sym (renewed_twice u _ _)
        ∙ ap (λ v. renewed v (remains b l a k)) (sym (released_next a n k h));
  }

  -- wherever a release that meets an unfinished job leads to
  pub lefts : (from to : ℕ) (B : ℕ → ℕ → Type 0)
      → ((a : ℕ) → from ≤ a → a < to → (n : ℕ) (x : State) → n < length l → (nth l n).at ≡ a → (left_of x (place_of l n) ≡ 0 → ⊥) → Lefts b l a n x → B (suc n) a)
      → Steps b l from to B (Lefts b l)
  unfolding started worked remaining released
  lefts from to B meets = record {
    skips = λ a _ _ n x h d g. lefts_next a n x x h g.size (λ k. sym (renewed_none _ (brings_not b (nth l n) a k (λ e _. d e)))) g;
    starts = λ a _ _ n x h e z g.
        let k = place_of l n in
        let u = units_of b (nth l n) in
        let i : (nth l n).task ≡ suc k = omega (arith, f.some n h) in
        lefts_next a n x _ h (simp length-set g.size)
        (λ j.
        on_same j k
        (λ o.
        rw (o, get_or-set_same x.left k u 0 (omega (arith, g.size, f.home n h)), brings_is b (nth l n) a k e i)
        (sym (renewed_some _ (f.units n h))))
        (λ d.
        rw (get_or-set_other x.left k j u 0 d)
        (sym (renewed_none _ (brings_not b (nth l n) a j (λ _ o. d (omega arith)))))))
        g;
    meets = meets;
    works = λ a _ _ x g.
        let e : left_of x ≡ held (released b l) (remains b l) a =
        fun_ext (λ k. g.is k ∙ ap (λ (v : List Release). renewed (released b v a k) (remains b l a k)) (take-length l)) in
        record {
          size = work_keeps a (λ y. length y.left ≡ 96) (λ y k s _ h. simp length-set h) b.speeds x g.size;
          is = λ k.
              ap (λ (v : List ℕ). get_or v k 0) (work-served b.speeds a x) ∙ served-at b.speeds x.left k
              ∙ ap (λ (y : ℕ → ℕ). y k - given b.speeds y k) e ∙ sym (renewed_none _ refl);
        };
  }

  -- between two ticks nothing is released yet
  pub lefts_between : (a : ℕ) (x : State) → Lefts b l a 0 x → (k : ℕ) → left_of x k ≡ remains b l a k
  unfolding released
  lefts_between a x g k = g.is k ∙ renewed_none _ refl

  -- the bridge: in a state that the machine comes to, each place has left what remains
  pub left_is : (a : ℕ) (x : State) → after b l a ≡ ran x → (k : ℕ) → left_of x k ≡ remains b l a k
  unfolding Holds after
  left_is a x e =
      let any : ℕ → ℕ → Type 0 = λ _ _. Unit in
      let h : Holds any (Lefts b l a 0) (after b l a) =
      rw zero-add at (run_keeps b l 0 a any (Lefts b l) (lefts 0 a any (λ _ _ _ _ _ _ _ _ _. tt)) a (omega arith) (lefts_fresh b l)) in
      lefts_between a x (rw e at h)

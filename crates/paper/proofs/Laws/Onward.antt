-- A run from tick to tick: one that goes on, and one that a release ended. Assumes nothing.
use Rattle.std.specs.Prelude.{◌≡◌, get_or}
use Rattle.std.proofs.Math.Path.{ap}
use Rattle.std.proofs.Common.{◌∙◌, arith, add-zero, add-suc}
use mathlib.Core.List.{List, [], ◌∷◌}
use Prim.Native.Nat.{ℕ, zero, suc, ◌+◌, ◌-◌, ◌≤◌}
use Rattle.std.proofs.Math.ListN.{length}
use Rattle.paper.proofs.Laws.Tests.{on_eqb}
use Rattle.paper.specs.Board.{Board}
use Rattle.paper.specs.Releases.{Release, units_of}
use Rattle.paper.specs.Scheduler.{State, Ran, ran, overran, started, release, dispatched, tick, ticked, after}

module _ (b : Board) where
  -- one tick more of a run that goes on
  pub after-tick : (list : List Release) (a : ℕ) (x : State) → after b list a ≡ ran x → after b list (suc a) ≡ tick b list a x
  unfolding after ticked
  after-tick list a x e = ap (ticked b list a) e

  -- a run that was ended stays so
  pub after_overrun : (list : List Release) (a more p t : ℕ) → after b list a ≡ overran p t → after b list (a + more) ≡ overran p t
  unfolding after ticked
  after_overrun list a zero p t e = ap (after b list) (add-zero a) ∙ e
  after_overrun list a (suc more) p t e = ap (after b list) (add-suc a more) ∙ ap (ticked b list (a + more)) (after_overrun list a more p t e)

  not_ended : {B : Type 0} (x : State) (p t : ℕ) → ◌≡◌ {A = Ran} (ran x) (overran p t) → B
  not_ended x p t e = let z : ◌≡◌ {A = ℕ} 0 1 = cc in absurd (omega arith)

  release_place : (a q : ℕ) (list : List Release) (x : State) (p t : ℕ) → release b a q list x ≡ overran p t → p ≤ q + length list
  unfolding release
  release_place a q [] x p t = not_ended x p t
  release_place a q (w ∷ later) x p t =
      let P : Ran → Type 0 = λ r. r ≡ overran p t → p ≤ q + length (w ∷ later) in
      on_eqb P w.at a _ _
      (λ _.
      on_eqb P (get_or x.left (w.task - 1) 0) 0 _ _
      (λ _ e. let h = release_place a (suc q) later (started x (w.task - 1) (units_of b w) q a) p t e in omega arith)
      (λ _ e. let h : suc q ≡ p = cc in omega arith))
      (λ _ e. let h = release_place a (suc q) later x p t e in omega arith)

  dispatched_place : (a n : ℕ) (r : Ran) (p t : ℕ) → (r ≡ overran p t → p ≤ n) → dispatched b a r ≡ overran p t → p ≤ n
  unfolding dispatched
  dispatched_place a n (overran q s) p t h e = h e
  dispatched_place a n (ran x) p t h e = not_ended _ p t e

  -- the release that ends a run is one of the list
  pub tick_place : (list : List Release) (a : ℕ) (x : State) (p t : ℕ) → tick b list a x ≡ overran p t → p ≤ length list
  unfolding tick
  tick_place list a x p t e =
      dispatched_place a (length list) (release b a 0 list x) p t (λ f. let h = release_place a 0 list x p t f in omega arith) e

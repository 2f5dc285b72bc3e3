-- Laws of the releases of one tick, one release at a time; and that a list with every release's units named runs as the list.
-- Assumes nothing.
use Rattle.std.specs.Prelude.{◌≡◌, List, [], ◌∷◌, map, Bool, true, false, eqb, get_or}
use Rattle.std.proofs.Math.Path.{refl, ap}
use Rattle.std.proofs.Common.{sym, ◌∙◌, arith}
use Prim.Native.Nat.{ℕ, zero, suc, ◌-◌, ◌<◌}
use Rattle.std.proofs.Math.Bool.{cond}
use Rattle.std.proofs.lemmas.List.{length-map}
use borrow.Author.Tests.{eq-eqb, ne_eqb}
use Rattle.paper.specs.Board.{Board}
use Rattle.paper.specs.Releases.{Release, units_of, usual, task_of}
use Rattle.paper.proofs.Laws.Tests.{on_eqb}
use Rattle.paper.specs.Scheduler.{State, Ran, ran, overran, started, arrives, release, dispatched, tick, ticked, after, released, seated, seats}
use Rattle.paper.specs.Laws.Cursor.{named}

-- a release that names its units brings them, whatever the board
pub units-named : (b : Board) (w : Release) → 0 < w.units → units_of b w ≡ w.units
unfolding units_of
units-named b w h = rw (ne_eqb w.units 0 (λ e. omega arith))

module _ (b : Board) (a p : ℕ) (w : Release) (later : List Release) (x : State) where
  -- a release of another tick does nothing
  pub release_waits : (w.at ≡ a → ⊥) → release b a p (w ∷ later) x ≡ release b a (suc p) later x
  unfolding release
  release_waits e = rw (ne_eqb w.at a e)

  -- a release of this tick starts its job where the last one is complete
  pub release_starts : w.at ≡ a → get_or x.left (w.task - 1) 0 ≡ 0
      → release b a p (w ∷ later) x ≡ release b a (suc p) later (started x (w.task - 1) (units_of b w) p a)
  unfolding release
  release_starts e h = rw (eq-eqb w.at a e, eq-eqb (get_or x.left (w.task - 1) 0) 0 h)

  -- and ends the run where it is not
  pub release_overruns : w.at ≡ a → (get_or x.left (w.task - 1) 0 ≡ 0 → ⊥) → release b a p (w ∷ later) x ≡ overran (suc p) a
  unfolding release
  release_overruns e h = rw (eq-eqb w.at a e, ne_eqb (get_or x.left (w.task - 1) 0) 0 h)

module _ (b : Board) where
  pub units_of_named : (w : Release) → units_of b (named b w) ≡ units_of b w
  unfolding units_of named
  units_of_named w =
      on_eqb (λ (u : ℕ). cond (eqb u 0) (usual (task_of b w)) u ≡ u) w.units 0 (usual (task_of b w)) w.units
      (λ _. on_eqb (λ (v : ℕ). v ≡ usual (task_of b w)) (usual (task_of b w)) 0 (usual (task_of b w)) (usual (task_of b w)) (λ _. refl) (λ _. refl))
      (λ e. rw (ne_eqb w.units 0 e))

  branches : {A : Type 0} (t u : Bool) (d : A) {c c' e e' : A} → c ≡ c' → e ≡ e' → cond t (cond u c d) e ≡ cond t (cond u c' d) e'
  branches true true d h k = h
  branches true false d h k = refl
  branches false u d h k = k

  release_cons : (a p : ℕ) (w : Release) (later : List Release) (x : State) → release b a p (w ∷ later) x
      ≡ cond (arrives w a)
      (cond (eqb (get_or x.left (w.task - 1) 0) 0) (release b a (suc p) later (started x (w.task - 1) (units_of b w) p a)) (overran (suc p) a))
      (release b a (suc p) later x)
  unfolding release
  release_cons a p w later x = refl

  named_cons : (a p : ℕ) (w : Release) (later : List Release) (x : State) → release b a p (named b w ∷ later) x
      ≡ cond (arrives w a)
      (cond (eqb (get_or x.left (w.task - 1) 0) 0) (release b a (suc p) later (started x (w.task - 1) (units_of b (named b w)) p a)) (overran (suc p) a))
      (release b a (suc p) later x)
  unfolding release named
  named_cons a p w later x = refl

  pub release-named : (a p : ℕ) (list : List Release) (x : State) → release b a p (map (named b) list) x ≡ release b a p list x
  release-named a p [] x = refl
  release-named a p (w ∷ later) x =
      let x' : State = started x (w.task - 1) (units_of b w) p a in
      named_cons a p w (map (named b) later) x
      ∙ branches (arrives w a) (eqb (get_or x.left (w.task - 1) 0) 0) (overran (suc p) a)
      (ap (λ (u : ℕ). release b a (suc p) (map (named b) later) (started x (w.task - 1) u p a)) (units_of_named w) ∙ release-named a (suc p) later x')
      (release-named a (suc p) later x)
      ∙ sym (release_cons a p w later x)

  pub tick-named : (list : List Release) (a : ℕ) (x : State) → tick b (map (named b) list) a x ≡ tick b list a x
  unfolding tick
  tick-named list a x = ap (dispatched b a) (release-named a 0 list x)

  ticked-named : (list : List Release) (a : ℕ) (x : Ran) → ticked b (map (named b) list) a x ≡ ticked b list a x
  unfolding ticked
  ticked-named list a (ran x) = tick-named list a x
  ticked-named list a (overran p t) = refl

  -- a run of the list with its units named is a run of the list
  pub after-named : (list : List Release) (H : ℕ) → after b (map (named b) list) H ≡ after b list H
  unfolding after
  after-named list zero = rw (length-map list (named b))
  after-named list (suc H) = ap (ticked b (map (named b) list) H) (after-named list H) ∙ ticked-named list H (after b list H)

  released-named : (list : List Release) (a : ℕ) (x : Ran) → released b (map (named b) list) a x ≡ released b list a x
  unfolding released
  released-named list a (ran x) = release-named a 0 list x
  released-named list a (overran p t) = refl

  -- and its tables are those of the list
  pub seats-named : (list : List Release) (a : ℕ) → seats b (map (named b) list) a ≡ seats b list a
  unfolding seats
  seats-named list a =
      ap (λ (x : Ran). seated b (released b (map (named b) list) a x)) (after-named list a) ∙ ap (seated b) (released-named list a (after b list a))

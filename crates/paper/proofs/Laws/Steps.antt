-- Steps: what every step of a run keeps, the whole run keeps. Assumes nothing.
use Rattle.std.specs.Prelude.{◌≡◌, List, drop}
use Prim.Native.Nat.{ℕ, zero, suc, ◌+◌, ◌≤◌, ◌<◌}
use Rattle.std.proofs.Common.{add-zero, add-suc, drop-cons}
use native.Mathlib.Omega.{arith}
use Rattle.std.proofs.Math.ListN.{length}
use Rattle.std.proofs.Math.Seq.{drop-length}
use Rattle.paper.proofs.Laws.Tests.{on_eqb}
use Rattle.paper.specs.Board.{Board}
use Rattle.paper.specs.Releases.{Release}
use Rattle.paper.specs.Laws.Ranges.{no_release}
use Rattle.paper.specs.Scheduler.{State, Ran, ran, overran, release, dispatched, tick, ticked, after}
use Rattle.paper.proofs.Laws.Served.{work-table}
use Rattle.paper.specs.Laws.Steps.{Holds, Steps}

module _ (b : Board) (l : List Release) (from to : ℕ) (B : ℕ → ℕ → Type 0) (P : ℕ → ℕ → State → Type 0) (steps : Steps b l from to B P) where
  module _ (a : ℕ) (f : from ≤ a) (t : a < to) where
    release_keeps : (rest n : ℕ) (x : State) → n + rest ≡ length l → P a n x → Holds B (P a (length l)) (release b a n (drop n l) x)
    unfolding release Holds
    release_keeps zero n x e h =
        let g : n ≡ length l = omega arith in
        rw (g, drop-length l) (rw g at h)
    release_keeps (suc rest) n x e h =
        let i : n < length l = omega arith in
        let Q : Ran → Type 0 = Holds B (P a (length l)) in
        rw (drop-cons l n no_release i)
        (on_eqb Q _ a _ _
        (λ g.
        on_eqb Q _ 0 _ _
        (λ z. release_keeps rest (suc n) _ (omega arith) (steps.starts a f t n x i g z h))
        (λ d. steps.meets a f t n x i g d h))
        (λ g. release_keeps rest (suc n) x (omega arith) (steps.skips a f t n x i g h)))

    dispatch_keeps : (out : Ran) → Holds B (P a (length l)) out → Holds B (P (suc a) 0) (dispatched b a out)
    unfolding dispatched Holds
    dispatch_keeps (overran p u) h = h
    dispatch_keeps (ran x) h = rw (work-table b.speeds a x x.left) (steps.works a f t x h)

    tick_keeps : (out : Ran) → Holds B (P a 0) out → Holds B (P (suc a) 0) (ticked b l a out)
    unfolding ticked tick Holds
    tick_keeps (overran p u) h = h
    tick_keeps (ran x) h = dispatch_keeps _ (release_keeps (length l) 0 x (omega arith) h)

  pub run_keeps : (d : ℕ) → from + d ≤ to → Holds B (P from 0) (after b l from) → Holds B (P (from + d) 0) (after b l (from + d))
  unfolding after
  run_keeps zero i h = rw (add-zero from) h
  run_keeps (suc d) i h = rw (add-suc from d) (tick_keeps (from + d) (omega arith) (omega arith) _ (run_keeps d (omega arith) h))

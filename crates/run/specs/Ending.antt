-- What the ticks make of the answer and the lent places. Assumes nothing.
use Rattle.std.specs.Prelude.{◌≡◌, refl, ℕ, ◌≤◌, List, ◌++◌, length, take, drop, replicate, Ok, Err}
use Rattle.std.proofs.Common.{sym, ap, ◌∙◌, arith, take-append-drop, length-append, drop_at, length-take-le}
use Rattle.std.proofs.lemmas.List.{length-replicate}
use Rattle.paper.specs.Board.{Board}
use Rattle.paper.specs.Scheduler.{after}
use Rattle.paper.specs.Run.{over, finished}
use Rattle.paper.specs.declared.Refusal.TheVariants.{Overrun}
use Rattle.quantity.specs.Quantity.{speeds_of}
use Rattle.quantity.specs.declared.Speed.{Speed}
use Rattle.releases.specs.Packed.{releases_of}
use Rattle.releases.specs.declared.Release.{Release}
use Rattle.scheduler.specs.declared.Overrun as ended
use Rattle.run.specs.Finishing.{Meets}
use Rattle.run.specs.Going.{Went}

-- the first places are filled with 0
pub filled : (n : ℕ) (places zeros : List ℕ) → n ≤ length places → zeros ≡ replicate (length (take n places)) 0
    → zeros ++ drop n places ≡ over (replicate n 0) places
filled n places zeros h e = rw (e, length-take-le n places h, length-replicate {A = ℕ} n 0)

module _ (speeds : List Speed) (releases : List Release) (horizon : ℕ) (b : Board) (s : b.speeds ≡ speeds_of speeds)
    (lent cleared : List ℕ) (fits : length releases ≤ length lent) (e : cleared ≡ over (replicate (length releases) 0) lent)
    (places : List ℕ) where
  cleared_rest : drop (length releases) cleared ≡ drop (length releases) lent
  cleared_rest =
      rw e
      (drop_at (replicate (length releases) 0) _ (length releases) (length-replicate {A = ℕ} (length releases) 0)
      ∙ ap (λ k. drop k lent) (length-replicate {A = ℕ} (length releases) 0))

  cleared_long : length releases ≤ length cleared
  cleared_long = rw e (simp (length-append, length-replicate) (omega arith))

  -- a run that made all its ticks
  pub meets_through : (seats : List ℕ) → Went speeds releases horizon cleared (Ok seats) places
      → Meets (finished lent (length releases) (after b (releases_of releases) horizon)) (Ok (length releases)) places
  unfolding finished
  meets_through seats w =
      let x = (w.ends b s).0 in
      let same : take (length releases) places ≡ x.responses = (w.ends b s).2 in
      let many : length x.responses ≡ length releases =
      ap length (sym same) ∙ length-take-le (length releases) places (omega (arith, w.long, cleared_long)) in
      rw (w.ends b s).1
      (record {
        answer = refl;
        count = sym many;
        places =
            sym (take-append-drop (length releases) places)
            ∙ ap (λ (t : List ℕ). t ++ drop (length releases) places) same
            ∙ ap (λ (t : List ℕ). x.responses ++ t) (w.rest ∙ cleared_rest ∙ ap (λ k. drop k lent) (sym many));
      })

  -- one that a release ended, its places cleared again
  pub meets_overran : (overrun : ended.Overrun) → Went speeds releases horizon cleared (Err overrun) places
      → (zeros : List ℕ) → zeros ≡ replicate (length (take (length releases) places)) 0
      → Meets (finished lent (length releases) (after b (releases_of releases) horizon)) (Err (Overrun overrun.release overrun.tick.0))
      (zeros ++ drop (length releases) places)
  unfolding finished
  meets_overran overrun w zeros i =
      rw (w.ends b s)
      (record {
        answer = refl;
        count = refl;
        places =
            filled (length releases) places zeros (omega (arith, w.long, cleared_long)) i
            ∙ ap (λ (k : List ℕ). replicate (length releases) 0 ++ k)
            (ap (λ k. drop k places) (length-replicate {A = ℕ} (length releases) 0) ∙ w.rest ∙ cleared_rest
            ∙ ap (λ k. drop k lent) (sym (length-replicate {A = ℕ} (length releases) 0)));
      })

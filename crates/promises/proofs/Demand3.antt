-- Demand 3 about the scheduler: on an accepted board no job is late and no release meets an unfinished job, up to any tick H
-- before which the list keeps its gaps. Assumes nothing.
use Rattle.std.specs.Prelude.{◌≡◌, refl, List, ℕ, ◌≤◌, ◌<◌}
use Rattle.std.proofs.Common.{ap, ⊎_elim, le_refl, arith}
use Rattle.paper.specs.Board.{Board}
use Rattle.paper.specs.Releases.{Release, legal, legality}
use Rattle.paper.specs.Scheduler.{State, Ran, ran, overran, after}
use Rattle.paper.specs.Laws.Reading.{In}
use Rattle.paper.specs.Laws.Ranges.{BoardIn}
use Rattle.paper.specs.Accepted.{Accepted}
use Rattle.paper.specs.Laws.Legal.{nth, Listed}
use Rattle.paper.proofs.Laws.Legal.{legal-listed, legal_spaced}
use Rattle.paper.specs.Laws.Served.{job_of}
use Rattle.paper.specs.Laws.Steps.{Holds}
use Rattle.paper.proofs.Laws.Bridge.{fit}
use Rattle.promises.specs.Horizon.{SpacedBefore, bound}
use Rattle.promises.proofs.Horizon.{spaced_before, bound_some, prompt_before}
use Rattle.promises.specs.Sound.{Going}
use Rattle.promises.proofs.Sound.{going}
use Rattle.promises.specs.Settled.{Settled, Between}
use Rattle.promises.proofs.Settled.{stays_settled}
use Rattle.promises.specs.Demand3.{Due, InTime, Finishes}

module _ (b : Board) (inside : BoardIn b) (l : List Release) (listed : Listed b l) where
  early : (H p : ℕ) → Due b l H p → (nth l p).at < H
  early H p d = omega (arith, d.by, bound_some b inside l listed p d.listed)

  -- at tick H each such release has its response, and its job is over
  settled : (H : ℕ) (x : State) → Going b l H 0 x → (p : ℕ) → Due b l H p → Settled (In 1 (bound b l p)) p x
  settled H x g p d =
      let s = g.sound in
      let over : (k : ℕ) → 0 < _ → job_of x k ≡ p → ⊥ = λ k h e.
      let r = s.running k h in
      omega (arith, r.in_time, r.goes.at, ap (λ q. (nth l q).at) e, ap (bound b l) e, d.by) in
      record {
        jobs = s.jobs;
        told =
            ⊎_elim
            (λ w. absurd (over _ w.unfinished w.job))
            (λ w. w)
            (s.told p (record { listed = d.listed; by = omega (arith, early H p d); before = λ e. absurd (omega (arith, early H p d)) }));
        over = over;
      }

  module _ (ok : Accepted b) where
    -- a run of T ticks, of a list that keeps its gaps before tick H: no release before H meets an unfinished job, and each
    -- release whose bound ends by H has a response within it
    pub before_horizon : (H T : ℕ) → H ≤ T → SpacedBefore b l H → Holds (Between H T) (InTime b l H) (after b l T)
    unfolding Holds
    before_horizon H T h s =
        ends (after b l T)
        (stays_settled b l (fit b l inside listed) H T (Due b l H) (λ p. In 1 (bound b l p)) (early H) h
        (begins (after b l H) (going b inside l listed H (prompt_before b inside l listed H s ok))))
      where
        begins : (out : Ran) → Holds (λ _ _. ⊥) (Going b l H 0) out
            → Holds (Between H T) (λ x. (p : ℕ) → Due b l H p → Settled (In 1 (bound b l p)) p x) out
        begins (ran x) g = settled H x g
        begins (overran p a) g = absurd g

        ends : (out : Ran) → Holds (Between H T) (λ x. (p : ℕ) → Due b l H p → Settled (In 1 (bound b l p)) p x) out
            → Holds (Between H T) (InTime b l H) out
        ends (ran x) g = record { response = λ p d. let w = (g p d).told in record { low = omega (arith, w.low); high = omega (arith, w.high) } }
        ends (overran p a) g = g

pub demand_3 : (b : Board) → BoardIn b → Accepted b → (l : List Release) → legality b l ≡ legal → (T : ℕ) → Finishes b l T
unfolding Holds
demand_3 b inside ok l leg T =
    go (after b l T) refl (before_horizon b inside l (legal-listed b l leg) ok T T (le_refl T) (spaced_before b l T (legal_spaced b l leg)))
  where
    go : (out : Ran) → after b l T ≡ out → Holds (Between T T) (InTime b l T) out → Finishes b l T
    go (ran x) e g = record { state = x; ends = e; in_time = g }
    go (overran p a) e g = absurd (omega (arith, g.from, g.to))

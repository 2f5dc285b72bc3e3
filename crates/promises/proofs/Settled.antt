-- Once a response is in and its job is over, no later tick changes it: each write goes to the place of a running job.
-- Assumes nothing.
use Rattle.std.specs.Prelude.{◌≡◌, ℕ, ◌+◌, ◌-◌, ◌≤◌, ◌<◌}
use Rattle.std.proofs.Common.{sym, ap, arith}
use mathlib.Core.List.{List}
use Rattle.std.proofs.Math.Nat.{le_dest}
use Rattle.std.proofs.Math.ListN.{get_or, length-set}
use Rattle.std.proofs.Math.Seq.{get_or-set_same, get_or-set_other}
use Rattle.paper.specs.Board.{Board}
use Rattle.paper.specs.Releases.{Release}
use Rattle.paper.specs.Scheduler.{State, started, answered, worked, after}
use Rattle.paper.proofs.Laws.Tests.{on_same, on_eqb}
use Rattle.paper.specs.Laws.Legal.{nth}
use Rattle.paper.specs.Laws.Served.{left_of, job_of}
use Rattle.paper.proofs.Laws.Served.{work_keeps}
use Rattle.paper.specs.Laws.Steps.{Holds, Steps, place_of}
use Rattle.paper.proofs.Laws.Steps.{run_keeps}
use Rattle.paper.specs.Laws.Bridge.{Fit}
use Rattle.promises.specs.Settled.{Settled, Between}

module _ (Q : ℕ → Type 0) (p : ℕ) where
  -- another release is made
  start_settled : (k u n a : ℕ) (x : State) → k < 96 → (n ≡ p → ⊥) → Settled Q p x → Settled Q p (started x k u n a)
  unfolding started
  start_settled k u n a x h d g = record {
    jobs = simp length-set g.jobs;
    told = g.told;
    over = λ j.
        on_same j k
        (λ e _. rw (e, get_or-set_same x.job k n 0 (omega (arith, g.jobs))) d)
        (λ o. rw (get_or-set_other x.left k j u 0 o, get_or-set_other x.job k j n 0 o) (g.over j));
  }

  -- a ready job works
  work_settled : (a : ℕ) (x : State) (k s : ℕ) → 0 < left_of x k → Settled Q p x → Settled Q p (worked x k s a)
  unfolding worked answered
  work_settled a x k s h g = record {
    jobs = g.jobs;
    told =
        on_eqb (λ (v : List ℕ). Q (get_or v p 0)) (left_of x k - s) 0 _ _
        (λ _. rw (get_or-set_other x.responses (job_of x k) p (a + 1 - get_or x.since k 0) 0 (λ e. g.over k h (sym e))) g.told)
        (λ _. g.told);
    over = λ j.
        on_same j k
        (λ e _. g.over j (rw e h))
        (λ o. rw (get_or-set_other x.left k j (left_of x k - s) 0 o) (g.over j));
  }

-- what is settled of releases before H stays so, to the end of the run or to a later overrun
module _ (b : Board) (l : List Release) (f : Fit b l) (H T : ℕ) (Due : ℕ → Type 0) (Q : ℕ → ℕ → Type 0) (early : (p : ℕ) → Due p → (nth l p).at < H) where
  abbrev AllSettled : State → Type 0
  AllSettled x = (p : ℕ) → Due p → Settled (Q p) p x

  steps : Steps b l H T (Between H T) (λ _ _. AllSettled)
  steps = record {
    skips = λ a s t n x h d g. g;
    starts = λ a s t n x h e z g p d.
        start_settled (Q p) p (place_of l n) _ n a x (omega (arith, f.some n h, f.home n h))
        (λ i. omega (arith, early p d, ap (λ q. (nth l q).at) i)) (g p d);
    meets = λ a s t n x h e d g. record { from = s; to = t };
    works = λ a s t x g. work_keeps a AllSettled (λ y k v h i p d. work_settled (Q p) p a y k v h (i p d)) b.speeds x g;
  }

  pub stays_settled : H ≤ T → Holds (Between H T) AllSettled (after b l H) → Holds (Between H T) AllSettled (after b l T)
  stays_settled h g = let d = le_dest h in rw d.1 at (run_keeps b l H T (Between H T) (λ _ _. AllSettled) steps d.0 (omega (arith, d.1)) g)

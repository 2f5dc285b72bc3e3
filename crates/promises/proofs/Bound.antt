-- Why every job of an accepted board is complete within its bound, over functions of tick and task: the columns, summed over
-- a window of r ticks, against what the tasks above and the job itself can have been given in it. Assumes nothing.
use Rattle.std.specs.Prelude.{◌≡◌, refl, List, ℕ, zero, suc, ◌+◌, ◌*◌, ◌≤◌, ◌<◌, take}
use Rattle.std.proofs.Math.Path.{ap}
use Rattle.std.proofs.Common.{◌∙◌, mul-le-mul_right, le_refl, le_of_lt, length-take}
use Rattle.std.proofs.Math.Nat.{mul-le-mul_left, le_trans}
use native.Mathlib.Omega.{arith}
use Rattle.std.proofs.Math.ListN.{length}
use Rattle.paper.specs.Board.{Task, Board, no_task, task}
use Rattle.paper.specs.Certificate.{S, own, fastest, charge, jobs, load, demand}
use Rattle.paper.proofs.Laws.Tests.{on_zero}
use Rattle.paper.specs.Laws.Ranges.{BoardIn}
use Rattle.paper.specs.Accepted.{Covered, Accepted}
use Rattle.paper.specs.Laws.Sums.{total}
use Rattle.paper.proofs.Laws.Sums.{total_le, total_ext, total_swap, sum-take, all_columns}
use Rattle.paper.specs.Laws.Flow.{rank, given, held, Follows}
use Rattle.paper.proofs.Laws.Flow.{rank_le, given-total}
use Rattle.promises.proofs.Place.{sinks, given_in, unfinished}
use Rattle.promises.specs.Carried.{Prompt}
use Rattle.promises.proofs.Carried.{clear, jobs_in}
use Rattle.promises.specs.Bound.{Lawful, Certified, above, Window}

pub certified : (b : Board) → Accepted b → (i : ℕ) → i < length b.tasks → Certified b i
certified b ok i h =
    let p = ok.pass i h in
    let e : length (take i b.tasks) ≡ i = length-take i b.tasks ∙ omega arith in
    record {
      fits = omega (arith, p.r_in, p.d_in);
      covers = λ j g. all_columns b.speeds (task b i) i (rw e at p.covers) j (omega arith);
      holds = omega (arith, p.holds);
    }

-- columns summed over L ticks: in tick e the tasks above sit on n e processors
columns : (speeds : List ℕ) (k : Task) (i : ℕ) (n : ℕ → ℕ) → ((j : ℕ) → j ≤ i → Covered speeds k j) → ((e : ℕ) → n e ≤ i)
    → (L : ℕ) → k.q * L ≤ k.y * total (λ e. S speeds (n e)) L + k.z * total (λ e. own speeds (n e)) L
unfolding total
columns speeds k i n col low zero = omega arith
columns speeds k i n col low (suc L) = omega (arith, columns speeds k i n col low L, col (n L) (omega (arith, low L)))

module _ (b : Board) (inside : BoardIn b) (ok : Accepted b) {rel mark left : ℕ → ℕ → ℕ} (F : Follows b.speeds rel left)
    (lawful : (k : ℕ) → k < length b.tasks → Lawful (task b k) (λ a. rel a k) (λ a. mark a k)) where
  abbrev Prompts : ℕ → Type 0
  Prompts k = Prompt (task b k).r (λ a. rel a k) (λ a. left a k)

  -- the load on task i in its bound
  abbrev load_on : ℕ → ℕ
  load_on i = load b.speeds (take i b.tasks) (task b i).r

  -- each task given those above it: the only place that says which ticks speak for a job's own
  abbrev Windows : Type 0
  Windows = (i : ℕ) → i < length b.tasks → ((k : ℕ) → k < i → Prompts k) → (a : ℕ)
      → Window b.speeds rel left i a (task b i).r (load_on i)

  fast : (j : ℕ) → own b.speeds j ≤ fastest b.speeds
  fast zero = le_refl _
  fast (suc j) = le_trans (ok.falling j) (fast j)

  -- what the tasks above take in R ticks, if all of them are prompt: a charge for each job in its count
  taken : (i : ℕ) → i < length b.tasks → ((k : ℕ) → k < i → Prompts k) → (w R : ℕ)
      → total (λ e. above b.speeds rel left i (w + e)) R ≤ load b.speeds (take i b.tasks) R
  unfolding load
  taken i h prompt w R =
      rw (sum-take (λ k. jobs R k * charge b.speeds k.c) no_task b.tasks i (le_of_lt h))
      (rw (← total_ext (λ e. total (given b.speeds (held rel left (w + e))) i) _ R (λ e _. given-total b.speeds (held rel left (w + e)) i))
      (rw (total_swap (λ e k. given b.speeds (held rel left (w + e)) k) R i)
      (total_le _ _ i
      (λ k g.
      let n : k < length b.tasks = omega arith in
      le_trans (given_in F fast k (task b k).c (lawful k n).small w R)
      (mul-le-mul_right (charge b.speeds (task b k).c)
      (jobs_in (task b k) (λ a. rel a k) (λ a. left a k) (F.start k) (sinks F k) (inside.task k n).r.low (prompt k g) (lawful k n).sporadic w R))))))

  -- the job's own ticks speak for themselves
  pub own_window : Windows
  own_window i h prompt a = record { from = a; takes = taken i h prompt a (task b i).r; offers = le_refl _ }

  module _ (window : Windows) where
    -- a job that is not complete after its bound would have been offered too much
    late : (i : ℕ) → i < length b.tasks → (a L : ℕ) → (task b i).r ≡ suc L → Window b.speeds rel left i a (suc L) (load_on i)
        → 0 < rel a i → 0 < left (a + suc L) i → ⊥
    unfolding demand
    late i h a L e w p o =
        let k = task b i in
        let cert = certified b ok i h in
        let sp = (lawful i h).sporadic in
        let quiet : (d : ℕ) → 0 < d → d ≤ L → rel (a + d) i ≡ 0 = λ d d0 dl.
        on_zero (rel (a + d) i)
        (λ z. z)
        (λ g. absurd (omega (arith, sp.gap a (a + d) (omega arith) p g, sp.by a p, sp.after (a + d) g, cert.fits))) in
        let offers = unfinished F fast i k.c (lawful i h).small a L (inside.task i h).c.low quiet o in
        let cl = columns b.speeds k i (λ d. rank (held rel left (w.from + d)) i) (λ j g. cert.covers j (omega arith)) (λ d. rank_le _ i) (suc L) in
        omega
        (arith, cl, cert.holds, mul-le-mul_left k.y w.takes, mul-le-mul_left k.z (le_trans w.offers offers), ap (λ R. k.q * R) e)

    next : (i : ℕ) → i < length b.tasks → ((k : ℕ) → k < i → Prompts k) → Prompts i
    next i h up a p = go (task b i).r refl (window i h up a)
      where
        go : (R : ℕ) → (task b i).r ≡ R → Window b.speeds rel left i a R (load_on i) → left (a + R) i ≡ 0
        go zero e w = absurd (omega (arith, (inside.task i h).r.low))
        go (suc L) e w = on_zero (left (a + suc L) i) (λ z. z) (λ o. absurd (late i h a L e w p o))

    -- every job is complete within its bound
    pub prompt : (i : ℕ) → i < length b.tasks → Prompts i
    prompt i h = below (suc i) h i (le_refl (suc i))
      where
        below : (m : ℕ) → m ≤ length b.tasks → (k : ℕ) → k < m → Prompts k
        below zero l k h = absurd (omega arith)
        below (suc m) l k h = next k (omega arith) (λ j g. below m (omega arith) j (omega arith))

    -- and no job is released while its forerunner is unfinished
    pub none_met : (i : ℕ) → i < length b.tasks → (a : ℕ) → 0 < rel a i → left a i ≡ 0
    none_met i h =
        clear (task b i) (λ a. rel a i) (λ a. left a i) (F.start i) (sinks F i) (inside.task i h).r.low (prompt i h) (lawful i h).sporadic (certified b ok i h).fits

-- What a prompt task brings into a window: at most one job, released less than r ticks before it. Assumes nothing.
use Rattle.std.specs.Prelude.{◌≡◌, ℕ, zero, suc, ◌+◌, ◌-◌, ◌≤◌, ◌<◌}
use Rattle.std.proofs.Common.{ap, arith}
use Rattle.std.proofs.Math.Nat.{le_dest}
use Rattle.paper.specs.Board.{Task}
use Rattle.paper.specs.Certificate.{jobs}
use Rattle.paper.proofs.Laws.Tests.{on_zero, on_le}
use Rattle.paper.specs.Laws.Sums.{any}
use Rattle.paper.proofs.Laws.Sums.{any_none, any_some}
use Rattle.paper.specs.Laws.Counting.{count, Sporadic, lateness}
use Rattle.paper.proofs.Laws.Counting.{count_front, count_split, count_more, at_most_jobs}
use Rattle.paper.specs.Laws.Flow.{renewed}
use Rattle.paper.proofs.Laws.Flow.{renewed_none}
use Rattle.promises.specs.Carried.{Prompt}

-- an unfinished job's release, less than r ticks before tick a
record Recent (r : ℕ) (rel : ℕ → ℕ) (a : ℕ) : Type 0 where
  at : ℕ
  before : at < a
  some : 0 < rel at
  recent : a < at + r

module _ (k : Task) (rel left : ℕ → ℕ) (start : left 0 ≡ 0) (sinks : (a : ℕ) → left (suc a) ≤ renewed (rel a) (left a)) (pos : 0 < k.r)
    (prompt : Prompt k.r rel left) where
  busy : (a : ℕ) → 0 < left a → Recent k.r rel a
  busy zero h = absurd (omega (arith, start))
  busy (suc a) h =
      on_zero (rel a)
      (λ e.
      let w = busy a (omega (arith, sinks a, renewed_none (left a) e)) in
      on_le (w.at + k.r) (suc a)
      (λ g. let f : w.at + k.r ≡ suc a = omega arith in absurd (omega (arith, prompt w.at w.some, ap left f)))
      (λ g. record { at = w.at; before = omega arith; some = w.some; recent = g }))
      (λ s.
      on_le (a + k.r) (suc a)
      (λ g. let f : a + k.r ≡ suc a = omega arith in absurd (omega (arith, prompt a s, ap left f)))
      (λ g. record { at = a; before = omega arith; some = s; recent = g }))

  module _ {mark : ℕ → ℕ} (S : Sporadic k.t (lateness k) rel mark) where
    -- a release never meets an unfinished forerunner
    pub clear : k.r + lateness k ≤ k.t → (a : ℕ) → 0 < rel a → left a ≡ 0
    clear fits a h =
        on_zero (left a)
        (λ e. e)
        (λ g.
        let w = busy a g in
        absurd (omega (arith, S.gap w.at a w.before w.some h, S.by w.at w.some, S.after a h)))

    -- the jobs that can run in R ticks: those released in them, and one brought in
    pub jobs_in : (a R : ℕ) → any (left a) + count rel a R ≤ jobs R k
    jobs_in a R = on_zero (left a) none some
      where
        none : left a ≡ 0 → any (left a) + count rel a R ≤ jobs R k
        none e = rw (any_none 1 e) (omega (arith, count_more rel a R (R + k.r - 1) (omega arith), at_most_jobs k S a R))

        some : 0 < left a → any (left a) + count rel a R ≤ jobs R k
        some h =
            let w = busy a h in
            let d = le_dest w.before in
            let e : w.at + suc d.0 ≡ a = omega (arith, d.1) in
            omega (
              arith,
              any_some 1 h,
              any_some 1 w.some,
              ap (λ x. count rel x R) e,
              count_split rel w.at (suc d.0) R,
              count_front rel w.at d.0,
              count_more rel w.at (suc d.0 + R) (R + k.r - 1) (omega (arith, w.recent)),
              at_most_jobs k S w.at R,
            )

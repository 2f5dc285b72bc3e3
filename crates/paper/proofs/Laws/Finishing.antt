-- When a run answers `Done`, and when 9: what the refusals before the ticks ask for; and where the responses stand.
-- Assumes nothing.
use Rattle.std.specs.Prelude.{◌≡◌, refl, cond, List, [], ◌∷◌, ℕ, zero, suc, ◌≤◌, ◌<◌, length, get_or, drop, ltb, Err}
use Rattle.std.proofs.Common.{◌∙◌, arith, take_at}
use borrow.Author.Tests.{le-ltb}
use Rattle.paper.proofs.Laws.Tests.{on_ltb}
use Rattle.paper.specs.Text.{Read, good, bad, whole}
use Rattle.paper.specs.Board.{Task, Board, no_task}
use Rattle.paper.specs.Certificate.{rising}
use Rattle.paper.specs.Releases.{Releases, Legality, legal, illegal, legality}
use Rattle.paper.specs.Scheduler.{State, Ran, ran, overran, after}
use Rattle.paper.specs.Run.{Finished, refusal, over, finished, unless_illegal, late, unless_late, unless_faster, run_board, Both, read_both, run_read, run}
use Rattle.paper.specs.Answers.{Done}
use Rattle.paper.specs.declared.Refusal.TheVariants.{Overrun, FewPlaces}
use Rattle.paper.specs.Laws.Finishing.{First}

-- no task has d above t
pub none_late : (i : ℕ) (tasks : List Task) → ((k : ℕ) → k < length tasks → (get_or tasks k no_task).d ≤ (get_or tasks k no_task).t) → late i tasks ≡ 0
unfolding late
none_late i [] h = refl
none_late i (k ∷ below) h = rw (le-ltb k.t k.d (h 0 (omega arith))) (none_late (suc i) below (λ j l. h (suc j) (omega arith)))

module _ (b : Board) (l : Releases) (places : List ℕ) where
  -- nothing is refused, and what comes back is what the ticks come to
  pub runs-ticks : rising 1 b.speeds ≡ 0 → late 1 b.tasks ≡ 0 → length l.list ≤ length places → legality b l.list ≡ legal
      → run_board b l places ≡ finished places (length l.list) (after b l.list l.ticks)
  unfolding run_board unless_faster unless_late unless_illegal
  runs-ticks r d n g = rw (r, d, le-ltb (length places) (length l.list) n, g)

  -- nothing is refused, and the ticks come to their end
  pub runs_done : (x : State) → rising 1 b.speeds ≡ 0 → late 1 b.tasks ≡ 0 → length l.list ≤ length places → legality b l.list ≡ legal
      → after b l.list l.ticks ≡ ran x
      → run_board b l places ≡ record { answer = Done; responses = x.responses; places = over x.responses places }
  unfolding finished
  runs_done x r d n g e = runs-ticks r d n g ∙ rw e

  -- 9 comes from the ticks of a legal list alone
  pub record Overruns (p a : ℕ) : Type 0 where
    pub legal : legality b l.list ≡ legal
    pub ends : after b l.list l.ticks ≡ overran p a

  pub overruns : (p a : ℕ) → (run_board b l places).answer ≡ Err (Overrun p a) → Overruns p a
  unfolding run_board unless_faster unless_late unless_illegal finished
  overruns p a = faster (rising 1 b.speeds)
    where
      P : Finished → Type 0
      P y = y.answer ≡ Err (Overrun p a) → Overruns p a

      ends : legality b l.list ≡ legal → (out : Ran) → after b l.list l.ticks ≡ out → P (finished places (length l.list) out)
      ends g (ran x) e h = let z : ◌≡◌ {A = ℕ} 0 1 = cc in absurd (omega arith)
      ends g (overran q t) e h = record { legal = g; ends = e ∙ cc }

      judged : (v : Legality) → legality b l.list ≡ v → P (unless_illegal b l places v)
      judged (illegal q fault) e h = let z : ◌≡◌ {A = ℕ} 0 1 = cc in absurd (omega arith)
      judged legal e h = ends e (after b l.list l.ticks) refl h

      tried : Finished
      tried = cond (ltb (length places) (length l.list)) (refusal (FewPlaces (length l.list)) places) (unless_illegal b l places (legality b l.list))

      lent : P tried
      lent =
          on_ltb P (length places) (length l.list) _ _
          (λ _ h. let z : ◌≡◌ {A = ℕ} 0 1 = cc in absurd (omega arith))
          (λ _. judged (legality b l.list) refl)

      timely : (i : ℕ) → P (unless_late i places tried)
      timely zero h = lent h
      timely (suc i) h = let z : ◌≡◌ {A = ℕ} 0 1 = cc in absurd (omega arith)

      faster : (i : ℕ) → P (unless_faster i places (unless_late (late 1 b.tasks) places tried))
      faster zero h = timely (late 1 b.tasks) h
      faster (suc i) h = let z : ◌≡◌ {A = ℕ} 0 1 = cc in absurd (omega arith)

pub first_responses : (text places : List ℕ) → First (run text places)
unfolding run run_read run_board unless_faster unless_late unless_illegal finished
first_responses text places = read (whole read_both text)
  where
    ends : (n : ℕ) (out : Ran) → First (finished places n out)
    ends n (ran x) = take_at x.responses (drop (length x.responses) places) (length x.responses) refl
    ends n (overran p a) = refl

    judged : (b : Board) (l : Releases) (v : Legality) → First (unless_illegal b l places v)
    judged b l (illegal p fault) = refl
    judged b l legal = ends (length l.list) (after b l.list l.ticks)

    timely : (i : ℕ) (y : Finished) → First y → First (unless_late i places y)
    timely zero y h = h
    timely (suc i) y h = refl

    faster : (p : ℕ) (y : Finished) → First y → First (unless_faster p places y)
    faster zero y h = h
    faster (suc p) y h = refl

    read : (r : Read Both) → First (run_read places r)
    read (bad damage n) = refl
    read (good x rest n) =
        let b = x.board in
        let l = x.releases in
        faster (rising 1 b.speeds) _ (timely (late 1 b.tasks) _
        (on_ltb First (length places) (length l.list) _ _ (λ _. refl) (λ _. judged b l (legality b l.list))))

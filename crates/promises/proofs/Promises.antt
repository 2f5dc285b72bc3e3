-- THE PROMISES, on one page: what is proved of the paper's own rules, scheduler and answers. That the code gives exactly
-- these is said by its contracts: `verdict::check` by `Checks`, `run::run` by `Meets`, equations with `check` and `run`.
-- No axiom, hole or assumption stands behind any of it: the last line of this crate's check would count axioms, and counts
-- none. A statement asks for no more than is written in it.
use Rattle.std.specs.Prelude.{◌≡◌, refl, List, [], ◌++◌, map, ℕ, ◌≤◌, length, get_or, Err}
use Rattle.std.proofs.Common.{sym, ◌∙◌, arith}
use Rattle.paper.specs.Text.{good, whole}
use Rattle.paper.specs.Board.{Board}
use Rattle.paper.specs.Releases.{Release, legal, legality}
use Rattle.paper.specs.Scheduler.{after}
use Rattle.paper.specs.Check.{Checked, check}
use Rattle.paper.specs.Certificate.{rising}
use Rattle.paper.specs.Run.{Both, read_both, Finished, late, finished, run_read, run}
use Rattle.paper.proofs.Laws.Finishing.{runs-ticks}
use Rattle.paper.specs.Cases.{cases, told, expected}
use Rattle.paper.proofs.Cases.{paper}
use Rattle.paper.specs.Laws.Reading.{In}
use Rattle.paper.specs.Laws.Ranges.{BoardIn}
use Rattle.paper.specs.Laws.Legal.{Listed}
use Rattle.paper.specs.Laws.Steps.{Holds}
use Rattle.paper.specs.Accepted.{Accepted, Slacks, ReadsAs}
use Rattle.paper.specs.Laws.Acceptance.{slacks_from}
use Rattle.paper.proofs.Laws.Acceptance.{done_accepted, accepted_done, slacks_of}
use Rattle.paper.specs.Answers.{Done}
use Rattle.paper.specs.declared.Refusal.TheVariants.{Overrun}
use Rattle.promises.specs.Horizon.{SpacedBefore}
use Rattle.promises.specs.Settled.{Between}
use Rattle.promises.specs.Demand3.{InTime, Finishes}
use Rattle.promises.proofs.Demand3.{before_horizon, demand_3}
use Rattle.promises.proofs.FromText.{finishes, ends, in_place, never_overruns}
use Rattle.promises.specs.Promises.{Asked, bound_of, Inside, Kept}

-- Demand 3. Consider any board's text on which the check answers 0, and any text of a legal release list. Put the list after
-- the board and give both to the run, with at least as many places as there are releases. Then the run answers 0; and each
-- release whose r ticks lie inside the run has, in its place and in what is printed, a response from 1 to r. (Board B and the
-- list of P7 are such texts: Witness.)
-- What is asked, what lies inside the run and what is kept: `Asked`, `Inside` and `Kept` in specs/Promises.antt.

pub in_time : (board list places : List ℕ) (x : Both) → Asked board list places x → Kept x (run (board ++ list) places)
in_time board list places x h =
    let f = finishes board list h.accepted x h.rest h.lines h.reads h.legal in
    let e = ends board list h.accepted x h.rest h.lines h.reads places h.legal h.enough in
    let told : (p : ℕ) → Inside x p → In 1 (bound_of x p) (get_or f.state.responses p 0) =
    λ p i. f.in_time.response p (record { listed = i.listed; by = omega (arith, i.ends) }) in
    rw e (record { done = refl; places = λ p i. in_place (bound_of x p) p f.state.responses places (told p i); responses = told })

-- Whatever text follows an accepted board's, the run never answers 9.
pub never_9 : (board list places : List ℕ) → (check board).answer ≡ Done → (p a : ℕ) → (run (board ++ list) places).answer ≡ Err (Overrun p a) → ⊥
never_9 = never_overruns

-- The same of the scheduler itself: on an accepted board no release of a legal list meets an unfinished job, so that the run
-- comes to its end after any number T of ticks, and each release whose bound ends by T has a response within it.
pub scheduler_in_time : (b : Board) → BoardIn b → Accepted b → (l : List Release) → legality b l ≡ legal → (T : ℕ) → Finishes b l T
scheduler_in_time = demand_3

-- And where a list of known tasks, in order and within c, keeps its gaps only among the releases before tick H: in a run of T
-- ticks, H or more, no release before H meets an unfinished job, and each release whose bound ends by H has a response
-- within it.
pub in_time_before : (b : Board) → BoardIn b → (l : List Release) → Listed b l → Accepted b → (H T : ℕ) → H ≤ T → SpacedBefore b l H
    → Holds (Between H T) (InTime b l H) (after b l T)
in_time_before = before_horizon

-- Acceptance is exactly the rules. The check answers 0 only to the text of a board whose speeds never rise and whose tasks all
-- pass; to each such text it answers 0; and the slacks that come back are q times r less the demand, task by task.
pub accepts_only : (text : List ℕ) → (check text).answer ≡ Done → (b : Board) × ReadsAs text b × Accepted b
accepts_only = done_accepted

pub accepts_all : (text : List ℕ) (b : Board) → ReadsAs text b → Accepted b
    → check text ≡ record { answer = Done; slacks = slacks_from b.speeds [] b.tasks }
accepts_all = accepted_done

pub slacks_are : (b : Board) → Slacks b (slacks_from b.speeds [] b.tasks)
slacks_are = slacks_of

-- The run is the scheduler. Where a text reads as a board and a list, no speed rises, no d is above t, there is a place for each
-- release and the list is legal, what comes back is what the scheduler's ticks come to: its responses in the first places, or
-- the release that met an unfinished job.
pub run_is_scheduler : (text places : List ℕ) (x : Both) (rest : List ℕ) (n : ℕ) → whole read_both text ≡ good x rest n
    → rising 1 x.board.speeds ≡ 0 → late 1 x.board.tasks ≡ 0 → length x.releases.list ≤ length places
    → legality x.board x.releases.list ≡ legal
    → run text places ≡ finished places (length x.releases.list) (after x.board x.releases.list x.releases.ticks)
unfolding run run_read
run_is_scheduler text places x rest n e r d l g = rw e (runs-ticks x.board x.releases places r d l g)

-- Every input has exactly one answer. `check` and `run` are functions of all inputs, and a promise that equates a result with
-- theirs leaves nothing open: any two results that meet it are equal, answer, slacks, responses and every lent place. Of the
-- code's own results `one_result` in verdict and `run_unique` in run say the same.
pub check_once : (text : List ℕ) (x y : Checked) → x ≡ check text → y ≡ check text → x ≡ y
check_once text x y e f = e ∙ sym f

pub run_once : (text places : List ℕ) (x y : Finished) → x ≡ run text places → y ≡ run text places → x ≡ y
run_once text places x y e f = e ∙ sym f

-- P1 to P11 hold of these definitions, each from the bytes of a text on.
pub worked_examples : map told cases ≡ map expected cases
worked_examples = paper

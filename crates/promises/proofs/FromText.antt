-- Demand 3 from the bytes on: a board's text reads as the same board when a list's text follows it. Assumes nothing.
use Rattle.std.specs.Prelude.{◌≡◌, refl, List, ◌++◌, ℕ, ◌≤◌, ◌<◌, length, get_or, drop, Err}
use Rattle.std.proofs.Common.{sym, subst, arith}
use Rattle.std.proofs.Math.ListN.{get_or-append, get_or-eq_default}
use Rattle.paper.proofs.Laws.Tests.{on_le}
use Rattle.paper.specs.Text.{malformed, out_of_range, Read, good, bad, Reader, ◌>>=◌, and_then, give, whole}
use Rattle.paper.specs.Board.{Board, read_board}
use Rattle.paper.specs.Releases.{read_releases, legal, legality}
use Rattle.paper.specs.Check.{check}
use Rattle.paper.specs.Run.{over, Both, read_both, run_read, run}
use Rattle.paper.specs.Laws.Reading.{Reads, In}
use Rattle.paper.proofs.Laws.Reading.{reads_give, reads_then, whole-good}
use Rattle.paper.proofs.Laws.Ranges.{reads_board, reads_releases, both_in}
use Rattle.paper.specs.Accepted.{Accepted, ReadsAs}
use Rattle.paper.proofs.Laws.Acceptance.{done_accepted, none_rises}
use Rattle.paper.proofs.Laws.Finishing.{none_late, runs_done, overruns}
use Rattle.paper.specs.Answers.{Done}
use Rattle.paper.specs.declared.Refusal.TheVariants.{Overrun}
use Rattle.promises.specs.Demand3.{Finishes}
use Rattle.promises.proofs.Demand3.{demand_3}

-- the rest of a text after its board
abbrev listed : Board → Reader Both
listed b = do
  l ← read_releases
  give (record { board = b; releases = l })

reads_listed : (b : Board) → Reads (listed b) (λ x. x.board ≡ b)
reads_listed b = reads_then reads_releases (λ l _. reads_give _ refl)

same_board : (board list : List ℕ) (b : Board) → ReadsAs board b → (x : Both) (rest : List ℕ) (n : ℕ) → whole read_both (board ++ list) ≡ good x rest n
    → x.board ≡ b
unfolding read_both and_then
same_board board list b r x rest n e =
    let i = reads_board.alone board 1 b r.rest r.lines (whole-good read_board board b r.rest r.lines r.reads).0 list in
    let j = (whole-good read_both (board ++ list) x rest n e).0 in
    (reads_listed b).ensures (r.rest ++ list) r.lines x rest n (rw i at j)

module _ (board list : List ℕ) (done : (check board).answer ≡ Done) (x : Both) (rest : List ℕ) (n : ℕ) (reads : whole read_both (board ++ list) ≡ good x rest n) where
  accepted : Accepted x.board
  accepted = let a = done_accepted board done in subst Accepted (sym (same_board board list a.0 a.1 x rest n reads)) a.2

  -- the ticks of a legal list come to their end
  pub finishes : legality x.board x.releases.list ≡ legal → Finishes x.board x.releases.list x.releases.ticks
  finishes g = demand_3 x.board (both_in (board ++ list) x rest n reads).board accepted x.releases.list g x.releases.ticks

  -- and so does the run
  pub ends : (places : List ℕ) (g : legality x.board x.releases.list ≡ legal) → length x.releases.list ≤ length places
      → let y = (finishes g).state.responses in run (board ++ list) places ≡ record { answer = Done; responses = y; places = over y places }
  unfolding run run_read
  ends places g h =
      rw reads
      (runs_done x.board x.releases places (finishes g).state (none_rises 1 x.board.speeds accepted.falling)
      (none_late 1 x.board.tasks (λ k i. (accepted.pass k i).d_in)) h g (finishes g).ends)

-- what has a response holds it in its place
pub in_place : (r p : ℕ) (responses places : List ℕ) → In 1 r (get_or responses p 0) → In 1 r (get_or (over responses places) p 0)
in_place r p responses places w =
    let i : p < length responses =
    on_le (length responses) p (λ g. absurd (omega (arith, w.low, get_or-eq_default responses 0 g))) (λ g. g) in
    rw (get_or-append responses (drop (length responses) places) 0 p i) w

-- no text after an accepted board's makes a release meet an unfinished job
pub never_overruns : (board list places : List ℕ) → (check board).answer ≡ Done → (p a : ℕ) → (run (board ++ list) places).answer ≡ Err (Overrun p a) → ⊥
unfolding run run_read
never_overruns board list places done p a = go (whole read_both (board ++ list)) refl
  where
    go : (r : Read Both) → whole read_both (board ++ list) ≡ r → (run_read places r).answer ≡ Err (Overrun p a) → ⊥
    go (bad malformed n) e h = let z : ◌≡◌ {A = ℕ} 0 1 = cc in omega arith
    go (bad out_of_range n) e h = let z : ◌≡◌ {A = ℕ} 0 1 = cc in omega arith
    go (good x rest n) e h =
        let o = overruns x.board x.releases places p a h in
        let f = finishes board list done x rest n e o.legal in
        let z : ◌≡◌ {A = ℕ} 0 1 = cc (o.ends, f.ends) in omega arith

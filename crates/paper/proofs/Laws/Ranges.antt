-- The ranges of the paper's table, and that what is read lies in them. Assumes nothing.
use Rattle.std.specs.Prelude.{ℕ, ◌≡◌, List}
use Rattle.std.proofs.Common.{sym, subst}
use Rattle.paper.specs.Text.{good, whole}
use Rattle.paper.specs.Board.{Board, no_task, read_task, read_board}
use Rattle.paper.specs.Releases.{read_release, read_releases}
use Rattle.paper.specs.Run.{Both, read_both}
use Rattle.paper.specs.Laws.Reading.{Reads, In}
use Rattle.paper.proofs.Laws.Reading.{reads_give, reads_then, reads_times, reads_one, whole-good}
use Rattle.paper.specs.Laws.Ranges.{TaskIn, BoardIn, ReleaseIn, no_release, ReleasesIn, BothIn}

reads_task : Reads read_task TaskIn
unfolding read_task
reads_task =
    reads_then (reads_one _) (λ c hc. reads_then (reads_one _) (λ d hd. reads_then (reads_one _) (λ t ht. reads_then (reads_one _) (λ r hr.
    reads_then (reads_one _) (λ y hy. reads_then (reads_one _) (λ z hz. reads_then (reads_one _) (λ q hq.
    reads_give _ (record { c = hc; d = hd; t = ht; r = hr; y = hy; z = hz; q = hq }))))))))

pub reads_board : Reads read_board BoardIn
unfolding read_board
reads_board =
    reads_then (reads_one _) (λ m hm.
    reads_then (reads_times 0 (reads_one _) m) (λ speeds hs.
    reads_then (reads_one _) (λ n hn.
    reads_then (reads_times no_task reads_task n) (λ tasks ht.
    reads_give _
    (record {
      procs = subst (In 1 8) (sym hs.count) hm;
      tasks = subst (In 1 96) (sym ht.count) hn;
      speed = hs.each;
      task = ht.each;
    })))))

reads_release : Reads read_release ReleaseIn
unfolding read_release
reads_release =
    reads_then (reads_one _) (λ a ha. reads_then (reads_one _) (λ t ht. reads_then (reads_one _) (λ u hu.
    reads_give _ (record { at = ha; task = ht; units = hu }))))

pub reads_releases : Reads read_releases ReleasesIn
unfolding read_releases
reads_releases =
    reads_then (reads_one _) (λ h hh.
    reads_then (reads_one _) (λ n hn.
    reads_then (reads_times no_release reads_release n) (λ l hl.
    reads_give _ (record { ticks = hh; count = subst (In 0 1000) (sym hl.count) hn; release = hl.each }))))

pub reads_both : Reads read_both BothIn
unfolding read_both
reads_both = reads_then reads_board (λ b hb. reads_then reads_releases (λ l hl. reads_give _ (record { board = hb; releases = hl })))

-- a board that was read whole is in range
pub board_in : (text : List ℕ) (b : Board) (rest : List ℕ) (n : ℕ) → whole read_board text ≡ good b rest n → BoardIn b
board_in text b rest n e = reads_board.ensures text 1 b rest n (whole-good read_board text b rest n e).0

pub both_in : (text : List ℕ) (x : Both) (rest : List ℕ) (n : ℕ) → whole read_both text ≡ good x rest n → BothIn x
both_in text x rest n e = reads_both.ensures text 1 x rest n (whole-good read_both text x rest n e).0

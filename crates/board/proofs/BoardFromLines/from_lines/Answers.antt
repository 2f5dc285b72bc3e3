-- The board's lines are the paper's: four readings, one after the other, up to the first bad line.
use Rattle.std.proofs.Common.{rules, refl}
use Rattle.paper.specs.Basics.{bytes, bytes_from}
use Rattle.paper.specs.Text.{one, line}
use Rattle.paper.specs.Board.{read_task, read_board}
use Rattle.quantity.specs.Quantity.{speed}
use Rattle.text.specs.Reading.{reads_on, reads_bad, stops, stops_on, stopped}
use Rattle.text.specs.Counted.{counted_in_series, stops_in_series}
use Rattle.board.specs.Packed.{packed, packed_task}
use Rattle.board.proofs.BoardFromLines.from_lines.Goals as goal

pub returns-in_err-procs-clause-read : goal.returns-in_err-procs-clause-read
unfolding bytes bytes_from read_board
returns-in_err-procs-clause-read c =
    stopped _ _
    (reads_bad _
    (reads_bad _ (stops _ _ _ c.in_err-procs.ensures.read)))
    (search rules)

pub returns-in_err-speeds-clause-read : goal.returns-in_err-speeds-clause-read
unfolding bytes bytes_from read_board
returns-in_err-speeds-clause-read c =
    stopped _ _
    (reads_bad _
    (stops_on _ c.in_ok-procs.ensures.read
    (reads_bad _ (stops_in_series speed (one (line "s=" 1 100)) _ _ _ (stops _ _ _ c.in_err-speeds.ensures.read)))))
    (search rules)

pub returns-in_err-count-clause-read : goal.returns-in_err-count-clause-read
unfolding bytes bytes_from read_board
returns-in_err-count-clause-read c =
    let speeds = counted_in_series speed (one (line "s=" 1 100)) _ _ _ c.in_ok-speeds.ensures.read in
    stopped _ _
    (reads_bad _
    (stops_on _ c.in_ok-procs.ensures.read
    (stops_on _ speeds.same
    (reads_bad _ (stops _ _ _ c.in_err-count.ensures.read)))))
    (search rules)

pub returns-in_err-read_series-clause-read : goal.returns-in_err-read_series-clause-read
unfolding bytes bytes_from read_board
returns-in_err-read_series-clause-read c =
    let speeds = counted_in_series speed (one (line "s=" 1 100)) _ _ _ c.in_ok-speeds.ensures.read in
    stopped _ _
    (reads_bad _
    (stops_on _ c.in_ok-procs.ensures.read
    (stops_on _ speeds.same
    (stops_on _ c.in_ok-count.ensures.read
    (reads_bad _ (stops_in_series packed_task read_task _ _ _ (stops _ _ _ c.in_err-read_series.ensures.read)))))))
    (search rules)

pub returns-clause-read : goal.returns-clause-read
unfolding bytes bytes_from read_board packed
returns-clause-read c =
    let speeds = counted_in_series speed (one (line "s=" 1 100)) _ _ _ c.in_ok-speeds.ensures.read in
    let tasks = counted_in_series packed_task read_task _ _ _ c.in_ok-read_series.ensures.read in
    rw (speeds.made, tasks.made)
    (reads_on _
    (reads_on _ c.in_ok-procs.ensures.read
    (reads_on _ speeds.same
    (reads_on _ c.in_ok-count.ensures.read
    (reads_on _ tasks.same
    refl))))
    refl)

-- A task's seven lines follow each other as in the paper, up to the first bad one.
use Rattle.std.proofs.Common.{rules, refl}
use Rattle.paper.specs.Basics.{bytes, bytes_from}
use Rattle.paper.specs.Board.{read_task}
use Rattle.text.specs.Reading.{reads_on, reads_bad, stops, stops_on, stopped}
use Rattle.board.proofs.TaskFromLines.from_lines.Goals as goal

pub returns-in_err-next-clause-read : goal.returns-in_err-next-clause-read
unfolding bytes bytes_from read_task
returns-in_err-next-clause-read c =
    stopped _ _
    (reads_bad _
    (reads_bad _ (stops _ _ _ c.in_err-next.ensures.read)))
    (search rules)

pub returns-in_err-next-2-clause-read : goal.returns-in_err-next-2-clause-read
unfolding bytes bytes_from read_task
returns-in_err-next-2-clause-read c =
    stopped _ _
    (reads_bad _
    (stops_on _ c.in_ok-next.ensures.read
    (reads_bad _ (stops _ _ _ c.in_err-next-2.ensures.read))))
    (search rules)

pub returns-in_err-next-3-clause-read : goal.returns-in_err-next-3-clause-read
unfolding bytes bytes_from read_task
returns-in_err-next-3-clause-read c =
    stopped _ _
    (reads_bad _
    (stops_on _ c.in_ok-next.ensures.read
    (stops_on _ c.in_ok-next-2.ensures.read
    (reads_bad _ (stops _ _ _ c.in_err-next-3.ensures.read)))))
    (search rules)

pub returns-in_err-next-4-clause-read : goal.returns-in_err-next-4-clause-read
unfolding bytes bytes_from read_task
returns-in_err-next-4-clause-read c =
    stopped _ _
    (reads_bad _
    (stops_on _ c.in_ok-next.ensures.read
    (stops_on _ c.in_ok-next-2.ensures.read
    (stops_on _ c.in_ok-next-3.ensures.read
    (reads_bad _ (stops _ _ _ c.in_err-next-4.ensures.read))))))
    (search rules)

pub returns-in_err-next-5-clause-read : goal.returns-in_err-next-5-clause-read
unfolding bytes bytes_from read_task
returns-in_err-next-5-clause-read c =
    stopped _ _
    (reads_bad _
    (stops_on _ c.in_ok-next.ensures.read
    (stops_on _ c.in_ok-next-2.ensures.read
    (stops_on _ c.in_ok-next-3.ensures.read
    (stops_on _ c.in_ok-next-4.ensures.read
    (reads_bad _ (stops _ _ _ c.in_err-next-5.ensures.read)))))))
    (search rules)

pub returns-in_err-next-6-clause-read : goal.returns-in_err-next-6-clause-read
unfolding bytes bytes_from read_task
returns-in_err-next-6-clause-read c =
    stopped _ _
    (reads_bad _
    (stops_on _ c.in_ok-next.ensures.read
    (stops_on _ c.in_ok-next-2.ensures.read
    (stops_on _ c.in_ok-next-3.ensures.read
    (stops_on _ c.in_ok-next-4.ensures.read
    (stops_on _ c.in_ok-next-5.ensures.read
    (reads_bad _ (stops _ _ _ c.in_err-next-6.ensures.read))))))))
    (search rules)

pub returns-in_err-next-7-clause-read : goal.returns-in_err-next-7-clause-read
unfolding bytes bytes_from read_task
returns-in_err-next-7-clause-read c =
    stopped _ _
    (reads_bad _
    (stops_on _ c.in_ok-next.ensures.read
    (stops_on _ c.in_ok-next-2.ensures.read
    (stops_on _ c.in_ok-next-3.ensures.read
    (stops_on _ c.in_ok-next-4.ensures.read
    (stops_on _ c.in_ok-next-5.ensures.read
    (stops_on _ c.in_ok-next-6.ensures.read
    (reads_bad _ (stops _ _ _ c.in_err-next-7.ensures.read)))))))))
    (search rules)

pub returns-clause-read : goal.returns-clause-read
unfolding bytes bytes_from read_task
returns-clause-read c =
    rw c.from.ensures
    (reads_on _
    (reads_on _ c.in_ok-next.ensures.read
    (reads_on _ c.in_ok-next-2.ensures.read
    (reads_on _ c.in_ok-next-3.ensures.read
    (reads_on _ c.in_ok-next-4.ensures.read
    (reads_on _ c.in_ok-next-5.ensures.read
    (reads_on _ c.in_ok-next-6.ensures.read
    (reads_on _ c.in_ok-next-7.ensures.read
    refl)))))))
    refl)

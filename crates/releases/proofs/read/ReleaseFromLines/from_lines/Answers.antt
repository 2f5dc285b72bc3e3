-- A release's three lines follow each other as in the paper, up to the first bad one.
use Rattle.std.proofs.Common.{rules, refl}
use Rattle.paper.specs.Basics.{bytes, bytes_from}
use Rattle.paper.specs.Releases.{read_release}
use Rattle.text.specs.Reading.{reads_on, reads_bad, stops, stops_on, stopped}
use Rattle.releases.proofs.read.ReleaseFromLines.from_lines.Goals as goal

pub returns-in_err-next-clause-read : goal.returns-in_err-next-clause-read
unfolding bytes bytes_from read_release
returns-in_err-next-clause-read c =
    stopped _ _
    (reads_bad _
    (reads_bad _ (stops _ _ _ c.in_err-next.ensures.read)))
    (search rules)

pub returns-in_err-next-2-clause-read : goal.returns-in_err-next-2-clause-read
unfolding bytes bytes_from read_release
returns-in_err-next-2-clause-read c =
    stopped _ _
    (reads_bad _
    (stops_on _ c.in_ok-next.ensures.read
    (reads_bad _ (stops _ _ _ c.in_err-next-2.ensures.read))))
    (search rules)

pub returns-in_err-next-3-clause-read : goal.returns-in_err-next-3-clause-read
unfolding bytes bytes_from read_release
returns-in_err-next-3-clause-read c =
    stopped _ _
    (reads_bad _
    (stops_on _ c.in_ok-next.ensures.read
    (stops_on _ c.in_ok-next-2.ensures.read
    (reads_bad _ (stops _ _ _ c.in_err-next-3.ensures.read)))))
    (search rules)

pub returns-clause-read : goal.returns-clause-read
unfolding bytes bytes_from read_release
returns-clause-read c =
    rw c.from.ensures
    (reads_on _
    (reads_on _ c.in_ok-next.ensures.read
    (reads_on _ c.in_ok-next-2.ensures.read
    (reads_on _ c.in_ok-next-3.ensures.read
    refl)))
    refl)

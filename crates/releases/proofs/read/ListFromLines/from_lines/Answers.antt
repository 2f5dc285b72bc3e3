-- The list's lines are the paper's: three readings, one after the other, up to the first bad line.
use Rattle.std.proofs.Common.{rules, refl}
use Rattle.paper.specs.Basics.{bytes, bytes_from}
use Rattle.paper.specs.Releases.{read_release, read_releases}
use Rattle.text.specs.Reading.{reads_on, reads_bad, stops, stops_on, stopped}
use Rattle.text.specs.Counted.{counted_in_series, stops_in_series}
use Rattle.releases.specs.Packed.{packed_release, packed_list}
use Rattle.releases.proofs.read.ListFromLines.from_lines.Goals as goal

pub returns-in_err-single-clause-read : goal.returns-in_err-single-clause-read
unfolding bytes bytes_from read_releases
returns-in_err-single-clause-read c =
    stopped _ _
    (reads_bad _
    (reads_bad _ (stops _ _ _ c.in_err-single.ensures.read)))
    (search rules)

pub returns-in_err-count-clause-read : goal.returns-in_err-count-clause-read
unfolding bytes bytes_from read_releases
returns-in_err-count-clause-read c =
    stopped _ _
    (reads_bad _
    (stops_on _ c.in_ok-single.ensures.read
    (reads_bad _ (stops _ _ _ c.in_err-count.ensures.read))))
    (search rules)

pub returns-in_err-read_series-clause-read : goal.returns-in_err-read_series-clause-read
unfolding bytes bytes_from read_releases
returns-in_err-read_series-clause-read c =
    stopped _ _
    (reads_bad _
    (stops_on _ c.in_ok-single.ensures.read
    (stops_on _ c.in_ok-count.ensures.read
    (reads_bad _ (stops_in_series packed_release read_release _ _ _ (stops _ _ _ c.in_err-read_series.ensures.read))))))
    (search rules)

pub returns-clause-read : goal.returns-clause-read
unfolding bytes bytes_from read_releases packed_list
returns-clause-read c =
    let releases = counted_in_series packed_release read_release _ _ _ c.in_ok-read_series.ensures.read in
    rw releases.made
    (reads_on _
    (reads_on _ c.in_ok-single.ensures.read
    (reads_on _ c.in_ok-count.ensures.read
    (reads_on _ releases.same
    refl)))
    refl)

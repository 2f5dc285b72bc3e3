-- What is found of one release, by what is known of those before it.
use Rattle.std.specs.Prelude.{◌+◌, ◌-◌, cond, not, ltb, get_or, set, replicate, Result, Ok, Err}
use Rattle.paper.specs.Board.{Board}
use Rattle.paper.specs.Releases.{Release, known, task_of}
use Rattle.paper.specs.declared.Fault.{Fault}
use Rattle.paper.specs.declared.Fault.TheVariants.{UnknownTask, Order, Units, Gap}
use Rattle.releases.specs.Packed.{unpacked_release}
use Rattle.releases.specs.Places.{no_release}
use Rattle.releases.specs.Judgements.{later_than}
use Rattle.releases.specs.declared.Release as code
use Rattle.releases.specs.declared.legal.Past.{Past}

-- what is known before the first release
abbrev pub no_past : Past
no_past = record { latest = no_release; free = replicate 96 0 }

-- the first fault of release x, in the order 1 to 4
abbrev pub found : Board → Past → Release → Result Unit Fault
found b past x =
    cond (not (known b x)) (Err UnknownTask)
    (cond (not (later_than (unpacked_release past.latest) x)) (Err Order)
    (cond (ltb (task_of b x).c x.units) (Err Units)
    (cond (ltb x.at (get_or past.free (x.task - 1) 0)) (Err Gap) (Ok tt))))

-- what is known once x has come too: its task is free again t ticks later
abbrev pub joined : Board → Past → code.Release → Past
joined b past x = record {
  latest = x;
  free = set past.free (x.task - 1) (x.at.0 + (task_of b (unpacked_release x)).t);
}

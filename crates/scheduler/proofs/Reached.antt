-- A walk over the releases from a place on: which release of the list it has come to, and when it is past them all.
-- Assumes nothing.
use Rattle.std.specs.Prelude.{◌≡◌, ℕ, ◌+◌, ◌≤◌, ◌<◌, List, length, get_or}
use Rattle.std.proofs.Common.{sym, ap, ◌∙◌, arith, subst}
use Rattle.std.proofs.lemmas.List.Edits.{length-between, get_or-between}
use Rattle.std.specs.List.{between}
use Rattle.paper.specs.Releases as paper
use Rattle.paper.specs.Laws.Reading.{In}
use Rattle.releases.specs.Packed.{releases_of, unpacked_release}
use Rattle.releases.specs.Places.{no_release, releases_count, release-at}
use Rattle.releases.specs.declared.Release.{Release}
use Rattle.scheduler.specs.Tick.{Listed}

-- the release that the walk over those from place `first` on has come to
pub record Reached (releases : List Release) (next : ℕ) (w : Release) : Type 0 where
  pub listed : next < length releases
  pub is : w ≡ get_or releases next no_release

module _ (releases : List Release) (first i next : ℕ) where
  pub reached : next ≡ first + i → i < length (between first (length releases) releases)
      → Reached releases next (get_or (between first (length releases) releases) i no_release)
  reached e h =
      let more : first + i < length releases = omega (arith, length-between releases first (length releases) (omega arith)) in
      record {
        listed = omega arith;
        is = get_or-between releases first (length releases) i no_release more ∙ ap (λ (n : ℕ). get_or releases n no_release) (sym e);
      }

  -- and there is none when the walk is over
  pub passed_all : next ≡ first + i → length (between first (length releases) releases) ≤ i → length releases ≤ next
  passed_all e h = omega (arith, length-between releases first (length releases) (omega arith))

-- its task exists
pub known : (releases : List Release) (next : ℕ) (w : Release) → Listed (releases_of releases) → Reached releases next w → In 1 96 w.task
known releases next w listed r =
    subst (λ (v : paper.Release). In 1 96 v.task) (release-at releases next ∙ ap unpacked_release (sym r.is))
    (listed.known next (omega (arith, r.listed, releases_count releases)))

-- The latest release of a task, among releases whose ticks never fall.
use Rattle.std.specs.Prelude.{cond, List, [], ◌∷◌, ℕ, ◌+◌, ◌≤◌, ◌<◌, length, eqb}
use Rattle.paper.specs.Releases.{Release, mark}
use Rattle.paper.specs.Laws.Legal.{nth}

-- the tick from which task number k may be released again: t after its latest release, and 0 before its first
unfoldable pub free_from : ℕ → ℕ → List Release → ℕ
free_from t k [] = 0
free_from t k (w ∷ earlier) = cond (eqb w.task k) (mark w + t) (free_from t k earlier)

-- the latest first, ticks never rise
abbrev pub Falls : List Release → Type 0
Falls earlier = (p o : ℕ) → p ≤ o → o < length earlier → mark (nth earlier o) ≤ mark (nth earlier p)

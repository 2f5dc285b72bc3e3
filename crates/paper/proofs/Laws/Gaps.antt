-- The gap to every earlier release of a task is the gap to its latest one, since ticks never fall. Assumes nothing.
use Rattle.std.specs.Prelude.{◌≡◌, List, [], ◌∷◌, ℕ, zero, suc, ◌+◌, ◌≤◌, ◌<◌, length, leb}
use Rattle.std.proofs.Common.{sym, arith, le-leb, eq-eqb, ne_eqb}
use Rattle.std.proofs.lemmas.Bool.{lt-leb}
use Rattle.paper.proofs.Laws.Tests.{on_le, on_same}
use Rattle.paper.specs.Releases.{Release, mark, apart}
use Rattle.paper.specs.Laws.Legal.{nth}
use Rattle.paper.proofs.Laws.Legal.{says_apart}
use Rattle.paper.specs.Laws.Gaps.{free_from, Falls}

pub falls_none : Falls []
falls_none p o i l = absurd (omega arith)

pub falls_more : (x : Release) (earlier : List Release) → (0 < length earlier → mark (nth earlier 0) ≤ mark x) → Falls earlier → Falls (x ∷ earlier)
falls_more x earlier f h zero zero i l = omega arith
falls_more x earlier f h zero (suc o) i l = let g = h 0 o (omega arith) (omega arith) in let j = f (omega arith) in omega arith
falls_more x earlier f h (suc p) zero i l = absurd (omega arith)
falls_more x earlier f h (suc p) (suc o) i l = h p o (omega arith) (omega arith)

pub apart_latest : (t : ℕ) (earlier : List Release) (x : Release) → Falls earlier → apart t earlier x ≡ leb (free_from t x.task earlier) (mark x)
unfolding apart free_from
apart_latest t [] x h = sym (le-leb 0 (mark x) (omega arith))
apart_latest t (w ∷ earlier) x h =
    on_same w.task x.task
    (λ e.
    rw (eq-eqb _ _ e)
    (on_le (mark w + t) (mark x)
    (λ g. rw (le-leb _ _ g) (says_apart t earlier x (λ p l i. let f = h 0 (suc p) (omega arith) (omega arith) in omega arith)))
    (λ g. rw (lt-leb _ _ g))))
    (λ d. rw (ne_eqb _ _ d) (apart_latest t earlier x (λ p o i l. h (suc p) (suc o) (omega arith) (omega arith))))

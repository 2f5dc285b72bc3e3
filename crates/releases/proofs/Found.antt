-- What is found of a release is what the paper finds: each test on the way is one of the paper's.
use Rattle.std.specs.Prelude.{◌≡◌, refl, Bool, true, false, not, T, List, length, get_or, Result, Ok, Err, MatchResult, ◌≤◌}
use Rattle.std.proofs.Common.{sym, ◌∙◌, arith}
use Rattle.std.proofs.Math.Path.{subst}
use Prim.Native.Nat.{ℕ, ◌+◌, ◌-◌, ◌<◌}
use Rattle.std.proofs.lemmas.Result.{MatchResult-at_ok, MatchResult-at_err}
use Rattle.paper.proofs.Laws.Tests.{on_le, on_ltb, on_not}
use Rattle.paper.specs.Board.{Board}
use Rattle.paper.specs.Releases.{Release, task_of, known, legality}
use Rattle.paper.specs.Laws.Legal.{nth}
use Rattle.paper.proofs.Laws.Legal.{says_known, known_says}
use Rattle.paper.specs.declared.Fault.{Fault}
use Rattle.paper.specs.declared.Refusal.TheVariants.{IllegalRelease}
use Rattle.releases.specs.Packed.{unpacked_release}
use Rattle.releases.specs.Judgements.{judged, later_than}
use Rattle.releases.specs.Found.{found, joined}
use Rattle.releases.specs.Judging.{Judging, no_task_lem, past_last, not_later, too_many, too_soon, judging_next}
use Rattle.releases.specs.declared.Release as code
use Rattle.releases.specs.declared.legal.Past.{Past}

from_true : (t : Bool) → T t → t ≡ true
from_true true h = refl
from_true false h = absurd h

from_false : (t : Bool) → T (not t) → t ≡ false
from_false true h = absurd h
from_false false h = refl

-- release w in place p, when those before it are without a fault
module _ (b : Board) (l : List Release) (past : Past) (p : ℕ) (j : Judging b l past p) (more : p < length l) where
  module _ (w : code.Release) (same : nth l p ≡ unpacked_release w) where
    abbrev x : Release
    x = nth l p

    abbrev GoesOn : Type 0
    GoesOn = Judging b l (joined b past w) (p + 1)

    abbrev Refuses : Fault → Type 0
    Refuses fault = Err (IllegalRelease (p + 1) fault) ≡ judged (legality b l)

    abbrev Says : Result Unit Fault → Type 0
    Says answer = MatchResult answer (λ _. GoesOn) Refuses

    says_here : (known b x ≡ true → x.task ≤ 96) → Says (found b past x)
    says_here inside =
        on_not Says (known b x) _ _
        (λ k.
        on_le 1 x.task
        (λ some. on_le x.task (length b.tasks) (λ there. absurd (rw (says_known b x some there) at k)) (past_last b l past p j more))
        (λ h. no_task_lem b l past p j more (omega arith)))
        (λ k.
        let h = known_says b x k in
        on_not Says (later_than (unpacked_release past.latest) x) _ _
        (λ o. not_later b l past p j more h.0 h.1 (from_false _ o))
        (λ o.
        let rises_now = from_true _ o in
        on_ltb Says (task_of b x).c x.units _ _
        (too_many b l past p j more h.0 h.1 rises_now)
        (λ u.
        let within = inside (from_true _ k) in
        on_ltb Says x.at (get_or past.free (x.task - 1) 0) _ _
        (too_soon b l past p j more h.0 h.1 within rises_now u)
        (λ g. judging_next b l past p j more h.0 h.1 within rises_now u g w same))))

    says : (known b (unpacked_release w) ≡ true → w.task ≤ 96) → Says (found b past (unpacked_release w))
    says = subst (λ (y : Release). (known b y ≡ true → y.task ≤ 96) → Says (found b past y)) same says_here

    module _ (answer : Result Unit Fault) (e : answer ≡ found b past (unpacked_release w)) where
      module _ (inside : known b (unpacked_release w) ≡ true → w.task ≤ 96) where
        pub found_next : answer ≡ Ok tt → GoesOn
        found_next f = MatchResult-at_ok (λ _. GoesOn) Refuses tt (sym e ∙ f) (says inside)

        pub found_bad : (fault : Fault) → answer ≡ Err fault → Refuses fault
        found_bad fault f = MatchResult-at_err (λ _. GoesOn) Refuses fault (sym e ∙ f) (says inside)

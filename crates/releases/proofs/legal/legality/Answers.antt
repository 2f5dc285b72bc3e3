-- `legality` gives the paper's judgement: what is found of each release is what the paper finds, and one without a fault is one more.
use Rattle.std.proofs.Common.{refl, false, ◌≡◌, ◌+◌, true, Result, Ok, Err, is_ok, ◌<◌, length, arith, rules}
use Rattle.std.proofs.lemmas.Result.{err_from_is_err_and, IfOk-at_ok}
use Rattle.paper.specs.declared.Fault.{Fault}
use Rattle.paper.specs.declared.Refusal.TheVariants.{IllegalRelease}
use Rattle.releases.specs.Packed.{unpacked_list, releases_of}
use Rattle.releases.specs.Places.{releases_count, release-at}
use Rattle.releases.specs.Judging.{judging_first, judging_last}
use Rattle.releases.proofs.Found.{found_next, found_bad}
use Rattle.releases.proofs.legal.legality.Goals as goal

no_fault : (a : Result Unit Fault) → true ≡ is_ok a → a ≡ Ok tt
no_fault (Ok x) e = refl
no_fault (Err fault) e = cc

a_fault : (a : Result Unit Fault) → false ≡ is_ok a → (fault : Fault) × (a ≡ Err fault)
a_fault (Ok x) e = cc
a_fault (Err fault) e = (fault, refl)

pub loop-p-init : goal.loop-p-init
loop-p-init c = rw c.empty-past.ensures (judging_first _ _)

pub returns-in_err-map_err : goal.returns-in_err-map_err
unfolding unpacked_list
returns-in_err-map_err c =
    let items = c.deref-release-items.result.now in
    let more : c.loop-p.p < length (releases_of items) = omega (arith, releases_count items) in
    let fault = a_fault _ c.in_err-map_err.ensures.variant in
    let told : c.in_err-map_err.field-0.0 ≡ IllegalRelease (c.loop-p.p + 1) fault.0 = let w = fault.1 in search rules in
    let exit = err_from_is_err_and c.from_residual.result c.from_residual.ensures.1 in
    rw (exit.1, exit.2, told, ← c.deref-release-items.ensures.0)
    (found_bad _ _ _ _ c.loop-p.invariant more _ (release-at items _) _ c.admit.ensures.fault c.admit.ensures.place fault.0 fault.1)

pub loop-p-preserved : goal.loop-p-preserved
loop-p-preserved c =
    let items = c.deref-release-items.result.now in
    let more : c.loop-p.p < length (releases_of items) = omega (arith, releases_count items) in
    let ok = no_fault _ c.in_ok-map_err.ensures.variant in
    rw (IfOk-at_ok (λ _. _) ok c.admit.ensures.after)
    (found_next _ _ _ _ c.loop-p.invariant more _ (release-at items _) _ c.admit.ensures.fault c.admit.ensures.place ok)

pub returns : goal.returns
unfolding unpacked_list
returns c =
    rw (← c.deref-release-items.ensures.0)
    (judging_last _ _ _ _ c.loop-p.invariant (omega (arith, releases_count c.deref-release-items.result.now)))

-- `units::name_units` names every release's units: each turn keeps a release's own number, or puts its task's full c for 0.
use Rattle.std.proofs.Common.{sym, ◌∙◌, ap, arith, length}
use Rattle.std.proofs.lemmas.Bool.{eqb-true, eqb-false}
use Rattle.std.proofs.lemmas.List.{set-get_or}
use Rattle.board.specs.Places.{tasks_count}
use Rattle.releases.specs.Places.{no_release}
use Rattle.run.specs.Naming.{naming_full, naming_kept, naming_last, some, on_board, full_units}
use Rattle.run.proofs.units.name_units.Goals as goal
use Rattle.run.proofs.units.name_units.Goals.{then-eq, else-eq}

pub overflow_sub-task : goal.overflow_sub-task
overflow_sub-task c = some _ _ c.requires _ _ c.loop-release.invariant c.loop-release-test.true

pub bounds-deref-task : goal.bounds-deref-task
bounds-deref-task c =
    let h = on_board _ _ c.requires _ _ c.loop-release.invariant c.loop-release-test.true in
    omega (arith, tasks_count c.args.board.now, ap length c.deref.ensures.0)

pub loop-release-preserved : goal.loop-release-preserved
loop-release-preserved c =
    elim c.if-eq.branch [
      | then-eq w ↦
          let zero = eqb-true _ _ (sym c.eq.ensures ∙ w.if-eq.true) in
          rw (w.releases-is, w.deref.ensures.0)
          (naming_full _ _ c.requires _ _ c.loop-release.invariant c.loop-release-test.true zero _ (full_units c.args.board.now _))
      | else-eq w ↦
          let own = eqb-false _ _ (sym c.eq.ensures ∙ w.if-eq.false) in
          rw (w.releases-is, set-get_or c.loop-release.releases c.loop-release.release-index no_release)
          (naming_kept _ _ c.requires _ _ c.loop-release.invariant c.loop-release-test.true own)
    ]

pub returns : goal.returns
returns c = naming_last _ _ _ _ c.loop-release.invariant c.loop-release-test.false

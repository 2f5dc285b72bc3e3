-- The tables of columns, filled one column after another: no own speed is above 100, so that the running sum fits.
use Rattle.std.proofs.Common.{◌≡◌, arith, rules, ℕ}
use Rattle.paper.specs.Certificate.{own}
use Rattle.quantity.specs.Quantity.{speed, speeds_of}
use Rattle.certificate.specs.Columns.{no_column}
use Rattle.certificate.specs.declared.columns.Column.{Column}
use Rattle.certificate.specs.Filling.{filled_none, filled_more, own_slow}
use Rattle.quantity.specs.Speeds.{speed_inside}
use Rattle.certificate.proofs.columns.columns_of.Goals as goal

none : (s o : ℕ) → s ≡ 0 → o ≡ 0 → ◌≡◌ {A = Column} (record { sum = speed s; own = speed o }) no_column
none s o e f = rw (e, f)

pub loop-j-init : goal.loop-j-init
loop-j-init c =
    let h = c.default-columns.ensures in
    let e : c.default-columns.result ≡ no_column = none _ _ h.0 h.1 in
    rw e (filled_none _)

pub loop-j-preserved : goal.loop-j-preserved
loop-j-preserved c =
    let e : c.unwrap_or_default-own.result.0 ≡ own (speeds_of c.args.speeds.now) c.loop-j.j = search (rules, speed_inside) in
    filled_more _ _ _ c.loop-j.j _ c.loop-j.invariant c.loop-j-test.true e (omega (arith, own_slow c.args.speeds.now c.loop-j.j c.requires))

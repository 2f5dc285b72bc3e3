-- With one item more the places past the last one still hold blanks.
use Rattle.std.proofs.Common.{rules, ℕ, ◌≤◌, ◌<◌, length, take}
use Rattle.series.specs.Places.{filled_more}
use Rattle.series.proofs.Series.push.Goals as goal

pub invariant_of-self : goal.invariant_of-self
invariant_of-self g c =
    let inside = c.self.inside in
    let room : length (take inside.count inside.places) < g.row.N = rw (← c.self.view_is) at c.requires in
    let more = λ (at : ℕ) (low : at ≤ inside.count).
    filled_more g.row.N g.T.Blank.blank inside.count inside.places c.self.invariant c.args.item at low room in
    search rules

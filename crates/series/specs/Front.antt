-- What an array ends as, where its first elements are lent for writing. No public clause cites this module.
use Rattle.std.specs.Prelude.{ℕ, List}
use Rattle.std.specs.Borrow.{Lends, Fml, RattleType, MutBor, Array}
use Rattle.series.specs.Series.{rewritten}

-- once the borrow r ends, the array begins with what was written through r
abbrev pub lends_front : (T : RattleType) (n : ℕ) → MutBor (List T.Denot) → ℕ → MutBor (List T.Denot) → Fml
lends_front T n v count r = Lends (Array T n) (Array T 0) v r (rewritten count v.now)

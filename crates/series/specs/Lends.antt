-- What a series ends as, where its items are lent for writing.
use Rattle.std.specs.Prelude.{List}
use Rattle.std.specs.Borrow.{Lends, Fml, RattleType, MutBor, Array}
use Rattle.series.specs.Series.{Series, with_items}
use Rattle.series.specs.declared.Blank.{Ghosts}
use Rattle.series.specs.contracts.Series.{the_row}

-- once the borrow r ends, the items are those that r shows last
abbrev pub lends_slice : (T N : RattleType) → Ghosts T.Denot → MutBor (Series T.Denot) → MutBor (List T.Denot) → Fml
lends_slice T N blank v r = Lends (the_row T N blank) (Array T 0) v r (with_items v.now)

-- A place counted from 1, where the paper writes 0 for none.
use Rattle.std.specs.Prelude.{ℕ, zero, suc, Option, Some, None}

abbrev pub first_of : ℕ → Option ℕ
first_of zero = None
first_of (suc n) = Some (suc n)

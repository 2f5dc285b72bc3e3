-- What is read by count.
use Rattle.std.specs.Prelude.{List}
use Rattle.arrayvec.specs.ArrayVec.{ArrayVec}
use Rattle.series.specs.Series.{Series}

-- a list as the code holds it in an array
abbrev pub array_of : {A : Type 0} → List A → ArrayVec A
array_of items = record { items = items }

-- and in a series
abbrev pub series_of : {A : Type 0} → List A → Series A
series_of items = record { items = items }

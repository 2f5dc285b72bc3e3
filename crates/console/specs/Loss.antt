-- What a program lost, and what it had read by then.
use Rattle.std.specs.Prelude.{ℕ, ⊤, Result, Ok, Err}
use Rattle.console.specs.declared.Cut.{Cut}
use Rattle.console.specs.declared.Lost.{Lost}
use Rattle.console.specs.declared.Lost.TheVariants.{Reading, Writing}

-- how many bytes were read, also where reading broke off
abbrev pub bytes_read : Result ℕ Cut → ℕ
bytes_read (Ok n) = n
bytes_read (Err cut) = cut.read

-- it was the input
abbrev pub IsReading : Lost → Type 0
IsReading (Reading error) = ⊤
IsReading (Writing error) = ⊥

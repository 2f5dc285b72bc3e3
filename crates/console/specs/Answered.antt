-- What a program leaves on its output, in terms of what its report gives.
use Rattle.std.specs.Prelude.{ℕ, ◌≤◌, List, length, Option}
use Rattle.std.specs.Fn.{Once, FnOnceReturnsAt}
use Rattle.std.specs.Io.KnownBytes.{Consumes, Appends, IsAtEnd}
use denote.Ref.{Bor}

-- what was written is what the report gives of the text that was read: of the whole input, unless that is longer than a text
pub record Answered {F T : Type 0} (fn : Once F (Bor (List ℕ) × Unit {0}) T) (bytes : T → List ℕ) (report : F)
    (input before after : Option (List ℕ)) : Type 0 where
  pub text : List ℕ
  pub rest : Option (List ℕ)
  pub read : Consumes input rest text
  pub whole : length text ≤ 65536 → IsAtEnd rest
  pub said : T
  pub reported : FnOnceReturnsAt fn report text said
  pub written : Appends before after (bytes said)

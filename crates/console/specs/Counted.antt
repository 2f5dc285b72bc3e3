-- A count within a buffer counts bytes at its start. Assumes nothing.
use Rattle.std.specs.Prelude.{ℕ, ◌≤◌, List, length}
use Rattle.std.proofs.Common.{sym, ◌∙◌, arith, length-take}
use Rattle.io.specs.Counts.{IsPrefixLen}

pub counts : (n : ℕ) (buffer : List ℕ) → n ≤ length buffer → IsPrefixLen n buffer
counts n buffer h = (h, sym (length-take n buffer ∙ omega arith))

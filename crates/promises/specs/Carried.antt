-- A prompt task.
use Rattle.std.specs.Prelude.{◌≡◌, ℕ, ◌+◌, ◌<◌}

-- each job released at a is complete r ticks later
abbrev pub Prompt : (r : ℕ) (rel left : ℕ → ℕ) → Type 0
Prompt r rel left = (a : ℕ) → 0 < rel a → left (a + r) ≡ 0

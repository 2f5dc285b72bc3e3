-- The key is compared as the paper does it: what follows it where it stands here, and another key where nothing makes it stand.
use Rattle.std.proofs.Common.{List, ℕ, ◌≡◌, ◌++◌, Bor, MatchOption}
use Rattle.std.specs.Prelude.{Option, Some, None, ◌≢◌}
use Rattle.std.proofs.lemmas.Slice.Eq.{strip_prefix_is}
use Rattle.std.proofs.lemmas.Bool.Decides.{Decides-eqb}
use Rattle.paper.specs.Text.{after_key, after, other_key}
use Rattle.text.proofs.Laws.{past_all, past_not}
use Rattle.text.proofs.after_key.Goals as goal

compared : (key s : List ℕ) (r : Option (Bor (List ℕ))) → MatchOption r ((left : List ℕ) → s ≢ key ++ left) (λ left. s ≡ key ++ left.now)
    → MatchOption r (after_key key s ≡ other_key) (λ left. after_key key s ≡ after left.now)
compared key s None n = past_not key s n
compared key s (Some left) e = past_all key s left.now e

pub returns : goal.returns
returns c =
    let a = c.args in
    let r = c.strip_prefix.result in
    compared a.key.now a.rest.now r (strip_prefix_is Decides-eqb a.rest.now a.key.now r c.strip_prefix.ensures.cases)

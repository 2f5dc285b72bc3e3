-- What two reads gave, one after the other, is what stands in the buffer up to where the second one ended.
use Rattle.std.proofs.Common.{◌≡◌, ℕ, ◌+◌, ◌-◌, ◌≤◌, List, ◌++◌, length, take}
use Rattle.std.proofs.Common.{rules, arith, length-take, ◌∙◌, sym, refl, subst, take_at, drop_at}
use Rattle.std.specs.Io.KnownBytes.{Consumes}
use Rattle.std.proofs.KnownBytes.{Consumes-trans}
use borrow.Rule.Slice.PartMut.{put_mid, post_of}
use lib.Seq.{take-add, take-append-le}
use Rattle.console.proofs.read_input.Goals as goal

-- what stands in a buffer up to there, once its part from `at` on was written
front : (at room more : ℕ) (old part : List ℕ) → at ≤ length old → more ≤ length part
    → take (at + more) (put_mid at room old part) ≡ take at old ++ take more part
front at room more old part within fits =
    let long : length (take at old) ≡ at = length-take at old ∙ omega arith in
    let rest = part ++ post_of at room old in
    take-add at more (put_mid at room old part)
    ∙ rw (take_at (take at old) rest at long, drop_at (take at old) rest at long, take-append-le more part (post_of at room old) fits) refl

pub loop-read-preserved : goal.loop-read-preserved
loop-read-preserved g c =
    let at = c.loop-read.read in
    let old = c.loop-read.buffer in
    let part = c.read.new.buf in
    let more = c.in-Ok.ensures.bytes.0 in
    let fits = c.in-Ok.ensures.bound.0 in
    let same = front at (length old - at) c.in-Ok.more old part (omega arith) fits in
    record {
      within = search rules;
      kept = search rules;
      bytes = subst (Consumes _ _) (sym same) (Consumes-trans _ _ _ _ _ c.loop-read.invariant.bytes more);
    }

-- The rest of a number is the paper's: each way out gives what the digits left give, and a digit more is one law of them.
use Rattle.std.proofs.Common.{◌≡◌, ◌∷◌, ℕ, List, ◌+◌, ◌-◌, ◌<◌, length, drop, take, take_all, length-drop, drop-cons, slice_index_or, refl, add-one, ◌∙◌, arith}
use Rattle.std.proofs.Math.Nat.{sub-zero}
use Rattle.text.proofs.Laws.{digits_short, digits_end, digits_low, digits_high, digits_none, digits_more, room_now, room_more}
use Rattle.text.proofs.digits.Goals as goal
use Rattle.text.proofs.digits.Goals.{in_default-via-then-byte-lt48, in_default-via-in-48-to-57+else-i-more, in_default-via-else-byte-lt48+else-byte-lt58}

-- the byte in place i and those after it
byte : (s : List ℕ) (i : ℕ) → i < length s → drop i s ≡ slice_index_or s i 0 ∷ drop (i + 1) s
byte s i h = rw (add-one i) (drop-cons s i 0 h)

pub loop-i-init : goal.loop-i-init
loop-i-init c = rw (sub-zero c.args.more) (record { within = omega arith; room = c.requires; same = refl })

-- LF
pub returns-in-10 : goal.returns-in-10
returns-in-10 c =
    let s = c.args.rest.now in
    let l = c.loop-i in
    let rest : take (length s - (l.i + 1)) (drop (l.i + 1) s) ≡ drop (l.i + 1) s = take_all _ _ (omega (arith, length-drop (l.i + 1) s)) in
    rw rest (l.invariant.same ∙ digits_end (byte s l.i c.loop-i-test.true) (c.args.more - l.i) l.value c.in-10.is)

pub overflow_mul-value : goal.overflow_mul-value
overflow_mul-value c = let l = c.loop-i in omega (arith, room_now l.value (c.args.more - l.i) 10000000 l.invariant.room)

pub overflow_add-value : goal.overflow_add-value
overflow_add-value c = let l = c.loop-i in let h = c.from.ensures in omega (arith, room_now l.value (c.args.more - l.i) 10000000 l.invariant.room)

-- another byte, or a digit too many
pub returns-in_default : goal.returns-in_default
returns-in_default c =
    let l = c.loop-i in
    let k = c.args.more - l.i in
    let e = byte c.args.rest.now l.i c.loop-i-test.true in
    l.invariant.same
    ∙ elim c.in_default.branch [
      | in_default-via-then-byte-lt48 w ↦ digits_low e k l.value (λ z. omega arith) (omega arith)
      | in_default-via-in-48-to-57+else-i-more w ↦ digits_none e k l.value (omega arith) (λ z. omega arith)
      | in_default-via-else-byte-lt48+else-byte-lt58 w ↦ digits_high e k l.value (omega arith)
    ]

pub loop-i-preserved : goal.loop-i-preserved
loop-i-preserved c =
    let l = c.loop-i in
    let k = c.args.more - l.i in
    let e = byte c.args.rest.now l.i c.loop-i-test.true in
    let less : c.args.more - (l.i + 1) ≡ k - 1 = omega arith in
    record {
      within = omega arith;
      room = rw less (room_more l.value c.from.result k 10000000 (omega arith) (omega arith) l.invariant.room);
      same = rw (less, c.from.ensures) (l.invariant.same ∙ digits_more e k l.value (omega arith) (omega arith) (omega arith));
    }

pub returns : goal.returns
returns c =
    let l = c.loop-i in
    let s = c.args.rest.now in
    l.invariant.same ∙ digits_short (c.args.more - l.i) l.value (drop l.i s) (omega (arith, length-drop l.i s))

-- `order::ready` refuses in the paper's order, one way out for each refusal, and else leaves the list to be judged.
use Rattle.std.proofs.Common.{sym, lt-ltb, le-ltb}
use Rattle.releases.specs.Packed.{unpacked_list}
use Rattle.releases.specs.Places.{releases_count}
use Rattle.run.specs.Order.{before_ticks, unless_some, unless_none}
use Rattle.run.proofs.order.ready.Goals as goal

pub returns-in-Some : goal.returns-in-Some
unfolding before_ticks
returns-in-Some c = rw (unless_some _ _ _ _ (c.in-Some.ensures))

pub returns-in-Some-late : goal.returns-in-Some-late
unfolding before_ticks
returns-in-Some-late c = rw (unless_none _ _ _ c.in_default.ensures, unless_some _ _ _ _ c.in-Some-late.ensures)

pub returns-then-room-count : goal.returns-then-room-count
unfolding before_ticks unpacked_list
returns-then-room-count c =
    let many = releases_count c.args.both.now.list.releases.items in
    let few = lt-ltb _ _ c.if-room-count.true in
    rw (unless_none _ _ _ c.in_default.ensures, unless_none _ _ _ c.in_default-late.ensures, many, sym c.len-count.ensures.value, few)

pub returns : goal.returns
unfolding before_ticks unpacked_list
returns c =
    let many = releases_count c.args.both.now.list.releases.items in
    let enough = le-ltb _ _ c.if-room-count.false in
    rw (unless_none _ _ _ c.in_default.ensures, unless_none _ _ _ c.in_default-late.ensures, many, sym c.len-count.ensures.value, enough)
    c.legality.ensures

-- A legal list, read: the list with its units named is what the ticks ask for, and its run is the list's. Assumes nothing.
use Rattle.std.specs.Prelude.{◌≡◌, ℕ, suc, ◌-◌, ◌<◌, map, length}
use Rattle.std.proofs.Common.{arith}
use Rattle.std.proofs.lemmas.List.{length-map, get_or-map}
use Rattle.paper.proofs.Laws.Tests.{on_same}
use Rattle.paper.specs.Board.{Board}
use Rattle.paper.specs.Releases.{Releases, units_of, legal, legality}
use Rattle.paper.specs.Laws.Cursor.{named}
use Rattle.paper.specs.Laws.Ranges.{BoardIn, ReleasesIn, no_release}
use Rattle.paper.specs.Laws.Legal as list
use Rattle.paper.proofs.Laws.Legal as list_laws
use Rattle.paper.proofs.Laws.Cursor.{after-named, seats-named, units-named}
use Rattle.paper.specs.Scheduler.{after}
use Rattle.paper.specs.Tables.{table_at}
use Rattle.scheduler.specs.Tick.{Listed, nth}
use Rattle.run.specs.Naming.{units_full, above}

-- what a run of a list asks: numbers in their ranges, a legal list
pub record Runnable (b : Board) (l : Releases) : Type 0 where
  pub board : BoardIn b
  pub releases : ReleasesIn l
  pub legal : legality b l.list ≡ legal

-- the list with its units named
abbrev pub named_all : Board → Releases → Releases
named_all b l = record { ticks = l.ticks; list = map (named b) l.list }

module _ (b : Board) (l : Releases) where
  pub same_count : length (named_all b l).list ≡ length l.list
  same_count = length-map l.list (named b)

  -- the run of the list with its units named is the run of the list
  pub same_run : (H : ℕ) → after b (named_all b l).list H ≡ after b l.list H
  same_run H = after-named b l.list H

  pub same_table : (a : ℕ) → table_at b (named_all b l) a ≡ table_at b l a
  unfolding table_at
  same_table a = rw (seats-named b l.list a)

  module _ (h : Runnable b l) where
    -- the tasks of all releases are known
    pub nameable : list.Listed b l.list
    nameable = list_laws.legal-listed b l.list h.legal

    -- every release brings at least one unit
    brings : (p : ℕ) → p < length l.list → 0 < units_of b (nth l.list p)
    brings p i =
        on_same (nth l.list p).units 0
        (λ e.
        let some = nameable.some p i in
        let there = nameable.there p i in
        rw (units_full b (nth l.list p) e) ((h.board.task ((nth l.list p).task - 1) (omega arith)).c.low))
        (λ d. rw (units-named b (nth l.list p) (above _ d)) (above _ d))

    in_place : (p : ℕ) → p < length l.list → nth (named_all b l).list p ≡ named b (nth l.list p)
    in_place p i = get_or-map (named b) l.list p no_release no_release i

    pub named-listed : Listed (named_all b l).list
    unfolding named
    named-listed = record {
      few = omega (arith, same_count, h.releases.count.high);
      rising = λ p i.
          let more : suc p < length l.list = omega (arith, same_count) in
          rw (in_place p (omega arith), in_place (suc p) more) ((nameable.order p more).tick);
      known = λ p i.
          let here : p < length l.list = omega (arith, same_count) in
          rw (in_place p here) (record { low = nameable.some p here; high = omega (arith, nameable.there p here, h.board.tasks.high) });
      named = λ p i.
          let here : p < length l.list = omega (arith, same_count) in
          rw (in_place p here) (brings p here);
    }

-- The slices lent to a timetable: what they need, and what it writes to them (document 01, "Turned down because of the input" and "… of the state").
-- Assumes nothing.
use Rattle.std.specs.Prelude.{ℕ, ◌*◌, Bool, ◌&&◌, List, map, leb, length}
use Rattle.words.specs.Words.{words, written}
use Rattle.schedule.specs.Timetable.{Timetable}
use Rattle.schedule.specs.Chain.{Item, direction_number}

-- the slices lent to a timetable for writing
pub record Lent : Type 0 where
  pub times : List ℕ
  pub chain_bounds : List ℕ
  pub chain_directions : List ℕ

-- "docs/ lists each need": a times slice's is 8 an event
abbrev pub times_need : ℕ
times_need = 8 * 4096

-- "chain slices: the event limit": 2 an item for the bounds' numbers
abbrev pub chain_bounds_need : ℕ
chain_bounds_need = 2 * 4096

-- and 1 an item for the directions
abbrev pub chain_directions_need : ℕ
chain_directions_need = 4096

-- each meets its need
unfoldable pub long_enough : Lent → Bool
long_enough l =
    leb times_need (length l.times) && leb chain_bounds_need (length l.chain_bounds)
    && leb chain_directions_need (length l.chain_directions)

-- "A timetable that succeeds writes the events' places of the times slice and … nothing else."
unfoldable pub times_written : Timetable → Lent → Lent
times_written t l =
    record { times = written (words 8 t.times) l.times; chain_bounds = l.chain_bounds; chain_directions = l.chain_directions }

-- "the chain is written to the front of its slices …; the chain slices' other places and the times slice stay as they came"
unfoldable pub chain_written : List Item → Lent → Lent
chain_written is l =
    record {
      times = l.times;
      chain_bounds = written (words 2 (map (λ (i : Item). i.number) is)) l.chain_bounds;
      chain_directions = written (map (λ (i : Item). direction_number i.direction) is) l.chain_directions;
    }

-- Names every definition of this module, for a proof that computes with them all.
unfoldable pub open_lent : Unit {0}
unfolding long_enough times_written chain_written
open_lent = tt

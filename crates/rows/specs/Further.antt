-- Rows that document 01 does not mark: its other examples, and what the starred ones do not tell apart.
-- Assumes nothing.
use Rattle.std.specs.Prelude.{List, [], ◌∷◌}
use Rattle.floor.specs.Examples.{a_to_b, by_road, ring_of_three, apart, twice_entered, crossing}
use Rattle.schedule.specs.Book.{◌at◌}
use Rattle.rows.specs.Row.{load, table_refused, record_refused, events, bounded, time_of, Row, ◌is◌, times_from}

-- the rows not marked
unfoldable pub further : List Row
further =
    -- "Margin 500,000: 2; 499,999: accepted."
    record {
      tables = by_road "0,1,1000000,500000";
      reports = [];
      facts = (load is 2) ∷ (table_refused is 1) ∷ (record_refused is 1) ∷ [];
    }
    ∷ record { tables = by_road "0,1,1000000,499999"; reports = []; facts = (load is 0) ∷ [] }
    -- "Three carts, each moving to the next cell of a triangle of roads in one step: accepted."
    ∷ record { tables = ring_of_three; reports = []; facts = (load is 0) ∷ (events is 14) ∷ (bounded is 18) ∷ (time_of 13 is 4000) ∷ [] }
    -- "Without that report the program prints …"
    ∷ record { tables = a_to_b "250000,"; reports = []; facts = times_from 0 (0 ∷ 0 ∷ 1000 ∷ 3000 ∷ 4000 ∷ 4000 ∷ []) }
    -- each part of a move is rounded by itself, lo up: 834, 1,667 and 834, where the whole move is 3,334
    ∷ record { tables = a_to_b "300000,"; reports = []; facts = times_from 0 (0 ∷ 0 ∷ 834 ∷ 2501 ∷ 3335 ∷ 3335 ∷ []) }
    -- a report of cart 2 is the clock for cart 1, and of no event of cart 1
    ∷ record {
      tables = apart;
      reports = (2 at 1500) ∷ [];
      facts = times_from 0 (0 ∷ 0 ∷ 1500 ∷ 3500 ∷ 4500 ∷ 0 ∷ 1500 ∷ 3500 ∷ 4500 ∷ 4500 ∷ []);
    }
    -- of two later entries to a cell the first alone has an order bound
    ∷ record { tables = twice_entered; reports = []; facts = (events is 19) ∷ (bounded is 20) ∷ [] }
    -- three carts cross a cell: three order bounds, the first to the third cart's among them
    ∷ record {
      tables = crossing "62500,";
      reports = [];
      facts = (events is 23) ∷ (bounded is 27) ∷ (time_of 5 is 20000) ∷ (time_of 10 is 20000) ∷ (time_of 12 is 22000) ∷ (time_of 17 is 22000) ∷ [];
    }
    ∷ []

-- Names every definition of this module, for a proof that computes with them all.
unfoldable pub open_further : Unit {0}
unfolding further
open_further = tt

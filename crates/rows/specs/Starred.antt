-- The starred plans of document 01, "Plans with known times", all of them.
-- Assumes nothing.
use Rattle.std.specs.Prelude.{ℕ, List, [], ◌∷◌, ◌++◌}
use Rattle.floor.specs.Examples.{the_pair, on_ab, a_to_b}
use Rattle.schedule.specs.Book.{◌at◌}
use Rattle.schedule.specs.Chain.{Item, onward, back}
use Rattle.rows.specs.Row.{load, table_refused, record_refused, events, bounded, last_report, timed, passes, time_of, chain, cost_of, Row, ◌is◌, times_from}

-- items that go onward, by their bounds' numbers
unfoldable pub onwards : List ℕ → List Item
onwards [] = []
onwards (n ∷ ns) = record { number = n; direction = onward } ∷ onwards ns

-- items that go back
unfoldable pub backwards : List ℕ → List Item
backwards [] = []
backwards (n ∷ ns) = record { number = n; direction = back } ∷ backwards ns

-- cart 1 from the start to the approach to C, at its slowest
unfoldable pub slowest_to_c : List Item
slowest_to_c = onwards (0 ∷ 2 ∷ 3 ∷ 4 ∷ 5 ∷ 6 ∷ [])

-- back by the order bound to cart 2's leave point of C, and from there, at its fastest, to the start
unfoldable pub fastest_from_c : List Item
fastest_from_c = backwards (29 ∷ 17 ∷ 16 ∷ 15 ∷ 14 ∷ 1 ∷ [])

-- "lo 834 exceeds hi 833"
unfoldable pub too_even : List Item
too_even = onwards (1 ∷ []) ++ backwards (1 ∷ [])

-- the report at 500, [500, 500], against the first part's lo of 1,000
unfoldable pub too_early : List Item
too_early = onwards (10_002 ∷ []) ++ backwards (1 ∷ 0 ∷ [])

-- the rows marked *
unfoldable pub starred : List Row
starred =
    -- "The pair has 28 events and 32 bounds."
    record { tables = the_pair "250000,"; reports = []; facts = (events is 28) ∷ (bounded is 32) ∷ [] }
    -- "Its finish is 64,000, cart 1 reaches E at 29,000; 14 passes."
    ∷ record {
      tables = the_pair "250000,";
      reports = [];
      facts = (time_of 27 is 64000) ∷ (time_of 13 is 29000) ∷ (passes is 14) ∷ [];
    }
    -- "Cart 1 slowest 80,000: its events up to the approach to C are 0, 1250, 7500, 10625, 13750, 20000; finish 64,000."
    ∷ record {
      tables = the_pair "250000,80000";
      reports = [];
      facts = times_from 1 (0 ∷ 1250 ∷ 7500 ∷ 10625 ∷ 13750 ∷ 20000 ∷ []) ++ ((time_of 27 is 64000) ∷ []);
    }
    -- "Cart 1 slowest 87,489: accepted."
    ∷ record { tables = the_pair "250000,87489"; reports = []; facts = (load is 0) ∷ (timed is 0) ∷ [] }
    -- "87,490: refusal 13 (19,999 against 20,000)."
    ∷ record { tables = the_pair "250000,87490"; reports = []; facts = (load is 0) ∷ (timed is 13) ∷ (chain (slowest_to_c ++ fastest_from_c) is 1) ∷ (cost_of slowest_to_c is 19999) ∷ (cost_of fastest_from_c is 20000) ∷ [] }
    -- "One cart, fastest and slowest 300,000, path A B: 13, as lo 834 exceeds hi 833."
    ∷ record { tables = a_to_b "300000,300000"; reports = []; facts = (load is 0) ∷ (timed is 13) ∷ (chain too_even is 1) ∷ (cost_of (onwards (1 ∷ [])) is 833) ∷ (cost_of (backwards (1 ∷ [])) is 834) ∷ [] }
    -- "One cart, path A: times 0, 0, 0; two passes."
    ∷ record {
      tables = on_ab ("250000," ∷ []) ("0" ∷ []);
      reports = [];
      facts = (events is 3) ∷ (passes is 2) ∷ times_from 0 (0 ∷ 0 ∷ 0 ∷ []);
    }
    -- "Paths A B and B A: 9."
    ∷ record {
      tables = on_ab ("250000," ∷ "250000," ∷ []) ("0,1" ∷ "1,0" ∷ []);
      reports = [];
      facts = (load is 9) ∷ (table_refused is 3) ∷ (record_refused is 2) ∷ [];
    }
    -- "Paths A and A: 8."
    ∷ record {
      tables = on_ab ("250000," ∷ "250000," ∷ []) ("0" ∷ "0" ∷ []);
      reports = [];
      facts = (load is 8) ∷ (table_refused is 3) ∷ (record_refused is 2) ∷ [];
    }
    -- "One cart, 250,000, path A B, event 2 reported at 1500: events 3, 4, 5 at 3500, 4500, 4500."
    ∷ record {
      tables = a_to_b "250000,";
      reports = (1 at 1500) ∷ [];
      facts = (last_report is 0) ∷ times_from 2 (1500 ∷ 3500 ∷ 4500 ∷ 4500 ∷ []);
    }
    -- "Reported at 500: the report is taken, the timetable is 13."
    ∷ record {
      tables = a_to_b "250000,";
      reports = (1 at 500) ∷ [];
      facts = (last_report is 0) ∷ (timed is 13) ∷ (chain too_early is 1) ∷ [];
    }
    -- "Then a report at 499: 12; at 500: taken."
    ∷ record { tables = a_to_b "250000,"; reports = (1 at 500) ∷ (1 at 499) ∷ []; facts = (last_report is 12) ∷ [] }
    ∷ record {
      tables = a_to_b "250000,";
      reports = (1 at 500) ∷ (1 at 499) ∷ (1 at 500) ∷ [];
      facts = (last_report is 0) ∷ [];
    }
    ∷ []

-- Names every definition of this module, for a proof that computes with them all.
unfoldable pub open_starred : Unit {0}
unfolding onwards backwards slowest_to_c fastest_from_c too_even too_early starred
open_starred = tt

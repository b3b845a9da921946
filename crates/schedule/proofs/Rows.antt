-- Books, added bounds, timetables and chains of small plans. Assumes nothing.
use Rattle.std.specs.Prelude.{None, Some}
use Prim.Native.Nat.{ℕ}
use mathlib.Core.Path.{◌≡◌, refl}
use mathlib.Core.Bool.{true, false}
use mathlib.Core.List.{List, [], ◌∷◌, map}
use lib.ListN.{replicate}
use Rattle.words.specs.Words.{open_words}
use Rattle.floor.specs.Plan.{Plan}
use Rattle.floor.specs.declared.Road.{Road}
use Rattle.network.proofs.Rows.{bound}
use Rattle.schedule.specs.Book.{Report, ◌at◌, Book, first_book, has_next, in_time, book_after, replay, passed_points, points_to_pass}
use Rattle.schedule.specs.Added.{Numbered, added_bounds, numbered_bounds}
use Rattle.schedule.specs.Timetable.{timetable}
use Rattle.schedule.specs.Chain.{Direction, onward, back, direction_number, Item, is_chain}
use Rattle.schedule.specs.Lent.{Lent, long_enough, times_written, chain_written}
use Rattle.schedule.specs.Open.{open_schedule}

-- "every road 1,000,000 long, margin 250,000"
road : ℕ → ℕ → Road
road a b = record { from = a; to = b; length = 1_000_000; margin = 250_000 }

-- "One cart, 250,000, path A B"
one : Plan
one = record { roads = road 0 1 ∷ []; carts = record { fastest = 250_000; slowest = None } ∷ []; paths = (0 ∷ 1 ∷ []) ∷ [] }

-- two of them, each on a road of its own
two : Plan
two =
    record {
      roads = road 0 1 ∷ road 2 3 ∷ [];
      carts = record { fastest = 250_000; slowest = None } ∷ record { fastest = 250_000; slowest = None } ∷ [];
      paths = (0 ∷ 1 ∷ []) ∷ (2 ∷ 3 ∷ []) ∷ [];
    }

-- the book after some reports
book : Plan → List Report → Book
book p rs = go (first_book p) rs
  where
    go : Book → List Report → Book
    go b [] = b
    go b (r ∷ rs) = go (book_after p b r) rs

-- "the cart's next point is passed at the time reported, which becomes the clock"; refused reports leave the book as it was
books_follow : book two [] ∷ book two ((2 at 1500) ∷ []) ∷ book two ((2 at 1500) ∷ (1 at 1499) ∷ (3 at 2000) ∷ (0 at 2000) ∷ (1 at 1500) ∷ (2 at 7000) ∷ []) ∷ []
    ≡ record { clock = 0; passed = (0 ∷ []) ∷ (0 ∷ []) ∷ [] }
    ∷ record { clock = 1500; passed = (0 ∷ []) ∷ (0 ∷ 1500 ∷ []) ∷ [] }
    ∷ record { clock = 7000; passed = (0 ∷ 1500 ∷ []) ∷ (0 ∷ 1500 ∷ 7000 ∷ []) ∷ [] }
    ∷ []
unfolding open_schedule two road book
books_follow = refl

-- the log is replayed from its first entry on, and an entry that no book takes undoes it
replay_follows : map (replay two (first_book two)) ([] ∷ ((2 at 10) ∷ (2 at 20) ∷ []) ∷ ((2 at 20) ∷ (2 at 10) ∷ []) ∷ ((3 at 10) ∷ []) ∷ [])
    ≡ Some (record { clock = 0; passed = (0 ∷ []) ∷ (0 ∷ []) ∷ [] })
    ∷ Some (record { clock = 20; passed = (0 ∷ []) ∷ (0 ∷ 10 ∷ 20 ∷ []) ∷ [] })
    ∷ None
    ∷ None
    ∷ []
unfolding open_schedule two road
replay_follows = refl

-- "if its cart isn't there or has passed all its points"
next_follow : has_next one (book one []) (0 at 0) ∷ has_next one (book one []) (1 at 0) ∷ has_next one (book one []) (2 at 0)
    ∷ has_next one (book one ((1 at 1) ∷ (1 at 2) ∷ [])) (1 at 3) ∷ has_next one (book one ((1 at 1) ∷ (1 at 2) ∷ (1 at 3) ∷ [])) (1 at 3) ∷ []
    ≡ false ∷ true ∷ false ∷ true ∷ false ∷ []
unfolding open_schedule one road book
next_follow = refl

-- "if its time is below the clock or over 10^12"
time_follow : map (in_time (book one ((1 at 500) ∷ []))) ((1 at 499) ∷ (1 at 500) ∷ (1 at 1_000_000_000_000) ∷ (1 at 1_000_000_000_001) ∷ [])
    ≡ false ∷ true ∷ true ∷ false ∷ []
unfolding open_schedule one road book
time_follow = refl

-- what the book has as passed and as still to be passed, and the bounds that it adds
passed_follow : passed_points two (book two ((2 at 1500) ∷ []))
    ≡ record { event = 1; time = 0 } ∷ record { event = 5; time = 0 } ∷ record { event = 6; time = 1500 } ∷ []
unfolding open_schedule two road book
passed_follow = refl

to_pass_follow : points_to_pass two (book two ((2 at 1500) ∷ [])) ≡ 2 ∷ 3 ∷ 4 ∷ 7 ∷ 8 ∷ []
unfolding open_schedule two road book
to_pass_follow = refl

added_follow : added_bounds two (book two ((2 at 1500) ∷ []))
    ≡ bound 0 2 1500 None ∷ bound 0 3 1500 None ∷ bound 0 4 1500 None ∷ bound 0 6 1500 (Some 1500) ∷ bound 0 7 1500 None ∷ bound 0 8 1500 None ∷ []
unfolding open_schedule two road book bound
added_follow = refl

numbers_follow : map (λ (x : Numbered). x.number) (numbered_bounds two (book two []))
    ≡ 0 ∷ 1 ∷ 2 ∷ 3 ∷ 4 ∷ 5 ∷ 6 ∷ 7 ∷ 8 ∷ 9 ∷ 10_002 ∷ 10_003 ∷ 10_004 ∷ 10_006 ∷ 10_007 ∷ 10_008 ∷ []
unfolding open_schedule two road book
numbers_follow = refl

-- one move in a row takes five passes; a report of cart 2 moves cart 1 by the clock
times_follow : timetable one (book one []) ∷ timetable one (book one ((1 at 1500) ∷ [])) ∷ timetable one (book one ((1 at 500) ∷ [])) ∷ timetable two (book two ((2 at 1500) ∷ [])) ∷ []
    ≡ Some (record { times = 0 ∷ 0 ∷ 1000 ∷ 3000 ∷ 4000 ∷ 4000 ∷ []; passes = 5 })
    ∷ Some (record { times = 0 ∷ 0 ∷ 1500 ∷ 3500 ∷ 4500 ∷ 4500 ∷ []; passes = 4 })
    ∷ None
    ∷ Some (record { times = 0 ∷ 0 ∷ 1500 ∷ 3500 ∷ 4500 ∷ 0 ∷ 1500 ∷ 3500 ∷ 4500 ∷ 4500 ∷ []; passes = 4 })
    ∷ []
unfolding open_schedule one two road book
times_follow = refl

-- the report at 500 against a lo of 1,000: a chain, and what is none
item : ℕ → Direction → Item
item n d = record { number = n; direction = d }

chains_follow : map (is_chain one (book one ((1 at 500) ∷ [])))
    ( -- from the start to event 2 by the report, and back along the first part and the start bound: 500 − 1,000 − 0
    (item 10_002 onward ∷ item 1 back ∷ item 0 back ∷ [])
    -- it may begin at any of its events
    ∷ (item 1 back ∷ item 0 back ∷ item 10_002 onward ∷ [])
    -- no item; one that ends elsewhere; one whose items do not meet
    ∷ []
    ∷ (item 10_002 onward ∷ item 1 back ∷ [])
    ∷ (item 10_002 onward ∷ item 0 back ∷ item 1 back ∷ [])
    -- an event met twice
    ∷ (item 10_002 onward ∷ item 1 back ∷ item 0 back ∷ item 10_002 onward ∷ item 1 back ∷ item 0 back ∷ [])
    -- a sum of 0, and one above
    ∷ (item 0 onward ∷ item 0 back ∷ [])
    ∷ (item 0 onward ∷ item 0 back ∷ item 10_002 onward ∷ item 10_002 back ∷ [])
    -- a bound without hi onward, and a number that no bound has
    ∷ (item 10_002 onward ∷ item 2 onward ∷ item 10_003 back ∷ [])
    ∷ (item 10_001 back ∷ item 0 back ∷ [])
    ∷ [])
    ≡ true ∷ true ∷ false ∷ false ∷ false ∷ false ∷ false ∷ false ∷ false ∷ false ∷ []
unfolding open_schedule one road book item
chains_follow = refl

-- "0 goes from u to v …, 1 goes back"
directions_follow : direction_number onward ∷ direction_number back ∷ [] ≡ 0 ∷ 1 ∷ []
unfolding open_schedule
directions_follow = refl

-- ---- what a timetable writes

-- slices of sevens
lent : Lent
lent = record { times = replicate 18 7; chain_bounds = replicate 5 7; chain_directions = replicate 3 7 }

-- eight bytes an event, two an item and one a direction, and nothing else
written_follows : times_written (record { times = 5 ∷ 258 ∷ []; passes = 3 }) lent
    ∷ chain_written (record { number = 10_002; direction = back } ∷ record { number = 1; direction = onward } ∷ []) lent
    ∷ []
    ≡ record { times = 5 ∷ 0 ∷ 0 ∷ 0 ∷ 0 ∷ 0 ∷ 0 ∷ 0 ∷ 2 ∷ 1 ∷ 0 ∷ 0 ∷ 0 ∷ 0 ∷ 0 ∷ 0 ∷ 7 ∷ 7 ∷ []; chain_bounds = replicate 5 7; chain_directions = replicate 3 7 }
    ∷ record { times = replicate 18 7; chain_bounds = 18 ∷ 39 ∷ 1 ∷ 0 ∷ 7 ∷ []; chain_directions = 1 ∷ 0 ∷ 7 ∷ [] }
    ∷ []
unfolding open_schedule open_words lent
written_follows = refl

-- "14: a lent slice shorter than the limits above need": each slice at its need, and one place short of it
slices : ℕ → ℕ → ℕ → Lent
slices t b d = record { times = replicate t 9; chain_bounds = replicate b 9; chain_directions = replicate d 9 }

needs_follow : map long_enough (slices 32_768 8192 4096 ∷ slices 32_767 8192 4096 ∷ slices 32_768 8191 4096 ∷ slices 32_768 8192 4095 ∷ [])
    ≡ true ∷ false ∷ false ∷ false ∷ []
unfolding open_schedule slices
needs_follow = refl

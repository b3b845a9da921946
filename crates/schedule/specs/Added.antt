-- The bounds that a timetable goes by: the plan's own and those that the book adds (document 01, "Reports and timetable").
-- Assumes nothing.
use Rattle.std.specs.Prelude.{ℕ, suc, ◌+◌, None, Some}
use mathlib.Core.List.{List, [], ◌∷◌, ◌++◌, map, tail}
use Rattle.floor.specs.Plan.{Plan}
use Rattle.network.specs.Events.{Route, routes_of}
use Rattle.network.specs.Bounds.{Bound, bounds}
use Rattle.schedule.specs.Book.{Book, Passed, route_passed, route_to_pass, by_cart}

-- "each reported event e carries an added bound [time, time] from the start"
unfoldable pub reported_bound : Passed → Bound
reported_bound x = record { from = 0; to = x.event; lo = x.time; hi = Some x.time }

-- "and each cart event passed by no report, first entries excepted, one of [clock, none]"
unfoldable pub clock_bound : ℕ → ℕ → Bound
clock_bound clock e = record { from = 0; to = e; lo = clock; hi = None }

-- those of one cart, its first entry excepted
unfoldable pub route_added : ℕ → Route → List ℕ → List Bound
route_added clock r ts = map reported_bound (tail (route_passed r ts)) ++ map (clock_bound clock) (route_to_pass r ts)

-- those of all carts
unfoldable pub added_bounds : Plan → Book → List Bound
added_bounds p b = by_cart (route_added b.clock) (routes_of p) b.passed

-- "Following a bound, added ones included": all of them
unfoldable pub all_bounds : Plan → Book → List Bound
all_bounds p b = bounds p ++ added_bounds p b

-- a bound and its number
pub record Numbered : Type 0 where
  pub number : ℕ
  pub bound : Bound

-- the plan's own "are numbered from 0"
unfoldable pub numbered : ℕ → List Bound → List Numbered
numbered i [] = []
numbered i (b ∷ bs) = record { number = i; bound = b } ∷ numbered (suc i) bs

-- "each is numbered 10,000 + e"
unfoldable pub added_numbered : List Bound → List Numbered
added_numbered = map (λ (b : Bound). record { number = 10_000 + b.to; bound = b })

-- all bounds with their numbers
unfoldable pub numbered_bounds : Plan → Book → List Numbered
numbered_bounds p b = numbered 0 (bounds p) ++ added_numbered (added_bounds p b)

-- Names every definition of this module, for a proof that computes with them all.
unfoldable pub open_added : Unit {0}
unfolding reported_bound clock_bound route_added added_bounds all_bounds numbered added_numbered numbered_bounds
open_added = tt

-- Events and order bounds of paths in an array: what the code that numbers and writes them answers and leaves, on all input.
-- Assumes nothing.
use Rattle.std.specs.Prelude.{ℕ, suc, ◌*◌, Bool, ◌&&◌, cond, List, [], ◌∷◌, ◌++◌, map, leb, length}
use Rattle.floor.specs.Plan.{Plan}
use Rattle.tables.specs.Arrays.{paths_in}
use Rattle.network.specs.Events.{Route, routes_of, event_count, finish_event}
use Rattle.network.specs.Bounds.{Bound, order_bounds}
use Rattle.limits.specs.Limits.{of_paths}

-- the numbers of the carts' first events, and behind them the finish's
unfoldable pub first_events : Plan → List ℕ
first_events p = map (λ (r : Route). r.first) (routes_of p) ++ (finish_event p ∷ [])

-- n paths of w cells each in the front of an array: no more carts, steps and events than may be, a step at least, and all of them there
unfoldable pub events_kept : ℕ → ℕ → List ℕ → Bool
events_kept n w s = leb n 64 && leb 1 w && leb w 1024 && leb (n * w) (length s) && leb (event_count (of_paths (paths_in n w s))) 4096

-- and room for the first events
unfoldable pub events_fit : ℕ → ℕ → List ℕ → ℕ → Bool
events_fit n w s room = events_kept n w s && leb (suc n) room

-- their first events, where they fit
unfoldable pub firsts_fitting : ℕ → ℕ → List ℕ → ℕ → List ℕ
firsts_fitting n w s room = cond (events_fit n w s room) (first_events (of_paths (paths_in n w s))) []

-- the order bounds of such paths
unfoldable pub orders_fitting : ℕ → ℕ → List ℕ → List Bound
orders_fitting n w s = cond (events_kept n w s) (order_bounds (routes_of (of_paths (paths_in n w s)))) []

-- Names every definition of this module, for a proof that computes with them all.
unfoldable pub open_orders : Unit {0}
unfolding first_events events_kept events_fit firsts_fitting orders_fitting
open_orders = tt

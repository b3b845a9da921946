-- What is said of paths as code hands them on.
-- Assumes nothing.
use Rattle.std.specs.Prelude.{ℕ, Bool, List}
use Rattle.floor.specs.Plan.{Plan}
use Rattle.collisions.specs.declared.Paths.{Paths}
use Rattle.collisions.specs.Meetings.{paths_of}
use Rattle.network.specs.Events.{routes_of}
use Rattle.network.specs.Bounds.{Bound, order_bounds}
use Rattle.limits.specs.Limits.{of_paths, paths_within}
use Rattle.limits.specs.Counts.{total, moves, stops, orders_among}
use Rattle.limits.specs.Orders.{events_kept, orders_fitting}

-- their moves
abbrev pub moves_of : Paths → ℕ
moves_of p = total moves (paths_of p)

-- how many order bounds are counted
abbrev pub orders_of : Paths → ℕ
orders_of p = orders_among (stops 1 (paths_of p))

-- a plan of them
abbrev pub plan_of : Paths → Plan
plan_of p = of_paths (paths_of p)

-- its order bounds
abbrev pub bounds_of : Paths → List Bound
bounds_of p = order_bounds (routes_of (plan_of p))

-- whether they keep the limit of events
abbrev pub keep_events : Paths → Bool
keep_events p = events_kept p.carts p.steps p.cells.now

-- the limits of events and bounds
abbrev pub keep_limits : Paths → Bool
keep_limits p = paths_within p.carts p.steps p.cells.now

-- the order bounds of paths that keep the limit of events
abbrev pub bounds_kept : Paths → List Bound
bounds_kept p = orders_fitting p.carts p.steps p.cells.now

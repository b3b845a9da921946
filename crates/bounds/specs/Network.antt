-- The bounds of a plan in arrays: what the code that writes them answers and leaves, on all input.
-- Assumes nothing.
use Rattle.std.specs.Prelude.{ℕ, cond, List, [], length, Option, None, Some}
use Rattle.std.specs.Option.{option_map}
use Rattle.floor.specs.Plan.{Plan}
use Rattle.collisions.specs.Meetings.{paths_of}
use Rattle.tables.specs.Arrays.{carts_in}
use Rattle.tables.specs.declared.Size.{Size}
use Rattle.tables.specs.Reading.{Arrays}
use Rattle.network.specs.Events.{event_count}
use Rattle.network.specs.Bounds.{Bound, bounds}
use Rattle.limits.specs.Orders.{events_kept}
use Rattle.slice.specs.declared.Holding.{Holding}
use Rattle.bounds.specs.declared.numbers.Numbers.{Numbers}
use Rattle.bounds.specs.declared.Network.{Network}
use Rattle.bounds.specs.Writing.{roads_of}

-- the plan in arrays
unfoldable pub plan_in : Numbers → Plan
plan_in n = record { roads = roads_of n.roads; carts = carts_in n.paths.carts n.speeds.now; paths = paths_of n.paths }

-- the numbers in its arrays and its size, as the reader of a slice has left and told them
abbrev pub numbers_of : Numbers → Arrays
numbers_of n = record { roads = n.roads.edges.now; carts = n.speeds.now; cells = n.paths.cells.now }

abbrev pub size_of : Numbers → Size
size_of n = record { roads = n.roads.count; carts = n.paths.carts; steps = n.paths.steps }

abbrev pub holding_of : Numbers → ℕ → Holding
holding_of n reports = record { size = size_of n; reports = reports }

-- the plan, where the limits but that of bounds are kept
unfoldable pub plan_fitting : Numbers → Option Plan
plan_fitting n = cond (events_kept n.paths.carts n.paths.steps n.paths.cells.now) (Some (plan_in n)) None

-- how many events and bounds there are
unfoldable pub network_of : Plan → Network
network_of p = record { events = event_count p; bounds = length (bounds p) }

unfoldable pub network_answer : Option Plan → Option Network
network_answer o = option_map network_of o

-- the bounds to be written
unfoldable pub network_bounds : Option Plan → List Bound
network_bounds None = []
network_bounds (Some p) = bounds p

-- Names every definition of this module, for a proof that computes with them all.
unfoldable pub open_network_arrays : Unit {0}
unfolding plan_in plan_fitting network_of network_answer network_bounds
open_network_arrays = tt

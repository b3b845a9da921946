-- Bounds by the numbers that the code that writes them has: first events, speeds, lengths and margins.
-- Assumes nothing.
use Rattle.std.specs.Prelude.{ℕ, zero, suc, ◌+◌, ◌*◌, ◌-◌, List, get_or, Option, None, Some, unwrap_or}
use Rattle.floor.specs.Plan.{road_between}
use Rattle.floor.specs.declared.Road.{Road}
use Rattle.floor.specs.declared.Cart.{Cart}
use Rattle.tables.specs.Arrays.{roads_in}
use Rattle.network.specs.Events.{visits_of}
use Rattle.network.specs.Bounds.{Bound, no_earlier, parts, route_parts, part_bounds}
use Rattle.bounds.specs.declared.numbers.Roads.{Roads}
use Rattle.bounds.specs.declared.numbers.Speeds.{Speeds}

-- the start bound of a cart whose first event is e
unfoldable pub start_to : ℕ → Bound
start_to e = record { from = 0; to = e; lo = 0; hi = Some 0 }

-- the finish bound, to event f, of a cart behind whose last event stands e
unfoldable pub finish_before : ℕ → ℕ → Bound
finish_before f e = no_earlier (e - 1) f

-- a speed as a number: 0 for none
unfoldable pub speed_of : ℕ → Option ℕ
speed_of n = elim n [ zero ↦ None | suc v ↦ Some (suc v) ]

-- the cart of these speeds
abbrev pub cart_of : Speeds → Cart
cart_of s = record { fastest = s.fastest; slowest = s.slowest }

-- the cart in the i-th place of an array of speeds, two numbers each
unfoldable pub cart_at : List ℕ → ℕ → Cart
cart_at s i = record { fastest = get_or s (2 * i) 0; slowest = speed_of (get_or s (2 * i + 1) 0) }

-- the roads in an array
abbrev pub roads_of : Roads → List Road
roads_of r = roads_in r.count r.edges.now

-- the road between two cells, and what stands in for it where there is none
unfoldable pub road_found : List Road → ℕ → ℕ → Road
road_found roads a b = unwrap_or (road_between roads a b) (record { from = 0; to = 0; length = 0; margin = 0 })

-- the travel bounds of a move along a road, the first from event e
unfoldable pub move_bounds : Cart → ℕ → Road → List Bound
move_bounds c e d = part_bounds c e (parts c d)

-- the travel bounds of a path, the first from event e
unfoldable pub path_bounds : List Road → Cart → ℕ → List ℕ → List Bound
path_bounds roads c e q = part_bounds c e (route_parts roads c (visits_of q))

-- Names every definition of this module, for a proof that computes with them all.
unfoldable pub open_writing : Unit {0}
unfolding start_to finish_before speed_of cart_at road_found move_bounds path_bounds
open_writing = tt

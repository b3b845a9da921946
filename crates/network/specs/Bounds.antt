-- The bounds of a plan (document 01, "Bounds"; document 004, Algorithm 1, lines 11 to 19, and its speed limits).
-- Assumes nothing.
use Rattle.std.specs.Prelude.{ℕ, suc, ◌+◌, ◌*◌, ◌-◌, ◌/◌, ◌&&◌, cond, ltb, eqb, Option, None, Some, unwrap_or}
use mathlib.Core.List.{List, [], ◌∷◌, ◌++◌, map, flat_map}
use Rattle.floor.specs.Plan.{Plan, road_between}
use Rattle.floor.specs.declared.Road.{Road}
use Rattle.floor.specs.declared.Cart.{Cart}
use Rattle.network.specs.Events.{Visit, approach, leave, Route, routes_of, event_of, last_event, finish_event}

-- "A bound [lo, hi] from event u to event v"; "hi may be none"
pub record Bound : Type 0 where
  pub from : ℕ
  pub to : ℕ
  pub lo : ℕ
  pub hi : Option ℕ

-- [0, none]
unfoldable pub no_earlier : ℕ → ℕ → Bound
no_earlier u v = record { from = u; to = v; lo = 0; hi = None }

-- "Start bounds, by cart: [0, 0] from the start to the cart's first entry."
unfoldable pub start_bounds : List Route → List Bound
start_bounds = map (λ (r : Route). record { from = 0; to = r.first; lo = 0; hi = Some 0 })

-- "A move has three parts of lengths margin, length − 2 × margin, margin."
unfoldable pub part_lengths : Road → List ℕ
part_lengths d = d.margin ∷ (d.length - 2 * d.margin) ∷ d.margin ∷ []

-- a part of a move: its length, and the slowest speed on it, if there is one
pub record Part : Type 0 where
  pub length : ℕ
  pub slowest : Option ℕ

-- the parts of a cart's move along a road
unfoldable pub parts : Cart → Road → List Part
parts c d = map (λ (l : ℕ). record { length = l; slowest = c.slowest }) (part_lengths d)

-- n ÷ d "rounded up"
unfoldable pub div_up : ℕ → ℕ → ℕ
div_up n d = (n + (d - 1)) / d

-- "lo is 1,000 × part ÷ fastest rounded up"
unfoldable pub least_time : Cart → Part → ℕ
least_time c part = div_up (1000 * part.length) c.fastest

-- "hi is 1,000 × part ÷ slowest rounded down, or none"
unfoldable pub most_time : Part → Option ℕ
most_time part = elim part.slowest [ None ↦ None | Some s ↦ Some (1000 * part.length / s) ]

-- the road of a move; a plan with a move without one is turned down (7)
unfoldable pub road_of_move : List Road → Visit → Visit → Road
road_of_move roads x y =
    unwrap_or (road_between roads x.cell y.cell) (record { from = 0; to = 0; length = 0; margin = 0 })

-- the parts of the moves after visit x, "along the route"
unfoldable pub parts_after : List Road → Cart → Visit → List Visit → List Part
parts_after roads c x [] = []
parts_after roads c x (y ∷ ys) = parts c (road_of_move roads x y) ++ parts_after roads c y ys

-- the parts of all moves of a route
unfoldable pub route_parts : List Road → Cart → List Visit → List Part
route_parts roads c [] = []
route_parts roads c (x ∷ xs) = parts_after roads c x xs

-- one part after the other, each from its event to the next, the first from event e
unfoldable pub part_bounds : Cart → ℕ → List Part → List Bound
part_bounds c e [] = []
part_bounds c e (p ∷ ps) =
    record { from = e; to = suc e; lo = least_time c p; hi = most_time p } ∷ part_bounds c (suc e) ps

-- "Travel bounds, by cart along the route."
unfoldable pub travel_bounds : List Road → List Route → List Bound
travel_bounds roads = flat_map (λ (r : Route). part_bounds r.cart r.first (route_parts roads r.cart r.visits))

-- "k's first entry to the same cell at a step after t, if any"
unfoldable pub first_later : Visit → List Visit → Option Visit
first_later x [] = None
first_later x (y ∷ ys) = cond (ltb x.step y.step && eqb x.cell y.cell) (Some y) (first_later x ys)

-- [0, none] from one event to another, where both are there
unfoldable pub between : Option ℕ → Option ℕ → List Bound
between None v = []
between (Some u) None = []
between (Some u) (Some v) = no_earlier u v ∷ []

-- "from that entry's leave point to the approach point of" k's visit y (both are there in every accepted plan)
unfoldable pub order_bound : Route → Visit → Route → Option Visit → List Bound
order_bound j x k None = []
order_bound j x k (Some y) = between (event_of leave j x) (event_of approach k y)

-- "and for each other cart k"
unfoldable pub order_bounds_to : Route → Visit → Route → List Bound
order_bounds_to j x k = cond (eqb j.number k.number) [] (order_bound j x k (first_later x k.visits))

-- "Order bounds [0, none]: for each cart j and entry of j at step t to a cell …; by j, then t, then k."
unfoldable pub order_bounds : List Route → List Bound
order_bounds rs = flat_map (λ (j : Route). flat_map (λ (x : Visit). flat_map (order_bounds_to j x) rs) j.visits) rs

-- "Finish bounds [0, none], by cart: from its last entry to the finish."
unfoldable pub finish_bounds : ℕ → List Route → List Bound
finish_bounds f = map (λ (r : Route). no_earlier (last_event r) f)

-- "They are numbered from 0 in this order"
unfoldable pub bounds : Plan → List Bound
bounds p =
    let rs = routes_of p in
    start_bounds rs ++ (travel_bounds p.roads rs ++ (order_bounds rs ++ finish_bounds (finish_event p) rs))

-- Names every definition of this module, for a proof that computes with them all.
unfoldable pub open_bounds : Unit {0}
unfolding no_earlier start_bounds part_lengths parts div_up least_time most_time road_of_move parts_after route_parts part_bounds travel_bounds first_later between order_bound order_bounds_to order_bounds finish_bounds bounds
open_bounds = tt

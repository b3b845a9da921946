-- The events of a plan (document 01, "Events"; document 004, Algorithm 1, lines 2 to 9, and its safety markers).
-- Assumes nothing.
use Rattle.std.specs.Prelude.{ℕ, suc, ◌+◌, ◌-◌, Bool, true, false, ◌&&◌, cond, eqb, length, Option, None, Some}
use mathlib.Core.List.{List, [], ◌∷◌, ◌++◌, map, flat_map}
use Rattle.floor.specs.Plan.{Plan}
use Rattle.floor.specs.declared.Cart.{Cart}

-- a cart's visit to a cell, by the step at which it is entered
pub record Visit : Type 0 where
  pub step : ℕ
  pub cell : ℕ

-- the visits from step t on, after a step in cell c: "each cell whose step differs from the step before"; "Waits leave no event."
unfoldable pub visits_after : ℕ → ℕ → List ℕ → List Visit
visits_after c t [] = []
visits_after c t (d ∷ ds) =
    let rest = visits_after d (suc t) ds in
    cond (eqb c d) rest (record { step = t; cell = d } ∷ rest)

-- "the route": the visits of a path, that at "step 0" among them
unfoldable pub visits_of : List ℕ → List Visit
visits_of [] = []
visits_of (c ∷ cs) = record { step = 0; cell = c } ∷ visits_after c 1 cs

-- the points of a visit: its "approach point", its "entry event" and its "leave point"
pub data Kind : Type 0 where
  approach entry leave : Kind

-- a point, with the cell approached, entered or left and the step at which the visit to that cell begins
pub record Point : Type 0 where
  pub kind : Kind
  pub cell : ℕ
  pub step : ℕ

-- the point of this kind of a visit
unfoldable pub point : Kind → Visit → Point
point k x = record { kind = k; cell = x.cell; step = x.step }

-- "between two entries stand the leave point of the first cell and the approach point of the second": the points after the entry of x
unfoldable pub points_after : Visit → List Visit → List Point
points_after x [] = []
points_after x (y ∷ ys) = point leave x ∷ point approach y ∷ point entry y ∷ points_after y ys

-- the points of a route
unfoldable pub points : List Visit → List Point
points [] = []
points (x ∷ xs) = point entry x ∷ points_after x xs

-- a cart's route: the cart's number ("Carts count from 1 in table order"), its speeds, its visits, and the number of its first event
pub record Route : Type 0 where
  pub number : ℕ
  pub cart : Cart
  pub visits : List Visit
  pub first : ℕ

-- "cart by cart, the route": the routes of carts from number j on, whose events are numbered from e on
unfoldable pub routes : ℕ → ℕ → List Cart → List (List ℕ) → List Route
routes j e [] ps = []
routes j e (c ∷ cs) [] = []
routes j e (c ∷ cs) (p ∷ ps) =
    record { number = j; cart = c; visits = visits_of p; first = e } ∷ routes (suc j) (e + length (points (visits_of p))) cs ps

-- "Event 0 is the start. Then, cart by cart"
unfoldable pub routes_of : Plan → List Route
routes_of p = routes 1 1 p.carts p.paths

-- its points
unfoldable pub route_points : Route → List Point
route_points r = points r.visits

-- "A point is any event but start and finish."
pub data Event : Type 0 where
  start finish : Event
  passing : (cart : ℕ) → Point → Event

-- "Event 0 is the start. Then, cart by cart, the route …. The finish is the last event.": an event's number is its place here
unfoldable pub events : Plan → List Event
events p = start ∷ (flat_map (λ (r : Route). map (passing r.number) (route_points r)) (routes_of p) ++ (finish ∷ []))

-- the number of events
unfoldable pub event_count : Plan → ℕ
event_count p = length (events p)

-- the finish's number: it "is the last event"
unfoldable pub finish_event : Plan → ℕ
finish_event p = event_count p - 1

-- the numbers of things that stand in a row, the first numbered e
unfoldable pub places : {A : Type 0} → ℕ → List A → List ℕ
places e [] = []
places e (x ∷ xs) = e ∷ places (suc e) xs

-- the numbers of a cart's points
unfoldable pub route_events : Route → List ℕ
route_events r = places r.first (route_points r)

-- the number of its last point, which is an entry
unfoldable pub last_event : Route → ℕ
last_event r = r.first + length (route_points r) - 1

-- two kinds are the same
unfoldable pub same_kind : Kind → Kind → Bool
same_kind approach approach = true
same_kind approach entry = false
same_kind approach leave = false
same_kind entry approach = false
same_kind entry entry = true
same_kind entry leave = false
same_kind leave approach = false
same_kind leave entry = false
same_kind leave leave = true

-- the number of the point of this kind of the visit at step t, among points numbered from e on
unfoldable pub find_point : Kind → ℕ → ℕ → List Point → Option ℕ
find_point k t e [] = None
find_point k t e (p ∷ ps) = cond (same_kind k p.kind && eqb t p.step) (Some e) (find_point k t (suc e) ps)

-- a visit's entry event, its leave point (none for the last visit) and its approach point (none for the first)
unfoldable pub event_of : Kind → Route → Visit → Option ℕ
event_of k r x = find_point k x.step r.first (route_points r)

-- Names every definition of this module, for a proof that computes with them all.
unfoldable pub open_events : Unit {0}
unfolding visits_after visits_of point points_after points routes routes_of route_points flat_map events event_count finish_event places route_events last_event same_kind find_point event_of
open_events = tt

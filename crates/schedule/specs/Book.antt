-- The marker's book (document 01, "Reports and timetable").
-- Assumes nothing.
use Rattle.std.specs.Prelude.{ℕ, ◌-◌, Bool, true, false, ◌&&◌, cond, List, [], ◌∷◌, ◌++◌, map, leb, ltb, length, get_or, set, drop, Option, None, Some}
use Rattle.floor.specs.Plan.{Plan}
use Rattle.network.specs.Events.{Route, routes_of, route_points, route_events}

-- "A report names a cart and a time"
pub record Report : Type 0 where
  pub cart : ℕ
  pub time : ℕ

infix 20 ◌at◌
-- the report of cart c at time t
abbrev pub ◌at◌ : ℕ → ℕ → Report
c at t = record { cart = c; time = t }

-- "The book holds the clock and, for each cart, the points passed with their times": a cart passes its points in their order, so the times tell which
pub record Book : Type 0 where
  pub clock : ℕ
  pub passed : List (List ℕ)

-- "at first the clock is 0 and each cart's first entry is passed, at 0"
unfoldable pub first_book : Plan → Book
first_book p = record { clock = 0; passed = map (λ (r : Route). 0 ∷ []) (routes_of p) }

-- whether a cart is there: "Carts count from 1"
unfoldable pub is_there : Plan → ℕ → Bool
is_there p c = leb 1 c && leb c (length p.carts)

-- how many points a cart has
unfoldable pub points_of : Plan → ℕ → ℕ
points_of p c = get_or (map (λ (r : Route). length (route_points r)) (routes_of p)) (c - 1) 0

-- the times of the points that a cart has passed
unfoldable pub passed_by : Book → ℕ → List ℕ
passed_by b c = get_or b.passed (c - 1) []

-- no 11: not "if its cart isn't there or has passed all its points"
unfoldable pub has_next : Plan → Book → Report → Bool
has_next p b r = is_there p r.cart && ltb (length (passed_by b r.cart)) (points_of p r.cart)

-- no 12: not "if its time is below the clock or over 10^12"
unfoldable pub in_time : Book → Report → Bool
in_time b r = leb b.clock r.time && leb r.time 1_000_000_000_000

-- "Any other is accepted"
unfoldable pub acceptable : Plan → Book → Report → Bool
acceptable p b r = has_next p b r && in_time b r

-- "the cart's next point is passed at the time reported, which becomes the clock"
unfoldable pub pass_next : Book → Report → Book
pass_next b r =
    record { clock = r.time; passed = set b.passed (r.cart - 1) (passed_by b r.cart ++ (r.time ∷ [])) }

-- "These three leave the book as it was."
unfoldable pub book_after : Plan → Book → Report → Book
book_after p b r = cond (acceptable p b r) (pass_next b r) b

-- the book after some reports, if each in its turn is accepted
unfoldable pub replay : Plan → Book → List Report → Option Book
replay p b [] = Some b
replay p b (r ∷ rs) = elim (acceptable p b r) [ true ↦ replay p (pass_next b r) rs | false ↦ None ]

-- a point passed: its event, and its time
pub record Passed : Type 0 where
  pub event : ℕ
  pub time : ℕ

-- events in their order, passed at the times ts as far as these go
unfoldable pub passed_at : List ℕ → List ℕ → List Passed
passed_at [] ts = []
passed_at (e ∷ es) [] = []
passed_at (e ∷ es) (t ∷ ts) = record { event = e; time = t } ∷ passed_at es ts

-- a cart's points passed, at the times ts
unfoldable pub route_passed : Route → List ℕ → List Passed
route_passed r ts = passed_at (route_events r) ts

-- and its points "still to be passed"
unfoldable pub route_to_pass : Route → List ℕ → List ℕ
route_to_pass r ts = drop (length ts) (route_events r)

-- what f gives for each route and the times of its points passed, cart by cart
unfoldable pub by_cart : {A : Type 0} → (Route → List ℕ → List A) → List Route → List (List ℕ) → List A
by_cart f [] tss = []
by_cart f (r ∷ rs) [] = []
by_cart f (r ∷ rs) (ts ∷ tss) = f r ts ++ by_cart f rs tss

-- "the points passed with their times"
unfoldable pub passed_points : Plan → Book → List Passed
passed_points p b = by_cart route_passed (routes_of p) b.passed

-- "the points still to be passed are the book's"
unfoldable pub points_to_pass : Plan → Book → List ℕ
points_to_pass p b = by_cart route_to_pass (routes_of p) b.passed

-- Names every definition of this module, for a proof that computes with them all.
unfoldable pub open_book : Unit {0}
unfolding first_book is_there points_of passed_by has_next in_time acceptable pass_next book_after replay passed_at route_passed route_to_pass by_cart passed_points points_to_pass
open_book = tt

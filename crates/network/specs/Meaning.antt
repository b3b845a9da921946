-- What the bounds mean for times, and demand 2's equivalence.
-- Assumes nothing.
use Rattle.std.specs.Prelude.{ℕ, ◌<◌, ◌≡◌, ◌↔◌, ◌≢◌, ℤ, pos, ◌-ℤ◌, ◌≤ℤ◌, Some, Ok}
use mathlib.Core.List.{List, Memᴰ}
use Rattle.floor.specs.Plan.{Plan}
use Rattle.floor.specs.Tables.{Tables}
use Rattle.network.specs.Events.{Visit, approach, leave, Route, routes_of, event_of, finish_event}
use Rattle.network.specs.Bounds.{Bound, start_bounds, travel_bounds, finish_bounds, bounds}
use Rattle.network.specs.Judge.{judge}

-- a time for each event, by its number: "whole milliseconds"
abbrev pub Times : Type 0
Times = ℕ → ℤ

-- "lo ≤ time(v) − time(u) ≤ hi; hi may be none"
pub record Meets (t : Times) (b : Bound) : Type 0 where
  pub lower : pos b.lo ≤ℤ (t b.to -ℤ t b.from)
  pub upper : (h : ℕ) → b.hi ≡ Some h → (t b.to -ℤ t b.from) ≤ℤ pos h

-- "meet every bound"
abbrev pub MeetsAll : Times → List Bound → Type 0
MeetsAll t bs = (b : Bound) → Memᴰ b bs → Meets t b

-- "keep their order when the leave point of the earlier is no later than the approach point of the later": of j's visit x and k's later visit y
pub record InOrder (t : Times) (j : Route) (x : Visit) (k : Route) (y : Visit) : Type 0 where
  pub behind : ℕ
  pub before : ℕ
  pub leaves : event_of leave j x ≡ Some behind
  pub approaches : event_of approach k y ≡ Some before
  pub ordered : t behind ≤ℤ t before

-- "Two visits to a cell by different carts, entered at different steps": all of them keep their order
abbrev pub KeepsOrder : Plan → Times → Type 0
KeepsOrder p t =
    (j k : Route) → Memᴰ j (routes_of p) → Memᴰ k (routes_of p) → j.number ≢ k.number
    → (x y : Visit) → Memᴰ x j.visits → Memᴰ y k.visits → x.cell ≡ y.cell → x.step < y.step
    → InOrder t j x k y

-- demand 2: "Times meet all bounds exactly when they meet the start, travel and finish bounds and keep the order of every two visits to a cell by different carts."
abbrev pub Demand2 : Type 0
Demand2 =
    (ts : Tables) (p : Plan) → judge ts ≡ Ok p
    → (t : Times)
    → MeetsAll t (bounds p)
    ↔ (MeetsAll t (start_bounds (routes_of p))
    × MeetsAll t (travel_bounds p.roads (routes_of p))
    × MeetsAll t (finish_bounds (finish_event p) (routes_of p))
    × KeepsOrder p t)

-- Events and bounds of some plans, whole. Assumes nothing.
use Rattle.std.specs.Prelude.{Option, None, Some, Err, Ok}
use Prim.Native.Nat.{ℕ}
use mathlib.Core.Path.{◌≡◌, refl}
use mathlib.Core.List.{[], ◌∷◌, map}
use Rattle.floor.specs.Plan.{Plan}
use Rattle.floor.specs.Tables.{Tables}
use Rattle.floor.specs.Examples.{tables, the_pair, on_ab, a_to_b, twice_entered, crossing}
use Rattle.network.specs.Events.{approach, entry, leave, start, finish, passing, events, routes_of}
use Rattle.network.specs.Bounds.{Bound, bounds, order_bounds}
use Rattle.network.specs.Judge.{judge}
use Rattle.network.specs.Open.{open_network}

-- the plan of accepted tables; one with nothing in it for others
plan_of : Tables → Plan
plan_of ts = elim (judge ts) [ Err r ↦ record { roads = []; carts = []; paths = [] } | Ok p ↦ p ]

-- the bound [l, h] from u to v
unfoldable pub bound : ℕ → ℕ → ℕ → Option ℕ → Bound
bound u v l h = record { from = u; to = v; lo = l; hi = h }

-- "Waits leave no event.": two carts that wait throughout, and one that waits on its way
waiting : Tables
waiting = on_ab ("250000," ∷ "250000," ∷ []) ("0,0,0" ∷ "7,7,7" ∷ [])

a_wait : Tables
a_wait = tables ("0,1,1000000,250000" ∷ "1,2,1000000,250000" ∷ []) ("250000," ∷ []) ("0,1,1,2" ∷ [])

events_follow : map (λ (ts : Tables). events (plan_of ts)) (waiting ∷ a_wait ∷ [])
    ≡ (start
    ∷ passing 1 (record { kind = entry; cell = 0; step = 0 })
    ∷ passing 2 (record { kind = entry; cell = 7; step = 0 })
    ∷ finish
    ∷ [])
    ∷ (start
    ∷ passing 1 (record { kind = entry; cell = 0; step = 0 })
    ∷ passing 1 (record { kind = leave; cell = 0; step = 0 })
    ∷ passing 1 (record { kind = approach; cell = 1; step = 1 })
    ∷ passing 1 (record { kind = entry; cell = 1; step = 1 })
    ∷ passing 1 (record { kind = leave; cell = 1; step = 1 })
    ∷ passing 1 (record { kind = approach; cell = 2; step = 3 })
    ∷ passing 1 (record { kind = entry; cell = 2; step = 3 })
    ∷ finish
    ∷ [])
    ∷ []
unfolding open_network plan_of waiting a_wait
events_follow = refl

-- one move at 300,000, without a slowest speed and with one: each part is rounded by itself, lo up and hi down
moves_follow : map (λ (ts : Tables). bounds (plan_of ts)) (a_to_b "300000," ∷ a_to_b "300000,300000" ∷ [])
    ≡ (bound 0 1 0 (Some 0) ∷ bound 1 2 834 None ∷ bound 2 3 1667 None ∷ bound 3 4 834 None ∷ bound 4 5 0 None ∷ [])
    ∷ (bound 0 1 0 (Some 0) ∷ bound 1 2 834 (Some 833) ∷ bound 2 3 1667 (Some 1666) ∷ bound 3 4 834 (Some 833) ∷ bound 4 5 0 None ∷ [])
    ∷ []
unfolding open_network plan_of bound
moves_follow = refl

-- the first part and the third are as long as the margin, the second is the rest
parts_follow : bounds (plan_of (tables ("4,3,10,3" ∷ []) ("1000," ∷ []) ("3,4" ∷ [])))
    ≡ bound 0 1 0 (Some 0) ∷ bound 1 2 3 None ∷ bound 2 3 4 None ∷ bound 3 4 3 None ∷ bound 4 5 0 None ∷ []
unfolding open_network plan_of bound
parts_follow = refl

-- a leave point, and an approach point, to be passed in this order
then : ℕ → ℕ → Bound
then u v = bound u v 0 None

-- each earlier visit is bound to the first later one of each other cart
orders_follow : map (λ (ts : Tables). order_bounds (routes_of (plan_of ts))) (the_pair "250000," ∷ twice_entered ∷ crossing "250000," ∷ [])
    ≡ (then 8 22 ∷ then 11 25 ∷ then 15 3 ∷ then 18 6 ∷ [])
    ∷ (then 2 7 ∷ [])
    ∷ (then 5 10 ∷ then 5 17 ∷ then 12 17 ∷ [])
    ∷ []
unfolding open_network plan_of bound then
orders_follow = refl

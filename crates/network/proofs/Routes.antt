-- What the routes of a plan are: the i-th cart's, with the visits of the i-th path, numbered one route after the other from 1 on.
-- Assumes nothing.
use Prim.Native.Nat.{ℕ, suc, ◌+◌, ◌≤◌, ◌<◌}
use native.Mathlib.Omega.{arith}
use mathlib.Core.Path.{◌≡◌, refl, sym, subst}
use mathlib.Core.Logic.{⊎_elim}
use mathlib.Core.List.Memᴰ
use mathlib.Core.List.{List, [], ◌∷◌, map, flat_map, Memᴰ}
use lib.ListN.{length, get_or, length-append, length-map}
use Rattle.floor.specs.Plan.{Plan}
use Rattle.floor.specs.declared.Cart.{Cart}
use Rattle.network.specs.Events.{visits_of, points, Route, routes, routes_of, route_points, finish, passing, events, event_count}
use Rattle.laws.proofs.Members.{at_place}

-- where a route comes from, among those of carts from number j on whose events are numbered from e on
pub record From (j e : ℕ) (cs : List Cart) (ps : List (List ℕ)) (r : Route) : Type 0 where
  pub place : ℕ
  pub among : place < length ps
  pub numbered : r.number ≡ j + place
  pub driven : Memᴰ r.cart cs
  pub visited : r.visits ≡ visits_of (get_or ps place [])
  pub least : e ≤ r.first
  pub most : r.first + length (route_points r) ≤ e + length (flat_map route_points (routes j e cs ps))

-- the first route
from_here : (j e : ℕ) (c : Cart) (cs : List Cart) (p : List ℕ) (ps : List (List ℕ))
    → From j e (c ∷ cs) (p ∷ ps) (record { number = j; cart = c; visits = visits_of p; first = e })
unfolding routes flat_map route_points
from_here j e c cs p ps =
    record {
      place = 0;
      among = omega arith;
      numbered = omega arith;
      driven = Memᴰ.head refl;
      visited = refl;
      least = omega arith;
      most = omega (arith, length-append (points (visits_of p)) (flat_map route_points (routes (suc j) (e + length (points (visits_of p))) cs ps)));
    }

-- a later one
from_there : (j e : ℕ) (c : Cart) (cs : List Cart) (p : List ℕ) (ps : List (List ℕ)) (r : Route)
    → From (suc j) (e + length (points (visits_of p))) cs ps r → From j e (c ∷ cs) (p ∷ ps) r
unfolding routes flat_map route_points
from_there j e c cs p ps r h =
    record {
      place = suc h.place;
      among = omega (arith, h.among);
      numbered = omega (arith, h.numbered);
      driven = Memᴰ.tail h.driven;
      visited = h.visited;
      least = omega (arith, h.least);
      most = omega (arith, h.most, length-append (points (visits_of p)) (flat_map route_points (routes (suc j) (e + length (points (visits_of p))) cs ps)));
    }

-- every route comes from somewhere: the first, or one of the later
route_from : (cs : List Cart) (ps : List (List ℕ)) (j e : ℕ) (r : Route) → Memᴰ r (routes j e cs ps) → From j e cs ps r
unfolding routes
route_from [] ps j e r m = absurd (Memᴰ.not-nil m)
route_from (c ∷ cs) [] j e r m = absurd (Memᴰ.not-nil m)
route_from (c ∷ cs) (p ∷ ps) j e r m =
    ⊎_elim
    (λ q. subst (From j e (c ∷ cs) (p ∷ ps)) (sym q) (from_here j e c cs p ps))
    (λ t. from_there j e c cs p ps r (route_from cs ps (suc j) (e + length (points (visits_of p))) r t))
    (Memᴰ.cases_cons m)

-- of a plan's routes
abbrev pub Origin : Plan → Route → Type 0
Origin p = From 1 1 p.carts p.paths

-- every route of a plan does
pub origin : (p : Plan) (r : Route) → Memᴰ r (routes_of p) → Origin p r
unfolding routes_of
origin p r m = route_from p.carts p.paths 1 1 r m

-- its path is one of the plan's
pub path_there : (p : Plan) (r : Route) (o : Origin p r) → Memᴰ (get_or p.paths o.place []) p.paths
path_there p r o = at_place p.paths o.place [] o.among

-- a plan with a cart and a path has a route
pub some_route : (p : Plan) → 1 ≤ length p.carts → 1 ≤ length p.paths → (r : Route) × Memᴰ r (routes_of p)
unfolding routes_of routes
some_route p c q = first_of p.carts p.paths c q
  where
    first_of : (cs : List Cart) (ps : List (List ℕ)) → 1 ≤ length cs → 1 ≤ length ps → (r : Route) × Memᴰ r (routes 1 1 cs ps)
    first_of [] ps c q = absurd (omega arith)
    first_of (x ∷ cs) [] c q = absurd (omega arith)
    first_of (x ∷ cs) (y ∷ ps) c q = (record { number = 1; cart = x; visits = visits_of y; first = 1 }, Memᴰ.head refl)

-- ---- how many points there are

-- events are the points, one for one
length_passing : (rs : List Route) → length (flat_map (λ (r : Route). map (passing r.number) (route_points r)) rs) ≡ length (flat_map route_points rs)
unfolding flat_map
length_passing [] = refl
length_passing (r ∷ rs) =
    omega (
      arith,
      length-append (map (passing r.number) (route_points r)) (flat_map (λ (r : Route). map (passing r.number) (route_points r)) rs),
      length-append (route_points r) (flat_map route_points rs),
      length-map (route_points r) (passing r.number),
      length_passing rs,
    )

-- and the start and the finish
pub event_count_is : (p : Plan) → event_count p ≡ 2 + length (flat_map route_points (routes_of p))
unfolding events event_count
event_count_is p =
    omega (
      arith,
      length-append (flat_map (λ (r : Route). map (passing r.number) (route_points r)) (routes_of p)) (finish ∷ []),
      length_passing (routes_of p),
    )

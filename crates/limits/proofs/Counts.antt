-- How many events and bounds there are goes by the paths alone, and is what `specs.Counts` counts. Assumes nothing.
use Rattle.std.specs.Prelude.{Some}
use Prim.Native.Nat.{ℕ, suc, ◌+◌, ◌*◌}
use native.Mathlib.Omega.{arith}
use mathlib.Core.Path.{◌≡◌, refl, ap, sym, ◌∙◌}
use mathlib.Core.Bool.{Bool, true, false, ◌&&◌, cond}
use mathlib.Core.List.{List, [], ◌∷◌, ◌++◌, flat_map}
use lib.Dec.{leb, eqb}
use lib.ListN.{length, length-append, length-map}
use Rattle.floor.specs.Plan.{Plan}
use Rattle.floor.specs.declared.Road.{Road}
use Rattle.floor.specs.declared.Cart.{Cart}
use Rattle.network.specs.Events.{Visit, visits_after, visits_of, points, Route, routes, routes_of, route_points, event_count, last_event, finish_event}
use Rattle.network.specs.Bounds.{Bound, no_earlier, Part, route_parts, part_bounds, start_bounds, travel_bounds, order_bounds, finish_bounds, bounds}
use Rattle.limits.specs.Limits.{of_paths, limits_kept}
use Rattle.limits.specs.Counts.{total, moves_after, moves, stops, orders_among}
use Rattle.network.proofs.Routes.{event_count_is}
use Rattle.network.proofs.Ends.{parts_after_length}
use Rattle.network.proofs.VisitPoints.{points_after_length}
use Rattle.limits.proofs.RowBounds.{of_paths_carts, order_count_is}

-- ---- events

-- one visit for each move, and the first
pub visits_after_moves : (ds : List ℕ) (c t : ℕ) → length (visits_after c t ds) ≡ moves_after c ds
unfolding visits_after moves_after
visits_after_moves [] c t = refl
visits_after_moves (d ∷ ds) c t = by (eqb c d) (visits_after_moves ds d (suc t))
  where
    by : (b : Bool) → length (visits_after d (suc t) ds) ≡ moves_after d ds
        → length (cond b (visits_after d (suc t) ds) (record { step = t; cell = d } ∷ visits_after d (suc t) ds)) ≡ cond b (moves_after d ds) (suc (moves_after d ds))
    by true e = e
    by false e = ap suc e

-- the points of a path
abbrev pub path_points : List ℕ → ℕ
path_points q = length (points (visits_of q))

-- three for each move, and the first entry
pub point_count : (c : ℕ) (cs : List ℕ) → path_points (c ∷ cs) ≡ suc (3 * moves (c ∷ cs))
unfolding visits_of moves points
point_count c cs = ap suc (points_after_length (record { step = 0; cell = c }) (visits_after c 1 cs) ∙ ap (λ (n : ℕ). 3 * n) (visits_after_moves cs c 1))

-- of all routes
routes_points : (cs : List Cart) (ps : List (List ℕ)) (j e : ℕ) → length cs ≡ length ps → length (flat_map route_points (routes j e cs ps)) ≡ total path_points ps
unfolding flat_map routes route_points total
routes_points [] [] j e h = refl
routes_points [] (p ∷ ps) j e h = absurd (omega arith)
routes_points (c ∷ cs) [] j e h = absurd (omega arith)
routes_points (c ∷ cs) (p ∷ ps) j e h =
    omega (
      arith,
      length-append (points (visits_of p)) (flat_map route_points (routes (suc j) (e + length (points (visits_of p))) cs ps)),
      routes_points cs ps (suc j) (e + length (points (visits_of p))) (omega arith),
    )

-- the events of a plan
pub events_are : (p : Plan) → length p.carts ≡ length p.paths → event_count p ≡ 2 + total path_points p.paths
unfolding routes_of
events_are p h = omega (arith, event_count_is p, routes_points p.carts p.paths 1 1 h)

-- ---- start, travel and finish bounds

-- as many routes as paths
pub route_count : (cs : List Cart) (ps : List (List ℕ)) (j e : ℕ) → length cs ≡ length ps → length (routes j e cs ps) ≡ length ps
unfolding routes
route_count [] [] j e h = refl
route_count [] (p ∷ ps) j e h = absurd (omega arith)
route_count (c ∷ cs) [] j e h = absurd (omega arith)
route_count (c ∷ cs) (p ∷ ps) j e h = ap suc (route_count cs ps (suc j) (e + length (points (visits_of p))) (omega arith))

-- a bound for each part
part_count : (c : Cart) (e : ℕ) (ps : List Part) → length (part_bounds c e ps) ≡ length ps
unfolding part_bounds
part_count c e [] = refl
part_count c e (p ∷ ps) = ap suc (part_count c (suc e) ps)

-- three for each move of a path
pub travel_count : (roads : List Road) (c : Cart) (e : ℕ) (q : List ℕ) → length (part_bounds c e (route_parts roads c (visits_of q))) ≡ 3 * moves q
unfolding visits_of route_parts part_bounds moves
travel_count roads c e [] = refl
travel_count roads c e (d ∷ ds) =
    let x : Visit = record { step = 0; cell = d } in
    part_count c e (route_parts roads c (visits_of (d ∷ ds)))
    ∙ parts_after_length roads c x (visits_after d 1 ds)
    ∙ points_after_length x (visits_after d 1 ds)
    ∙ ap (λ (n : ℕ). 3 * n) (visits_after_moves ds d 1)

-- of all routes
pub travels_count : (roads : List Road) (cs : List Cart) (ps : List (List ℕ)) (j e : ℕ) → length cs ≡ length ps
    → length (travel_bounds roads (routes j e cs ps)) ≡ 3 * total moves ps
unfolding travel_bounds flat_map routes total
travels_count roads [] [] j e h = refl
travels_count roads [] (p ∷ ps) j e h = absurd (omega arith)
travels_count roads (c ∷ cs) [] j e h = absurd (omega arith)
travels_count roads (c ∷ cs) (p ∷ ps) j e h =
    let f : ℕ = e + length (points (visits_of p)) in
    omega (
      arith,
      length-append (part_bounds c e (route_parts roads c (visits_of p))) (travel_bounds roads (routes (suc j) f cs ps)),
      travel_count roads c e p,
      travels_count roads cs ps (suc j) f (omega arith),
    )

-- ---- all bounds

-- one start bound for each route
pub start_count : (rs : List Route) → length (start_bounds rs) ≡ length rs
unfolding start_bounds
start_count rs = length-map rs (λ (r : Route). record { from = 0; to = r.first; lo = 0; hi = Some 0 })

-- and one finish bound
finish_count : (f : ℕ) (rs : List Route) → length (finish_bounds f rs) ≡ length rs
unfolding finish_bounds
finish_count f rs = length-map rs (λ (r : Route). no_earlier (last_event r) f)

-- the bounds of a plan
pub bounds_are : (p : Plan) → length p.carts ≡ length p.paths
    → length (bounds p) ≡ 2 * length p.paths + 3 * total moves p.paths + orders_among (stops 1 p.paths)
unfolding bounds routes_of
bounds_are p h =
    let rs : List Route = routes_of p in
    let travel : List Bound = travel_bounds p.roads rs in
    let order : List Bound = order_bounds rs in
    let finish : List Bound = finish_bounds (finish_event p) rs in
    omega (
      arith,
      length-append (start_bounds rs) (travel ++ (order ++ finish)),
      length-append travel (order ++ finish),
      length-append order finish,
      start_count rs,
      finish_count (finish_event p) rs,
      route_count p.carts p.paths 1 1 h,
      travels_count p.roads p.carts p.paths 1 1 h,
      order_count_is p h,
    )

-- ---- the limits

-- they go by the paths alone
pub limits_by_paths : (p : Plan) → length p.carts ≡ length p.paths → limits_kept p ≡ limits_kept (of_paths p.paths)
unfolding limits_kept of_paths
limits_by_paths p h =
    let q : Plan = of_paths p.paths in
    let same : length q.carts ≡ length p.paths = of_paths_carts p.paths in
    let e : event_count p ≡ event_count q = events_are p h ∙ sym (events_are q same) in
    let b : length (bounds p) ≡ length (bounds q) = bounds_are p h ∙ sym (bounds_are q same) in
    ap (λ (n : ℕ). leb n 4096 && leb (length (bounds p)) 8192) e ∙ ap (λ (n : ℕ). leb (event_count q) 4096 && leb n 8192) b

-- counted
pub limits_are : (ps : List (List ℕ))
    → limits_kept (of_paths ps) ≡ (leb (2 + total path_points ps) 4096 && leb (2 * length ps + 3 * total moves ps + orders_among (stops 1 ps)) 8192)
unfolding limits_kept of_paths
limits_are ps =
    let q : Plan = of_paths ps in
    let same : length q.carts ≡ length ps = of_paths_carts ps in
    ap (λ (n : ℕ). leb n 4096 && leb (length (bounds q)) 8192) (events_are q same)
    ∙ ap (λ (n : ℕ). leb (2 + total path_points ps) 4096 && leb n 8192) (bounds_are q same)

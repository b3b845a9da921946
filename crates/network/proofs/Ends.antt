-- Where bounds begin and end: every one goes between events, and every event but the start is entered by one from before it.
-- Assumes nothing.
use Rattle.std.specs.Prelude.{Some, Ok}
use Prim.Native.Nat.{ℕ, zero, suc, ◌+◌, ◌-◌, ◌≤◌, ◌<◌}
use native.Mathlib.Nat.{eq-or-lt_of_le}
use native.Mathlib.Omega.{arith}
use mathlib.Core.Path.{◌≡◌, refl, ap, sym, ◌∙◌, subst}
use mathlib.Core.Logic.{⊎_elim}
use mathlib.Core.Bool.{Bool, true, false, ◌&&◌, cond}
use mathlib.Core.List.{List, [], ◌∷◌, ◌++◌, flat_map, Memᴰ}
use lib.Dec.{T, eqb, eqb→eq}
use lib.ListN.{length, get_or}
use mir.Facts.{and_yes}
use Rattle.laws.proofs.Options.{none-ne-some, some-injective}
use Rattle.floor.specs.Plan.{Plan}
use Rattle.floor.specs.declared.Road.{Road}
use Rattle.floor.specs.declared.Cart.{Cart}
use Rattle.floor.specs.Tables.{Tables}
use Rattle.floor.proofs.Accepted.{Sound}
use Rattle.network.specs.Events.{Visit, visits_of, Kind, approach, entry, leave, Point, points, points_after, Route, routes, routes_of, route_points, event_count, finish_event, places, route_events, last_event, same_kind, find_point, event_of}
use Rattle.network.specs.Bounds.{Bound, no_earlier, part_lengths, Part, parts, parts_after, route_parts, part_bounds, bounds}
use Rattle.network.specs.Judge.{judge}
use Rattle.laws.proofs.Members.{of_flat}
use Rattle.network.proofs.Places.{places_append, places_within, in_places}
use Rattle.network.proofs.Judged.{judged_sound}
use Rattle.network.proofs.Sorts.{along, Sort, starts, travels, orders, finishes, sort_of, start_there, travel_there, finish_there, start_in, travel_in, finish_in}
use Rattle.network.proofs.Routes.{Origin, origin, path_there, some_route, event_count_is}

-- ---- the numbers of the points

-- the numbers of the routes' points, one route after the other, are the numbers in a row
numbers_in_row : (cs : List Cart) (ps : List (List ℕ)) (j e : ℕ)
    → flat_map route_events (routes j e cs ps) ≡ places e (flat_map route_points (routes j e cs ps))
unfolding routes flat_map route_events route_points places
numbers_in_row [] ps j e = refl
numbers_in_row (c ∷ cs) [] j e = refl
numbers_in_row (c ∷ cs) (p ∷ ps) j e =
    ap (λ (l : List ℕ). places e (points (visits_of p)) ++ l) (numbers_in_row cs ps (suc j) (e + length (points (visits_of p))))
    ∙ sym (places_append e (points (visits_of p)) (flat_map route_points (routes (suc j) (e + length (points (visits_of p))) cs ps)))

-- they go from 1 on, and the start and the finish are two more events
pub event_numbers : (p : Plan) → (flat_map route_events (routes_of p) ≡ places 1 (flat_map route_points (routes_of p)))
    × (event_count p ≡ 2 + length (flat_map route_points (routes_of p)))
unfolding routes_of
event_numbers p = (numbers_in_row p.carts p.paths 1 1, event_count_is p)

-- a route's points lie between the start and the finish
pub route_within : (p : Plan) (r : Route) → Memᴰ r (routes_of p) → (1 ≤ r.first) × (suc (r.first + length (route_points r)) ≤ event_count p)
unfolding routes_of
route_within p r m = let o : Origin p r = origin p r m in (o.least, omega (arith, o.most, event_count_is p))

-- a path with a cell has a first visit
first_visit : (q : List ℕ) → 1 ≤ length q → (x : Visit) × (xs : List Visit) × (visits_of q ≡ x ∷ xs)
unfolding visits_of
first_visit [] h = absurd (omega arith)
first_visit (c ∷ cs) h = (_, _, refl)

-- so has every route of a sound plan
pub some_visit : (p : Plan) → Sound p → (r : Route) → Memᴰ r (routes_of p) → (x : Visit) × (xs : List Visit) × (r.visits ≡ x ∷ xs)
some_visit p s r m =
    let o : Origin p r = origin p r m in
    let (x, xs, e) = first_visit (get_or p.paths o.place []) (s.some_step _ (path_there p r o)) in
    (x, xs, o.visited ∙ e)

-- the first of a route's points is the entry of its first visit
pub route_first : (p : Plan) → Sound p → (r : Route) → Memᴰ r (routes_of p)
    → (rest : List ℕ) × (route_events r ≡ r.first ∷ rest)
    × ((e : ℕ) → Memᴰ e (route_events r) → (0 < e) × (e + 1 < event_count p))
unfolding route_events route_points points places
route_first p s r m =
    let (x, xs, q) = some_visit p s r m in
    let (least, most) = route_within p r m in (
      places (suc r.first) (points_after x xs),
      ap (λ (v : List Visit). places r.first (points v)) q,
      λ e n. let (l, h) = places_within r.first (route_points r) e n in (omega (arith, l, least), omega (arith, h, most)),
    )

-- "Start bounds, by cart": a route's first point has one
pub first_bound : (p : Plan) (r : Route) → Memᴰ r (routes_of p)
    → Memᴰ (record { from = 0; to = r.first; lo = 0; hi = Some 0 }) (bounds p)
first_bound p r m = start_there p _ (start_in (routes_of p) r m)

-- ---- the points that event_of finds

-- kinds that the test finds the same are the same
pub same_kind_is : (k l : Kind) → T (same_kind k l) → l ≡ k
unfolding same_kind
same_kind_is approach approach t = refl
same_kind_is approach entry t = absurd t
same_kind_is approach leave t = absurd t
same_kind_is entry approach t = absurd t
same_kind_is entry entry t = refl
same_kind_is entry leave t = absurd t
same_kind_is leave approach t = absurd t
same_kind_is leave entry t = absurd t
same_kind_is leave leave t = refl

-- what is found among points numbered from e on: the number of one of them, of that kind and step
pub found : (k : Kind) (t e : ℕ) (ps : List Point) (v : ℕ) (d : Point) → find_point k t e ps ≡ Some v
    → (i : ℕ) × (v ≡ e + i) × (i < length ps) × ((get_or ps i d).kind ≡ k) × ((get_or ps i d).step ≡ t)
unfolding find_point
found k t e [] v d q = absurd (none-ne-some _ q)
found k t e (p ∷ ps) v d q = by (same_kind k p.kind && eqb t p.step) refl q (found k t (suc e) ps v d)
  where
    by : (b : Bool) → (same_kind k p.kind && eqb t p.step) ≡ b → cond b (Some e) (find_point k t (suc e) ps) ≡ Some v
        → (find_point k t (suc e) ps ≡ Some v → (i : ℕ) × (v ≡ suc e + i) × (i < length ps) × ((get_or ps i d).kind ≡ k) × ((get_or ps i d).step ≡ t))
        → (i : ℕ) × (v ≡ e + i) × (i < length (p ∷ ps)) × ((get_or (p ∷ ps) i d).kind ≡ k) × ((get_or (p ∷ ps) i d).step ≡ t)
    by true b q rest =
        let (kind, step) = and_yes (same_kind k p.kind) (eqb t p.step) (subst T (sym b) tt) in
        (0, omega (arith, some-injective _ _ q), omega arith, same_kind_is k p.kind kind, sym (eqb→eq t p.step step))
    by false b q rest = let (i, v_is, l, kind, step) = rest q in (suc i, omega (arith, v_is), omega (arith, l), kind, step)

-- of a route's points
pub event_found : (k : Kind) (r : Route) (x : Visit) (v : ℕ) (d : Point) → event_of k r x ≡ Some v
    → (i : ℕ) × (v ≡ r.first + i) × (i < length (route_points r)) × ((get_or (route_points r) i d).kind ≡ k) × ((get_or (route_points r) i d).step ≡ x.step)
unfolding event_of
event_found k r x v d q = found k x.step r.first (route_points r) v d q

-- so it is an event of the plan, neither the start nor the finish
event_within : (p : Plan) (k : Kind) (r : Route) (x : Visit) (v : ℕ) → Memᴰ r (routes_of p) → event_of k r x ≡ Some v → v < event_count p
event_within p k r x v m q =
    let (i, v_is, l, _, _) = event_found k r x v (record { kind = k; cell = 0; step = 0 }) q in
    let (_, most) = route_within p r m in
    omega (arith, v_is, l, most)

-- ---- the parts of a route's moves

-- three points for every three parts
pub parts_after_length : (roads : List Road) (c : Cart) (x : Visit) (ys : List Visit) → length (parts_after roads c x ys) ≡ length (points_after x ys)
unfolding parts_after points_after parts part_lengths
parts_after_length roads c x [] = refl
parts_after_length roads c x (y ∷ ys) = ap (λ (n : ℕ). suc (suc (suc n))) (parts_after_length roads c y ys)

-- one part fewer than points
pub parts_length : (roads : List Road) (c : Cart) (vs : List Visit) → 1 ≤ length (points vs) → suc (length (route_parts roads c vs)) ≡ length (points vs)
unfolding route_parts points
parts_length roads c [] h = absurd (omega arith)
parts_length roads c (x ∷ xs) h = ap suc (parts_after_length roads c x xs)

-- a part's bound goes from one number to the next
pub part_bound_ends : (c : Cart) (e : ℕ) (ps : List Part) (b : Bound) → Memᴰ b (part_bounds c e ps)
    → (i : ℕ) × (i < length ps) × (b.from ≡ e + i) × (b.to ≡ suc (e + i))
unfolding part_bounds
part_bound_ends c e [] b m = absurd (mathlib.Core.List.Memᴰ.not-nil m)
part_bound_ends c e (p ∷ ps) b m =
    ⊎_elim
    (λ q. (0, omega arith, ap (λ (x : Bound). x.from) q ∙ omega arith, ap (λ (x : Bound). x.to) q ∙ omega arith))
    (λ t. let (i, l, from, to) = part_bound_ends c (suc e) ps b t in (suc i, omega (arith, l), omega (arith, from), omega (arith, to)))
    (mathlib.Core.List.Memᴰ.cases_cons m)

-- and each part has one
pub part_bound_at : (c : Cart) (e : ℕ) (ps : List Part) (i : ℕ) → i < length ps
    → (b : Bound) × Memᴰ b (part_bounds c e ps) × (b.from ≡ e + i) × (b.to ≡ suc (e + i))
unfolding part_bounds
part_bound_at c e [] i l = absurd (omega arith)
part_bound_at c e (p ∷ ps) zero l = (_, mathlib.Core.List.Memᴰ.head refl, omega arith, omega arith)
part_bound_at c e (p ∷ ps) (suc i) l =
    let (b, m, from, to) = part_bound_at c (suc e) ps i (omega arith) in (b, mathlib.Core.List.Memᴰ.tail m, omega (arith, from), omega (arith, to))

-- a route of a sound plan has a point
pub some_point : (p : Plan) → Sound p → (r : Route) → Memᴰ r (routes_of p) → 1 ≤ length (route_points r)
unfolding route_points points
some_point p s r m =
    let (x, xs, q) = some_visit p s r m in
    subst (λ (v : List Visit). 1 ≤ length (points v)) (sym q) (omega arith)

-- a travel bound's ends lie among its route's points
pub along_ends : (p : Plan) → Sound p → (r : Route) → Memᴰ r (routes_of p) → (b : Bound) → Memᴰ b (along p.roads r)
    → (i : ℕ) × (suc i < length (route_points r)) × (b.from ≡ r.first + i) × (b.to ≡ suc (r.first + i))
unfolding route_points
along_ends p s r m b n =
    let (i, l, from, to) = part_bound_ends r.cart r.first (route_parts p.roads r.cart r.visits) b n in
    let count : _ = parts_length p.roads r.cart r.visits (some_point p s r m) in
    (i, omega (arith, l, count), from, to)

-- and between every two successive points there is one
pub along_at : (p : Plan) → Sound p → (r : Route) → Memᴰ r (routes_of p) → (i : ℕ) → suc i < length (route_points r)
    → (b : Bound) × Memᴰ b (along p.roads r) × (b.from ≡ r.first + i) × (b.to ≡ suc (r.first + i))
unfolding route_points
along_at p s r m i l =
    let count : _ = parts_length p.roads r.cart r.visits (some_point p s r m) in
    part_bound_at r.cart r.first (route_parts p.roads r.cart r.visits) i (omega (arith, l, count))

-- ---- every bound goes between events

-- both ends are events
abbrev pub BetweenEvents : Plan → Bound → Type 0
BetweenEvents p b = (b.from < event_count p) × (b.to < event_count p)

-- of each sort: its ends are the start, the finish or points of a route, and a route of a sound plan has a point
between_sort : (p : Plan) → Sound p → (b : Bound) → Sort p b → BetweenEvents p b
unfolding no_earlier last_event finish_event
between_sort p s b (starts r m e) =
    let (least, most) = route_within p r m in
    subst (BetweenEvents p) (sym e) (omega (arith, least, most), omega (arith, some_point p s r m, most))
between_sort p s b (travels r m i) =
    let (n, l, from, to) = along_ends p s r m b i in
    let (_, most) = route_within p r m in
    (omega (arith, l, from, most), omega (arith, l, to, most))
between_sort p s b (orders o) =
    subst (BetweenEvents p) (sym o.is)
    (event_within p leave o.j o.x o.behind o.j_there o.leaves, event_within p approach o.k o.y o.before o.k_there o.approaches)
between_sort p s b (finishes r m e) =
    let (_, most) = route_within p r m in subst (BetweenEvents p) (sym e) (omega (arith, some_point p s r m, most), omega (arith, most))

-- of every sound plan
pub sound_bounds_between : (p : Plan) → Sound p → (b : Bound) → Memᴰ b (bounds p) → BetweenEvents p b
sound_bounds_between p s b m = between_sort p s b (sort_of p b m)

-- of every accepted plan
pub bounds_between : (ts : Tables) (p : Plan) → judge ts ≡ Ok p → (b : Bound) → Memᴰ b (bounds p) → (b.from < event_count p) × (b.to < event_count p)
bounds_between ts p e b m = sound_bounds_between p (judged_sound ts p e) b m

-- ---- every event but the start is entered

-- by a bound from an event before it
abbrev pub Entered : Plan → ℕ → Type 0
Entered p e = (b : Bound) × Memᴰ b (bounds p) × (b.to ≡ e) × (b.from < e)

-- the finish, by the finish bound of any route
finish_entered : (p : Plan) → Sound p → (e : ℕ) → suc e ≡ event_count p → Entered p e
unfolding no_earlier finish_event last_event
finish_entered p s e q =
    let (r, m) = some_route p s.some_cart (omega (arith, s.some_cart, s.path_each)) in
    let (_, most) = route_within p r m in (
      no_earlier (last_event r) (finish_event p),
      finish_there p _ (finish_in (finish_event p) (routes_of p) r m),
      omega (arith, q),
      omega (arith, some_point p s r m, most, q),
    )

-- a route's first point by its start bound, a later one by the travel bound from the point before
point_entered : (p : Plan) → Sound p → (r : Route) → Memᴰ r (routes_of p) → (e : ℕ) → r.first ≤ e → e < r.first + length (route_points r) → Entered p e
point_entered p s r m e l h = ⊎_elim first_one later_one (eq-or-lt_of_le l)
  where
    first_one : r.first ≡ e → Entered p e
    first_one q = (_, first_bound p r m, q, omega (arith, q, (route_within p r m).0))

    later_one : r.first < e → Entered p e
    later_one k =
        let (b, n, from, to) = along_at p s r m (e - suc r.first) (omega (arith, k, h)) in
        (b, travel_there p b (travel_in p.roads (routes_of p) r b m n), omega (arith, to, k), omega (arith, from, k))

-- every number but 0 is that of the finish or of a point of a route
pub sound_entered : (p : Plan) → Sound p → (e : ℕ) → 0 < e → e < event_count p → Entered p e
unfolding route_events
sound_entered p s e l h = ⊎_elim (λ q. finish_entered p s e q) inner (eq-or-lt_of_le h)
  where
    inner : suc e < event_count p → Entered p e
    inner k =
        let (row, count) = event_numbers p in
        let there : Memᴰ e (flat_map route_events (routes_of p)) =
        subst (λ (x : List ℕ). Memᴰ e x) (sym row) (in_places 1 (flat_map route_points (routes_of p)) e l (omega (arith, k, count)))
        in
        let (r, m, n) = of_flat route_events (routes_of p) e there in
        let (least, most) = places_within r.first (route_points r) e n in
        point_entered p s r m e least most

-- of every accepted plan
pub entered : (ts : Tables) (p : Plan) → judge ts ≡ Ok p → (e : ℕ) → 0 < e → e < event_count p
    → (b : Bound) × Memᴰ b (bounds p) × (b.to ≡ e) × (b.from < e)
entered ts p q e l h = sound_entered p (judged_sound ts p q) e l h

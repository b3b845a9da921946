-- No bound of an accepted plan runs backwards: each goes from a lower level to a higher one. Assumes nothing.
use Rattle.std.specs.Prelude.{Some, Ok}
use Prim.Native.Nat.{ℕ, suc, ◌+◌, ◌*◌, ◌-◌, ◌≤◌, ◌<◌}
use native.Mathlib.Omega.{arith}
use mathlib.Core.Path.{◌≡◌, refl, ap, ap₂, sym, ◌∙◌, subst}
use mathlib.Core.Logic.{⊎_elim}
use mathlib.Core.List.Memᴰ
use mathlib.Core.List.{List, [], ◌∷◌, Memᴰ}
use lib.ListN.{length, get_or}
use Rattle.floor.specs.Plan.{Plan}
use Rattle.floor.specs.Paths.{steps}
use Rattle.floor.specs.Tables.{Tables}
use Rattle.floor.proofs.Accepted.{Sound}
use Rattle.network.specs.Events.{Visit, Kind, approach, leave, Point, point, points_after, points, Route, routes_of, route_points, start, passing, events, event_count, finish_event, last_event, event_of}
use Rattle.network.specs.Bounds.{Bound, no_earlier, bounds}
use Rattle.network.specs.Judge.{judge}
use Rattle.network.specs.Levels.{kind_level, point_level, level, level_of}
use Rattle.network.proofs.Judged.{judged_sound}
use Rattle.laws.proofs.Members.{at_place, any_default}
use Rattle.network.proofs.Routes.{origin}
use Rattle.network.proofs.Sorts.{first_later_is, Order, Sort, starts, travels, orders, finishes, sort_of}
use Rattle.network.proofs.Ends.{route_within, some_point, event_found, along_ends}
use Rattle.laws.proofs.Rising.{rising_apart}
use Rattle.network.proofs.Visits.{route_rises, visit_there}
use Rattle.network.proofs.VisitPoints.{points_rise, kind_most, no_point}
use Rattle.network.proofs.Places.{point_placed, finish_placed}

-- ---- levels of the events

-- the start's
start_level : (p : Plan) → level_of p 0 ≡ 0
unfolding events level level_of
start_level p = refl

-- the finish's
finish_level : (p : Plan) → level_of p (finish_event p) ≡ 3 * steps p.paths
unfolding level level_of
finish_level p = ap (level p) (finish_placed p)

-- that of a route's i-th point
pub point_level_at : (p : Plan) (r : Route) → Memᴰ r (routes_of p) → (i : ℕ) (d : Point) → i < length (route_points r)
    → level_of p (r.first + i) ≡ point_level (get_or (route_points r) i d)
unfolding level level_of event_count
point_level_at p r m i d l =
    let (_, most) = route_within p r m in
    ap (level p) (any_default (events p) (r.first + i) start (passing r.number d) (omega (arith, most, l)) ∙ point_placed p r m i d l)

-- ---- points lie between the start and the finish

-- a point's step is that of a visit
points_after_step : (x : Visit) (ys : List Visit) (q : Point) → Memᴰ q (points_after x ys) → (v : Visit) × Memᴰ v (x ∷ ys) × (q.step ≡ v.step)
unfolding points_after point
points_after_step x [] q m = absurd (Memᴰ.not-nil m)
points_after_step x (y ∷ ys) q m =
    ⊎_elim (λ e. (x, Memᴰ.head refl, ap (λ (z : Point). z.step) e))
    (λ m. ⊎_elim (λ e. (y, Memᴰ.tail (Memᴰ.head refl), ap (λ (z : Point). z.step) e))
    (λ m. ⊎_elim (λ e. (y, Memᴰ.tail (Memᴰ.head refl), ap (λ (z : Point). z.step) e))
    (λ m. let (v, n, e) = points_after_step y ys q m in (v, Memᴰ.tail n, e))
    (Memᴰ.cases_cons m))
    (Memᴰ.cases_cons m))
    (Memᴰ.cases_cons m)

-- of all points of a route
points_step : (vs : List Visit) (q : Point) → Memᴰ q (points vs) → (v : Visit) × Memᴰ v vs × (q.step ≡ v.step)
unfolding points point
points_step [] q m = absurd (Memᴰ.not-nil m)
points_step (x ∷ xs) q m =
    ⊎_elim (λ e. (x, Memᴰ.head refl, ap (λ (z : Point). z.step) e)) (points_after_step x xs q) (Memᴰ.cases_cons m)

-- every point is below the finish
below_finish : (p : Plan) → Sound p → (r : Route) → Memᴰ r (routes_of p) → (q : Point) → Memᴰ q (route_points r)
    → point_level q < 3 * steps p.paths
unfolding route_points point_level
below_finish p s r m q n =
    let (v, there, e) = points_step r.visits q n in
    let (l, _) = visit_there p s r (origin p r m) v there in
    omega (arith, e, l, kind_most q.kind)

-- the first point, an entry, is above the start
above_start : (vs : List Visit) (d : Point) → 1 ≤ length (points vs) → 0 < point_level (get_or (points vs) 0 d)
unfolding points point point_level kind_level
above_start [] d h = absurd (omega arith)
above_start (x ∷ xs) d h = omega arith

-- ---- bounds

-- a bound that goes up
abbrev pub Up : Plan → Bound → Type 0
Up p b = level_of p b.from < level_of p b.to

-- from the start to an entry
start_up : (p : Plan) → Sound p → (r : Route) → Memᴰ r (routes_of p) → level_of p 0 < level_of p r.first
unfolding route_points
start_up p s r m =
    let one : 1 ≤ length (route_points r) = some_point p s r m in
    let same : r.first + 0 ≡ r.first = omega arith in
    let at : level_of p r.first ≡ point_level (get_or (route_points r) 0 no_point) = ap (level_of p) (sym same) ∙ point_level_at p r m 0 no_point one in
    omega (arith, start_level p, at, above_start r.visits no_point one)

-- from a point to the next
travel_up : (p : Plan) → Sound p → (r : Route) → Memᴰ r (routes_of p) → (i : ℕ) → suc i < length (route_points r)
    → level_of p (r.first + i) < level_of p (suc (r.first + i))
unfolding route_points
travel_up p s r m i l =
    let here : _ = point_level_at p r m i no_point (omega (arith, l)) in
    let there : _ = point_level_at p r m (suc i) no_point l in
    let same : r.first + suc i ≡ suc (r.first + i) = omega arith in
    let next : level_of p (r.first + suc i) ≡ level_of p (suc (r.first + i)) = ap (level_of p) same in
    let up : _ = rising_apart point_level (route_points r) i (suc i) no_point (points_rise r.visits (route_rises p r m)) (omega arith) l in
    omega (arith, here, there, next, up)

-- the level of a point of this kind of a visit
event_level : (p : Plan) (k : Kind) (r : Route) (x : Visit) (u : ℕ) → Memᴰ r (routes_of p) → event_of k r x ≡ Some u
    → level_of p u ≡ 3 * x.step + kind_level k
unfolding point_level
event_level p k r x u m e =
    let (i, u_is, l, kind, step) = event_found k r x u no_point e in
    ap (level_of p) u_is ∙ point_level_at p r m i no_point l ∙ ap₂ (λ (s : ℕ) (c : Kind). 3 * s + kind_level c) step kind

-- from a leave point to the approach point of a visit that begins later
order_up : (p : Plan) (b : Bound) (o : Order (routes_of p) b) → level_of p o.behind < level_of p o.before
unfolding kind_level
order_up p b o =
    let l : o.x.step < o.y.step = (first_later_is o.x o.k.visits o.y o.later).later in
    let low : _ = event_level p leave o.j o.x o.behind o.j_there o.leaves in
    let high : _ = event_level p approach o.k o.y o.before o.k_there o.approaches in
    omega (arith, l, low, high)

-- from a point to the finish
finish_up : (p : Plan) → Sound p → (r : Route) → Memᴰ r (routes_of p) → level_of p (last_event r) < level_of p (finish_event p)
unfolding last_event
finish_up p s r m =
    let n : ℕ = length (route_points r) in
    let one : 1 ≤ n = some_point p s r m in
    let l : n - 1 < n = omega (arith, one) in
    let same : r.first + n - 1 ≡ r.first + (n - 1) = omega (arith, one) in
    let at : level_of p (r.first + n - 1) ≡ point_level (get_or (route_points r) (n - 1) no_point) =
    ap (level_of p) same ∙ point_level_at p r m (n - 1) no_point l
    in
    let below : _ = below_finish p s r m (get_or (route_points r) (n - 1) no_point) (at_place (route_points r) (n - 1) no_point l) in
    omega (arith, at, below, finish_level p)

-- bounds of each sort do
rise_sort : (p : Plan) → Sound p → (b : Bound) → Sort p b → Up p b
unfolding no_earlier
rise_sort p s b (starts r m e) = subst (Up p) (sym e) (start_up p s r m)
rise_sort p s b (travels r m i) =
    let (n, l, from, to) = along_ends p s r m b i in
    let up : _ = travel_up p s r m n l in
    let from_is : level_of p b.from ≡ level_of p (r.first + n) = ap (level_of p) from in
    let to_is : level_of p b.to ≡ level_of p (suc (r.first + n)) = ap (level_of p) to in
    omega (arith, up, from_is, to_is)
rise_sort p s b (orders o) = subst (Up p) (sym o.is) (order_up p b o)
rise_sort p s b (finishes r m e) = subst (Up p) (sym e) (finish_up p s r m)

-- of every sound plan
pub sound_bounds_rise : (p : Plan) → Sound p → (b : Bound) → Memᴰ b (bounds p) → level_of p b.from < level_of p b.to
sound_bounds_rise p s b m = rise_sort p s b (sort_of p b m)

-- of every accepted plan
pub bounds_rise : (ts : Tables) (p : Plan) → judge ts ≡ Ok p → (b : Bound) → Memᴰ b (bounds p) → level_of p b.from < level_of p b.to
bounds_rise ts p e b m = sound_bounds_rise p (judged_sound ts p e) b m

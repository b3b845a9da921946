-- The points of a route's visits: where `event_of` finds them, and that those which order bounds go between are there. Assumes nothing.
use Rattle.std.proofs.lemmas.Bool.Decides.{nat_tests}
use Rattle.std.specs.Prelude.{Some}
use Prim.Native.Nat.{ℕ, zero, suc, ◌+◌, ◌*◌, ◌≤◌, ◌<◌}
use native.Mathlib.Nat.{eq-or-lt_of_le}
use native.Mathlib.Omega.{arith}
use mathlib.Core.Path.{◌≡◌, refl, ap, sym, ◌∙◌, subst}
use mathlib.Core.Logic.{◌≢◌, ⊎_elim}
use mathlib.Core.Bool.{Bool, ◌&&◌, cond}
use mathlib.Core.List.{List, [], ◌∷◌, Memᴰ}
use lib.Dec.{T, eqb, eqb→eq, eqb_refl}
use lib.ListN.{length, get_or}
use mir.Facts.{and_yes, yes_and}
use Rattle.laws.proofs.Members.{place_of}
use Rattle.laws.proofs.Tests.{passes, fails}
use Rattle.laws.proofs.Rising.{Rises, Rising, rising_rest, rises_first, rising_place}
use Rattle.floor.specs.Plan.{Plan}
use Rattle.floor.specs.Paths.{at_step, steps}
use Rattle.floor.proofs.Accepted.{Sound}
use Rattle.network.specs.Events.{Visit, visits_of, Kind, approach, entry, leave, Point, point, points_after, points, Route, routes_of, route_points, same_kind, find_point, event_of}
use Rattle.network.specs.Levels.{kind_level, point_level}
use Rattle.network.proofs.Routes.{Origin, origin, path_there}
use Rattle.network.proofs.Ends.{same_kind_is, event_found}
use Rattle.network.proofs.Visits.{step_of, route_rises, visit_there, last_stays}

-- ---- the points of a route go up

-- entry, leave, approach, entry: each is above the one before
points_after_rise : (x : Visit) (ys : List Visit) → Rises step_of x ys → Rises point_level (point entry x) (points_after x ys)
unfolding points_after point point_level kind_level
points_after_rise x [] h = tt
points_after_rise x (y ∷ ys) h = (omega arith, (omega (arith, h.0), (omega arith, points_after_rise y ys h.1)))

-- of all points of a route
pub points_rise : (vs : List Visit) → Rising step_of vs → Rising point_level (points vs)
unfolding points
points_rise [] h = tt
points_rise (x ∷ xs) h = points_after_rise x xs h

-- no kind is above 2
pub kind_most : (k : Kind) → kind_level k ≤ 2
unfolding kind_level
kind_most approach = omega arith
kind_most entry = omega arith
kind_most leave = omega arith

-- ---- where a point is found

-- a kind is the same as itself
same_kind_self : (k : Kind) → T (same_kind k k)
unfolding same_kind
same_kind_self approach = tt
same_kind_self entry = tt
same_kind_self leave = tt

-- each point of a list that rises is found at its place: those before it are of another level, so of another kind or step
pub found_at_place : (ps : List Point) (e i : ℕ) (d : Point) → Rising point_level ps → i < length ps
    → find_point (get_or ps i d).kind (get_or ps i d).step e ps ≡ Some (e + i)
unfolding find_point point_level
found_at_place [] e i d h l = absurd (omega arith)
found_at_place (p ∷ ps) e zero d h l =
    ap (λ (b : Bool). cond b (Some e) (find_point p.kind p.step (suc e) ps))
    (passes (same_kind p.kind p.kind && eqb p.step p.step) (yes_and (same_kind p.kind p.kind) (eqb p.step p.step) (same_kind_self p.kind) (eqb_refl p.step)))
    ∙ ap Some (omega arith)
found_at_place (p ∷ ps) e (suc i) d h l =
    ap (λ (b : Bool). cond b (Some e) (find_point q.kind q.step (suc e) ps)) (fails (same_kind q.kind p.kind && eqb q.step p.step) other)
    ∙ found_at_place ps (suc e) i d (rising_rest point_level p ps h) (omega arith) ∙ ap Some (omega arith)
  where
    q : Point
    q = get_or ps i d

    other : ¬ T (same_kind q.kind p.kind && eqb q.step p.step)
    other t =
        let (k, e) = and_yes (same_kind q.kind p.kind) (eqb q.step p.step) t in
        let same_step : q.step ≡ p.step = eqb→eq q.step p.step e in
        let lower : 3 * p.step + kind_level p.kind < 3 * q.step + kind_level q.kind = rises_first point_level p ps i d h (omega arith) in
        let same-level : kind_level p.kind ≡ kind_level q.kind = ap kind_level (same_kind_is q.kind p.kind k) in
        omega (arith, same_step, same-level, lower)

-- three points for each move: where they stand
pub points_after_length : (x : Visit) (xs : List Visit) → length (points_after x xs) ≡ 3 * length xs
unfolding points_after
points_after_length x [] = refl
points_after_length x (y ∷ ys) = let e = points_after_length y ys in omega (arith, e)

points_after_placed : (x : Visit) (xs : List Visit) (i : ℕ) (v : Visit) (d : Point) → i < length xs
    → (get_or (points_after x xs) (3 * i) d ≡ point leave (get_or (x ∷ xs) i v)) × (get_or (points_after x xs) (3 * i + 1) d ≡ point approach (get_or xs i v))
    × (get_or (points_after x xs) (3 * i + 2) d ≡ point entry (get_or xs i v))
unfolding points_after
points_after_placed x [] i v d l = absurd (omega arith)
points_after_placed x (y ∷ ys) zero v d l = (refl, refl, refl)
points_after_placed x (y ∷ ys) (suc i) v d l =
    let (a, b, c) = points_after_placed y ys i v d (omega arith) in
    let at : ℕ → Point = λ n. get_or (points_after x (y ∷ ys)) n d in
    let first : 3 * suc i ≡ suc (suc (suc (3 * i))) = omega arith in
    let second : 3 * suc i + 1 ≡ suc (suc (suc (3 * i + 1))) = omega arith in
    let third : 3 * suc i + 2 ≡ suc (suc (suc (3 * i + 2))) = omega arith in
    (ap at first ∙ a, ap at second ∙ b, ap at third ∙ c)

-- the point that stands at place n of a route's points is found there
found_there : (r : Route) → Rising step_of r.visits → (k : Kind) (x : Visit) (n : ℕ) (d : Point) → n < length (route_points r)
    → get_or (route_points r) n d ≡ point k x → event_of k r x ≡ Some (r.first + n)
unfolding event_of route_points point
found_there r h k x n d l e =
    subst (λ (q : Point). find_point q.kind q.step r.first (route_points r) ≡ Some (r.first + n)) e
    (found_at_place (route_points r) r.first n d (points_rise r.visits h) l)

-- where the points of the i-th visit stand among a route's: its entry, its leave point if a visit follows, and the approach point of that
record PointsOf (vs : List Visit) (i : ℕ) (v : Visit) (d : Point) : Type 0 where
  room : 3 * i + 3 < length (points vs)
  leaves : get_or (points vs) (3 * i + 1) d ≡ point leave (get_or vs i v)
  approaches : get_or (points vs) (3 * i + 2) d ≡ point approach (get_or vs (suc i) v)
  enters : get_or (points vs) (3 * i + 3) d ≡ point entry (get_or vs (suc i) v)

points_placed : (vs : List Visit) (i : ℕ) (v : Visit) (d : Point) → suc i < length vs → PointsOf vs i v d
unfolding points
points_placed [] i v d l = absurd (omega arith)
points_placed (x ∷ xs) i v d l =
    let (a, b, c) = points_after_placed x xs i v d (omega arith) in
    let at : ℕ → Point = λ n. get_or (points (x ∷ xs)) n d in
    let one : 3 * i + 1 ≡ suc (3 * i) = omega arith in
    let two : 3 * i + 2 ≡ suc (3 * i + 1) = omega arith in
    let three : 3 * i + 3 ≡ suc (3 * i + 2) = omega arith in
    record {
      room = omega (arith, points_after_length x xs, l);
      leaves = ap at one ∙ a;
      approaches = ap at two ∙ b;
      enters = ap at three ∙ c;
    }

-- a point that stands for none
abbrev pub no_point : Point
no_point = record { kind = entry; cell = 0; step = 0 }

-- the leave point of a visit that another follows
pub leave_of : (r : Route) → Rising step_of r.visits → (i : ℕ) (v : Visit) → suc i < length r.visits
    → event_of leave r (get_or r.visits i v) ≡ Some (r.first + (3 * i + 1))
unfolding route_points
leave_of r h i v l =
    let p : PointsOf r.visits i v no_point = points_placed r.visits i v no_point l in
    let room : 3 * i + 3 < length (points r.visits) = p.room in
    found_there r h leave (get_or r.visits i v) (3 * i + 1) no_point (omega (arith, room)) p.leaves

-- the approach point of the one that follows
pub approach_of : (r : Route) → Rising step_of r.visits → (i : ℕ) (v : Visit) → suc i < length r.visits
    → event_of approach r (get_or r.visits (suc i) v) ≡ Some (r.first + (3 * i + 2))
unfolding route_points
approach_of r h i v l =
    let p : PointsOf r.visits i v no_point = points_placed r.visits i v no_point l in
    let room : 3 * i + 3 < length (points r.visits) = p.room in
    found_there r h approach (get_or r.visits (suc i) v) (3 * i + 2) no_point (omega (arith, room)) p.approaches

-- and its entry
pub entry_of : (r : Route) → Rising step_of r.visits → (i : ℕ) (v : Visit) → suc i < length r.visits
    → event_of entry r (get_or r.visits (suc i) v) ≡ Some (r.first + (3 * i + 3))
unfolding route_points
entry_of r h i v l =
    let p : PointsOf r.visits i v no_point = points_placed r.visits i v no_point l in
    found_there r h entry (get_or r.visits (suc i) v) (3 * i + 3) no_point p.room p.enters

-- the first visit's entry is the route's first point
pub first_entry_of : (r : Route) → Rising step_of r.visits → (v : Visit) → 0 < length r.visits → event_of entry r (get_or r.visits 0 v) ≡ Some (r.first + 0)
unfolding route_points points
first_entry_of r h v l = found_there r h entry (get_or r.visits 0 v) 0 no_point (some_point r.visits l) (first r.visits l)
  where
    some_point : (vs : List Visit) → 0 < length vs → 0 < length (points vs)
    some_point [] l = l
    some_point (x ∷ xs) l = omega arith

    first : (vs : List Visit) → 0 < length vs → get_or (points vs) 0 no_point ≡ point entry (get_or vs 0 v)
    first [] l = absurd (omega arith)
    first (x ∷ xs) l = refl

-- ---- the points that order bounds go between are there

-- a visit that stands for none
abbrev no_visit : Visit
no_visit = record { step = 0; cell = 0 }

-- two carts are not in one cell at one step
not_both : (p : Plan) → Sound p → (a b t : ℕ) → a < length p.paths → b < length p.paths → a ≢ b → t < steps p.paths
    → at_step t (get_or p.paths a []) ≢ at_step t (get_or p.paths b [])
not_both p s a b t la lb ne l e = grind (arith, nat_tests)

-- a visit that is not the last of its route has a leave point; the last one is to a cell that no other cart enters later
pub leave_there : (p : Plan) → Sound p → (j k : Route) → Memᴰ j (routes_of p) → Memᴰ k (routes_of p) → j.number ≢ k.number
    → (x y : Visit) → Memᴰ x j.visits → Memᴰ y k.visits → x.cell ≡ y.cell → x.step < y.step
    → (u : ℕ) × (event_of leave j x ≡ Some u)
leave_there p s j k mj mk ne x y nx ny c l =
    let (i, h, e) = place_of j.visits x no_visit nx in ⊎_elim (λ q. absurd (stays i e q)) (leaves i e) (eq-or-lt_of_le h)
  where
    leaves : (i : ℕ) → get_or j.visits i no_visit ≡ x → suc i < length j.visits → (u : ℕ) × (event_of leave j x ≡ Some u)
    leaves i e h = (_, ap (event_of leave j) (sym e) ∙ leave_of j (route_rises p j mj) i no_visit h)

    oj : Origin p j
    oj = origin p j mj

    ok : Origin p k
    ok = origin p k mk

    stays : (i : ℕ) → get_or j.visits i no_visit ≡ x → suc i ≡ length j.visits → ⊥
    stays i e h =
        let q : List ℕ = get_or p.paths oj.place [] in
        let here : get_or (visits_of q) i no_visit ≡ x = subst (λ (v : List Visit). get_or v i no_visit ≡ x) oj.visited e in
        let (ly, cy) = visit_there p s k ok y ny in
        let wide : length q ≡ steps p.paths = s.same_steps q (path_there p j oj) in
        let sx : (get_or (visits_of q) i no_visit).step ≡ x.step = ap (λ (v : Visit). v.step) here in
        let cx : (get_or (visits_of q) i no_visit).cell ≡ x.cell = ap (λ (v : Visit). v.cell) here in
        let n : suc i ≡ length (visits_of q) = h ∙ ap (λ (v : List Visit). length v) oj.visited in
        let stay : at_step y.step q ≡ (get_or (visits_of q) i no_visit).cell =
        last_stays q i no_visit n y.step (omega (arith, sx, l)) (omega (arith, wide, ly))
        in
        not_both p s oj.place ok.place y.step oj.among ok.among
        (λ a. ne (oj.numbered ∙ ap (λ (z : ℕ). 1 + z) a ∙ sym ok.numbered)) ly (stay ∙ cx ∙ c ∙ sym cy)

-- the first visit begins at step 0
first_step : (q : List ℕ) → 1 ≤ length (visits_of q) → (get_or (visits_of q) 0 no_visit).step ≡ 0
unfolding visits_of
first_step [] h = absurd (omega arith)
first_step (c ∷ cs) h = refl

-- a visit that begins later has an approach point
pub approach_there : (p : Plan) (k : Route) → Memᴰ k (routes_of p) → (y : Visit) → Memᴰ y k.visits → 0 < y.step
    → (v : ℕ) × (event_of approach k y ≡ Some v)
approach_there p k m y n l =
    let (i, h, e) = place_of k.visits y no_visit n in by i h e
  where
    by : (i : ℕ) → i < length k.visits → get_or k.visits i no_visit ≡ y → (v : ℕ) × (event_of approach k y ≡ Some v)
    by zero h e =
        let o : Origin p k = origin p k m in
        let q : List ℕ = get_or p.paths o.place [] in
        let n : length k.visits ≡ length (visits_of q) = ap (λ (v : List Visit). length v) o.visited in
        let here : (get_or (visits_of q) 0 no_visit).step ≡ y.step =
        ap (λ (v : List Visit). (get_or v 0 no_visit).step) (sym o.visited) ∙ ap (λ (v : Visit). v.step) e
        in
        absurd (omega (arith, first_step q (omega (arith, h, n)), here, l))
    by (suc i) h e = (_, ap (event_of approach k) (sym e) ∙ approach_of k (route_rises p k m) i no_visit h)

-- ---- along a route

-- the points of later visits have larger numbers
pub later_larger : (r : Route) → Rising step_of r.visits → (k l : Kind) (x y : Visit) (u v : ℕ) → x.step < y.step
    → event_of k r x ≡ Some u → event_of l r y ≡ Some v → u < v
unfolding route_points point_level
later_larger r h k l x y u v s eu ev =
    let d : Point = record { kind = k; cell = 0; step = 0 } in
    let (i, iu, il, ik, is) = event_found k r x u d eu in
    let (j, jv, jl, jk, js) = event_found l r y v d ev in
    let low : kind_level (get_or (route_points r) i d).kind ≤ 2 = kind_most (get_or (route_points r) i d).kind in
    let below : i < j = rising_place point_level (route_points r) i j d (points_rise r.visits h) il (omega (arith, is, js, s, low)) in
    omega (arith, iu, jv, below)

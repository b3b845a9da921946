-- Of what sort each bound of a plan is: a start, travel, order or finish bound, and of which routes. Assumes nothing.
use Rattle.std.specs.Prelude.{Option, None, Some}
use Prim.Native.Nat.{ℕ, ◌<◌}
use mathlib.Core.Path.{◌≡◌, refl, sym, subst}
use mathlib.Core.Logic.{◌≢◌, ⊎_elim}
use mathlib.Core.Bool.{Bool, true, false, ◌&&◌, cond}
use mathlib.Core.List.Memᴰ
use mathlib.Core.List.{List, [], ◌∷◌, flat_map, Memᴰ}
use lib.Dec.{T, ltb, eqb, eqb→eq, ltb→lt}
use mir.Facts.{and_yes}
use borrow.Author.Tests.{eqb-false}
use Rattle.laws.proofs.Options.{none-ne-some, some-injective}
use Rattle.floor.specs.Plan.{Plan}
use Rattle.floor.specs.declared.Road.{Road}
use Rattle.network.specs.Events.{Visit, approach, leave, Route, routes_of, event_of, last_event, finish_event}
use Rattle.network.specs.Bounds.{Bound, no_earlier, start_bounds, route_parts, part_bounds, travel_bounds, first_later, between, order_bound, order_bounds_to, order_bounds, finish_bounds, bounds}
use Rattle.laws.proofs.Members.{to_flat, of_flat}

-- a start bound
abbrev pub start_bound : Route → Bound
start_bound r = record { from = 0; to = r.first; lo = 0; hi = Some 0 }

-- the travel bounds of one route
abbrev pub along : List Road → Route → List Bound
along roads r = part_bounds r.cart r.first (route_parts roads r.cart r.visits)

-- the first later visit to x's cell is a visit, to that cell, and later
pub record FirstLater (x : Visit) (ys : List Visit) (z : Visit) : Type 0 where
  pub visit : Memᴰ z ys
  pub same_cell : x.cell ≡ z.cell
  pub later : x.step < z.step

pub first_later_is : (x : Visit) (ys : List Visit) (z : Visit) → first_later x ys ≡ Some z → FirstLater x ys z
unfolding first_later
first_later_is x [] z e = absurd (none-ne-some _ e)
first_later_is x (y ∷ ys) z e = by (ltb x.step y.step && eqb x.cell y.cell) refl e (first_later_is x ys z)
  where
    by : (b : Bool) → (ltb x.step y.step && eqb x.cell y.cell) ≡ b → cond b (Some y) (first_later x ys) ≡ Some z
        → (first_later x ys ≡ Some z → FirstLater x ys z) → FirstLater x (y ∷ ys) z
    by true b e rest =
        let (later, same) = and_yes (ltb x.step y.step) (eqb x.cell y.cell) (subst T (sym b) tt) in
        subst (FirstLater x (y ∷ ys)) (some-injective _ _ e)
        (record { visit = Memᴰ.head refl; same_cell = eqb→eq x.cell y.cell same; later = ltb→lt x.step y.step later })
    by false b e rest =
        let f : FirstLater x ys z = rest e in
        record { visit = Memᴰ.tail f.visit; same_cell = f.same_cell; later = f.later }

-- an order bound: from the leave point of j's visit x to the approach point of k's first later visit y to that cell
pub record Order (rs : List Route) (b : Bound) : Type 0 where
  pub j : Route
  pub k : Route
  pub x : Visit
  pub y : Visit
  pub j_there : Memᴰ j rs
  pub k_there : Memᴰ k rs
  pub x_there : Memᴰ x j.visits
  pub others : j.number ≢ k.number
  pub later : first_later x k.visits ≡ Some y
  pub behind : ℕ
  pub before : ℕ
  pub leaves : event_of leave j x ≡ Some behind
  pub approaches : event_of approach k y ≡ Some before
  pub is : b ≡ no_earlier behind before

-- the four sorts
pub data Sort (p : Plan) (b : Bound) : Type 0 where
  starts : (r : Route) → Memᴰ r (routes_of p) → b ≡ start_bound r → Sort p b
  travels : (r : Route) → Memᴰ r (routes_of p) → Memᴰ b (along p.roads r) → Sort p b
  orders : Order (routes_of p) b → Sort p b
  finishes : (r : Route) → Memᴰ r (routes_of p) → b ≡ no_earlier (last_event r) (finish_event p) → Sort p b

-- ---- an order bound, read back

-- a bound between two events that are there
between_is : (b : Bound) (u v : Option ℕ) → Memᴰ b (between u v)
    → (m : ℕ) × (n : ℕ) × (u ≡ Some m) × (v ≡ Some n) × (b ≡ no_earlier m n)
unfolding between
between_is b None v m = absurd (Memᴰ.not-nil m)
between_is b (Some u) None m = absurd (Memᴰ.not-nil m)
between_is b (Some u) (Some v) m = (u, v, refl, refl, Memᴰ.eq_of_singleton m)

-- a bound to the first later visit, if there is one
order_is : (rs : List Route) (j k : Route) (x : Visit) (b : Bound) → Memᴰ j rs → Memᴰ k rs → Memᴰ x j.visits → j.number ≢ k.number
    → (o : Option Visit) → first_later x k.visits ≡ o → Memᴰ b (order_bound j x k o) → Order rs b
unfolding order_bound
order_is rs j k x b mj mk mx ne None e m = absurd (Memᴰ.not-nil m)
order_is rs j k x b mj mk mx ne (Some y) e m =
    let (u, v, l, a, i) = between_is b (event_of leave j x) (event_of approach k y) m in
    record {
      j = j;
      k = k;
      x = x;
      y = y;
      j_there = mj;
      k_there = mk;
      x_there = mx;
      others = ne;
      later = e;
      behind = u;
      before = v;
      leaves = l;
      approaches = a;
      is = i;
    }

-- the test for another cart was passed
order_to_is : (rs : List Route) (j k : Route) (x : Visit) (b : Bound) → Memᴰ j rs → Memᴰ k rs → Memᴰ x j.visits
    → Memᴰ b (order_bounds_to j x k) → Order rs b
unfolding order_bounds_to
order_to_is rs j k x b mj mk mx m = by (eqb j.number k.number) refl m
  where
    by : (t : Bool) → eqb j.number k.number ≡ t → Memᴰ b (cond t [] (order_bound j x k (first_later x k.visits))) → Order rs b
    by true e m = absurd (Memᴰ.not-nil m)
    by false e m = order_is rs j k x b mj mk mx (eqb-false j.number k.number e) (first_later x k.visits) refl m

-- every order bound is one from some j, x and k
pub orders_are : (rs : List Route) (b : Bound) → Memᴰ b (order_bounds rs) → Order rs b
unfolding order_bounds
orders_are rs b m =
    let (j, mj, m1) = of_flat (λ (j : Route). flat_map (λ (x : Visit). flat_map (order_bounds_to j x) rs) j.visits) rs b m in
    let (x, mx, m2) = of_flat (λ (x : Visit). flat_map (order_bounds_to j x) rs) j.visits b m1 in
    let (k, mk, m3) = of_flat (order_bounds_to j x) rs b m2 in
    order_to_is rs j k x b mj mk mx m3

-- ---- every bound is of one of the sorts

-- by the part of the list of bounds that it stands in
pub sort_of : (p : Plan) (b : Bound) → Memᴰ b (bounds p) → Sort p b
unfolding bounds start_bounds travel_bounds finish_bounds
sort_of p b m =
    ⊎_elim
    (λ s. let (r, there, e) = Memᴰ.of_map (λ (r : Route). start_bound r) (routes_of p) s in starts r there (sym e))
    (λ n. ⊎_elim
    (λ t. let (r, there, i) = of_flat (λ (r : Route). along p.roads r) (routes_of p) b t in travels r there i)
    (λ n. ⊎_elim
    (λ o. orders (orders_are (routes_of p) b o))
    (λ f. let (r, there, e) = Memᴰ.of_map (λ (r : Route). no_earlier (last_event r) (finish_event p)) (routes_of p) f in finishes r there (sym e))
    (Memᴰ.append_cases (order_bounds (routes_of p)) n))
    (Memᴰ.append_cases (travel_bounds p.roads (routes_of p)) n))
    (Memᴰ.append_cases (start_bounds (routes_of p)) m)

-- ---- and those of each sort are there

-- start bounds are bounds of the plan
pub start_there : (p : Plan) (b : Bound) → Memᴰ b (start_bounds (routes_of p)) → Memᴰ b (bounds p)
unfolding bounds
start_there p b m = Memᴰ.append_left _ m

-- travel bounds are
pub travel_there : (p : Plan) (b : Bound) → Memᴰ b (travel_bounds p.roads (routes_of p)) → Memᴰ b (bounds p)
unfolding bounds
travel_there p b m = Memᴰ.append_right (start_bounds (routes_of p)) (Memᴰ.append_left _ m)

-- order bounds are
pub order_there : (p : Plan) (b : Bound) → Memᴰ b (order_bounds (routes_of p)) → Memᴰ b (bounds p)
unfolding bounds
order_there p b m =
    Memᴰ.append_right (start_bounds (routes_of p)) (Memᴰ.append_right (travel_bounds p.roads (routes_of p)) (Memᴰ.append_left _ m))

-- finish bounds are
pub finish_there : (p : Plan) (b : Bound) → Memᴰ b (finish_bounds (finish_event p) (routes_of p)) → Memᴰ b (bounds p)
unfolding bounds
finish_there p b m =
    Memᴰ.append_right (start_bounds (routes_of p))
    (Memᴰ.append_right (travel_bounds p.roads (routes_of p)) (Memᴰ.append_right (order_bounds (routes_of p)) m))

-- each route's is among the start bounds
pub start_in : (rs : List Route) (r : Route) → Memᴰ r rs → Memᴰ (start_bound r) (start_bounds rs)
unfolding start_bounds
start_in rs r m = Memᴰ.map (λ (r : Route). start_bound r) m

-- each route's are among the travel bounds
pub travel_in : (roads : List Road) (rs : List Route) (r : Route) (b : Bound) → Memᴰ r rs → Memᴰ b (along roads r) → Memᴰ b (travel_bounds roads rs)
unfolding travel_bounds
travel_in roads rs r b m i = to_flat (λ (r : Route). along roads r) rs r b m i

-- each route's is among the finish bounds
pub finish_in : (f : ℕ) (rs : List Route) (r : Route) → Memᴰ r rs → Memᴰ (no_earlier (last_event r) f) (finish_bounds f rs)
unfolding finish_bounds
finish_in f rs r m = Memᴰ.map (λ (r : Route). no_earlier (last_event r) f) m

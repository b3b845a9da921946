-- Demand 2: times meet all bounds exactly when they meet the start, travel and finish bounds and keep the order of every two visits to a cell
-- by different carts. Assumes nothing.
use Rattle.std.proofs.lemmas.Bool.Decides.{nat_tests}
use Rattle.std.specs.Prelude.{Option, None, Some}
use Prim.Native.Nat.{ℕ, zero, suc, ◌+◌, ◌-◌, ◌≤◌, ◌<◌}
use native.Mathlib.Nat.{eq-or-lt_of_le}
use native.Mathlib.Omega.{arith}
use mathlib.Core.Path.{◌≡◌, refl, ap, sym, ◌∙◌, subst}
use mathlib.Core.Logic.{◌≢◌, ⊎_elim}
use mathlib.Core.Bool.{Bool, true, false, ◌&&◌, cond}
use mathlib.Core.List.{List, [], ◌∷◌, flat_map, Memᴰ}
use lib.Dec.{T, eqb, ltb, eqb→eq, lt→ltb, eqb_refl}
use lib.Signed.{◌≤ℤ◌}
use lib.ListN.{length, get_or}
use mir.Facts.{yes_and}
use Rattle.laws.proofs.Options.{none-ne-some, some-injective}
use Rattle.laws.proofs.Signed.{signed, difference}
use Rattle.floor.specs.Plan.{Plan}
use Rattle.floor.proofs.Accepted.{Sound}
use Rattle.network.specs.Events.{Visit, approach, leave, Route, routes_of, route_points, event_of, finish_event}
use Rattle.network.specs.Bounds.{Bound, no_earlier, start_bounds, travel_bounds, first_later, between, order_bound, order_bounds_to, order_bounds, finish_bounds, bounds}
use Rattle.network.specs.Meaning.{Times, Meets, MeetsAll, InOrder, KeepsOrder, Demand2}
use Rattle.network.proofs.Judged.{judged_sound}
use Rattle.laws.proofs.Members.{to_flat, place_of}
use Rattle.network.proofs.Sorts.{FirstLater, first_later_is, Sort, starts, travels, orders, finishes, sort_of, start_there, travel_there, order_there, finish_there, start_in, travel_in, finish_in}
use Rattle.network.proofs.Ends.{along_at, event_found}
use Rattle.laws.proofs.Rising.{rising_apart}
use Rattle.network.proofs.Visits.{step_of, route_rises}
use Rattle.network.proofs.VisitPoints.{leave_there, approach_there, later_larger}

-- ---- the first later visit to a cell

-- where there is a later visit to that cell, one is found, at that place or before
first_later_found : (x : Visit) (ys : List Visit) (b : ℕ) (d : Visit) → b < length ys → x.step < (get_or ys b d).step → x.cell ≡ (get_or ys b d).cell
    → (a : ℕ) × (a ≤ b) × (first_later x ys ≡ Some (get_or ys a d))
unfolding first_later
first_later_found x [] b d l s c = absurd (omega arith)
first_later_found x (y ∷ ys) b d l s c = by (ltb x.step y.step && eqb x.cell y.cell) refl b l s c (first_later_found x ys)
  where
    by : (t : Bool) → (ltb x.step y.step && eqb x.cell y.cell) ≡ t
        → (b : ℕ) → b < length (y ∷ ys) → x.step < (get_or (y ∷ ys) b d).step → x.cell ≡ (get_or (y ∷ ys) b d).cell
        → ((b : ℕ) (d : Visit) → b < length ys → x.step < (get_or ys b d).step → x.cell ≡ (get_or ys b d).cell
        → (a : ℕ) × (a ≤ b) × (first_later x ys ≡ Some (get_or ys a d)))
        → (a : ℕ) × (a ≤ b) × (cond t (Some y) (first_later x ys) ≡ Some (get_or (y ∷ ys) a d))
    by true e b l s c rest = (0, omega arith, refl)
    by false e zero l s c rest =
        absurd (subst T e (yes_and (ltb x.step y.step) (eqb x.cell y.cell) (lt→ltb _ _ s) (subst (λ (n : ℕ). T (eqb x.cell n)) c (eqb_refl x.cell))))
    by false e (suc b) l s c rest = let (a, h, q) = rest b d (omega arith) s c in (suc a, omega (arith, h), q)

-- ---- the order bound to it

-- both events are there
between_there : (u v : ℕ) (o q : Option ℕ) → o ≡ Some u → q ≡ Some v → Memᴰ (no_earlier u v) (between o q)
unfolding between
between_there u v o q e f = rw (e, f) (Memᴰ.head refl)

-- k is another cart, and the visit is there
order_to_there : (j k : Route) (x z : Visit) (u v : ℕ) → j.number ≢ k.number → first_later x k.visits ≡ Some z
    → event_of leave j x ≡ Some u → event_of approach k z ≡ Some v → Memᴰ (no_earlier u v) (order_bounds_to j x k)
unfolding order_bounds_to order_bound
order_to_there j k x z u v ne f l a = by (eqb j.number k.number) refl
  where
    first_one : (o : Option Visit) → o ≡ Some z → Memᴰ (no_earlier u v) (order_bound j x k o)
    first_one None e = absurd (none-ne-some _ e)
    first_one (Some y) e =
        between_there u v (event_of leave j x) (event_of approach k y) l (ap (event_of approach k) (some-injective _ _ e) ∙ a)

    by : (b : Bool) → eqb j.number k.number ≡ b → Memᴰ (no_earlier u v) (cond b [] (order_bound j x k (first_later x k.visits)))
    by true e = absurd (ne (eqb→eq _ _ (subst T (sym e) tt)))
    by false e = first_one (first_later x k.visits) f

-- it is among the order bounds, at j, then x, then k
order_in : (rs : List Route) (j k : Route) (x z : Visit) (u v : ℕ) → Memᴰ j rs → Memᴰ k rs → Memᴰ x j.visits → j.number ≢ k.number
    → first_later x k.visits ≡ Some z → event_of leave j x ≡ Some u → event_of approach k z ≡ Some v
    → Memᴰ (no_earlier u v) (order_bounds rs)
unfolding order_bounds
order_in rs j k x z u v mj mk mx ne f l a =
    to_flat (λ (j : Route). flat_map (λ (x : Visit). flat_map (order_bounds_to j x) rs) j.visits) rs j (no_earlier u v) mj
    (to_flat (λ (x : Visit). flat_map (order_bounds_to j x) rs) j.visits x (no_earlier u v) mx
    (to_flat (order_bounds_to j x) rs k (no_earlier u v) mk (order_to_there j k x z u v ne f l a)))

-- ---- times that meet bounds

-- a bound's end is no earlier than its beginning
not_before : (t : Times) (b : Bound) → Meets t b → t b.from ≤ℤ t b.to
not_before t b m = let l : _ = m.lower in omega (signed, difference (t b.to) (t b.from), l)

-- [0, none] says that, and no more
order_met : (t : Times) (u v : ℕ) → Meets t (no_earlier u v) → t u ≤ℤ t v
unfolding no_earlier
order_met t u v m = not_before t (no_earlier u v) m

-- and whoever is in order meets it
meet_order : (t : Times) (u v : ℕ) → t u ≤ℤ t v → Meets t (no_earlier u v)
unfolding no_earlier
meet_order t u v l = grind (arith, nat_tests)

-- along a route times do not go down
along_route : (p : Plan) → Sound p → (t : Times) → MeetsAll t (travel_bounds p.roads (routes_of p)) → (r : Route) → Memᴰ r (routes_of p)
    → (a n : ℕ) → a + n < length (route_points r) → t (r.first + a) ≤ℤ t (r.first + (a + n))
along_route p s t meets r m a zero l =
    let same : r.first + a ≡ r.first + (a + 0) = omega arith in
    let still : t (r.first + a) ≡ t (r.first + (a + 0)) = ap t same in
    omega (signed, still)
along_route p s t meets r m a (suc n) l =
    let (b, i, from, to) = along_at p s r m (a + n) (omega (arith, l)) in
    let up_to : t (r.first + a) ≤ℤ t (r.first + (a + n)) = along_route p s t meets r m a n (omega (arith, l)) in
    let more : t b.from ≤ℤ t b.to = not_before t b (meets b (travel_in p.roads (routes_of p) r b m i)) in
    let from_is : t b.from ≡ t (r.first + (a + n)) = ap t from in
    let next : b.to ≡ r.first + (a + suc n) = omega (arith, to) in
    let to_is : t b.to ≡ t (r.first + (a + suc n)) = ap t next in
    omega (signed, up_to, more, from_is, to_is)

-- ---- keeping order, from the bounds

-- the approach point of the first later visit is no later than that of any later one
first_approached : (p : Plan) → Sound p → (t : Times) → MeetsAll t (travel_bounds p.roads (routes_of p)) → (k : Route) → Memᴰ k (routes_of p)
    → (a b : ℕ) (d : Visit) → a ≤ b → b < length k.visits → (u v : ℕ)
    → event_of approach k (get_or k.visits a d) ≡ Some u → event_of approach k (get_or k.visits b d) ≡ Some v
    → t u ≤ℤ t v
first_approached p s t meets k m a b d l h u v eu ev = ⊎_elim same later (eq-or-lt_of_le l)
  where
    same : a ≡ b → t u ≤ℤ t v
    same q =
        let e : u ≡ v = some-injective _ _ (sym eu ∙ ap (λ (n : ℕ). event_of approach k (get_or k.visits n d)) q ∙ ev) in
        let f : t u ≡ t v = ap t e in
        omega (signed, f)

    later : a < b → t u ≤ℤ t v
    later q =
        let below : u < v = later_larger k (route_rises p k m) approach approach (get_or k.visits a d) (get_or k.visits b d) u v
        (rising_apart step_of k.visits a b d (route_rises p k m) q h) eu ev
        in
        let (i, ui, _, _, _) = event_found approach k (get_or k.visits a d) u (record { kind = approach; cell = 0; step = 0 }) eu in
        let (j, vj, jl, _, _) = event_found approach k (get_or k.visits b d) v (record { kind = approach; cell = 0; step = 0 }) ev in
        let sum_is : v ≡ k.first + (i + (j - i)) = omega (arith, ui, vj, below) in
        let up : t (k.first + i) ≤ℤ t (k.first + (i + (j - i))) = along_route p s t meets k m i (j - i) (omega (arith, ui, vj, jl, below)) in
        let u_is : t u ≡ t (k.first + i) = ap t ui in
        let v_is : t v ≡ t (k.first + (i + (j - i))) = ap t sum_is in
        omega (signed, up, u_is, v_is)

-- from the leave point to the approach of the first later visit by the order bound, and on along the route of k to the approach of y
keeps_order : (p : Plan) → Sound p → (t : Times) → MeetsAll t (bounds p) → KeepsOrder p t
keeps_order p s t meets j k mj mk ne x y nx ny c l =
    let none_there : Visit = record { step = 0; cell = 0 } in
    let (b, h, e) = place_of k.visits y none_there ny in
    let later : x.step < (get_or k.visits b none_there).step = subst (λ (v : Visit). x.step < v.step) (sym e) l in
    let same : x.cell ≡ (get_or k.visits b none_there).cell = c ∙ ap (λ (v : Visit). v.cell) (sym e) in
    let (a, ab, f) = first_later_found x k.visits b none_there h later same in
    let z : Visit = get_or k.visits a none_there in
    let is : FirstLater x k.visits z = first_later_is x k.visits z f in
    let lz : x.step < z.step = is.later in
    let (u, lu) = leave_there p s j k mj mk ne x y nx ny c l in
    let (w, aw) = approach_there p k mk z is.visit (omega (arith, lz)) in
    let (v, av) = approach_there p k mk y ny (omega (arith, l)) in
    let bound : t u ≤ℤ t w = meets_order u w (order_there p (no_earlier u w) (order_in (routes_of p) j k x z u w mj mk nx ne f lu aw)) in
    let on : t w ≤ℤ t v =
    first_approached p s t (λ b n. meets b (travel_there p b n)) k mk a b none_there ab h w v aw (ap (event_of approach k) e ∙ av)
    in
    record { behind = u; before = v; leaves = lu; approaches = av; ordered = omega (signed, bound, on) }
  where
    meets_order : (u w : ℕ) → Memᴰ (no_earlier u w) (bounds p) → t u ≤ℤ t w
    meets_order u w m = order_met t u w (meets (no_earlier u w) m)

-- ---- the bounds, from keeping order

-- start, travel and finish bounds are met as they stand, and an order bound goes between two visits that keep their order
meets_bound : (p : Plan) (t : Times) → MeetsAll t (start_bounds (routes_of p)) → MeetsAll t (travel_bounds p.roads (routes_of p))
    → MeetsAll t (finish_bounds (finish_event p) (routes_of p)) → KeepsOrder p t → (b : Bound) → Sort p b → Meets t b
meets_bound p t ms mt mf keeps b (starts r m e) = subst (Meets t) (sym e) (ms _ (start_in (routes_of p) r m))
meets_bound p t ms mt mf keeps b (travels r m i) = mt b (travel_in p.roads (routes_of p) r b m i)
meets_bound p t ms mt mf keeps b (orders o) =
    let is : FirstLater o.x o.k.visits o.y = first_later_is o.x o.k.visits o.y o.later in
    let kept : InOrder t o.j o.x o.k o.y = keeps o.j o.k o.j_there o.k_there o.others o.x o.y o.x_there is.visit is.same_cell is.later in
    let u : kept.behind ≡ o.behind = some-injective _ _ (sym kept.leaves ∙ o.leaves) in
    let v : kept.before ≡ o.before = some-injective _ _ (sym kept.approaches ∙ o.approaches) in
    let tu : t kept.behind ≡ t o.behind = ap t u in
    let tv : t kept.before ≡ t o.before = ap t v in
    let ordered : t kept.behind ≤ℤ t kept.before = kept.ordered in
    subst (Meets t) (sym o.is) (meet_order t o.behind o.before (omega (signed, ordered, tu, tv)))
meets_bound p t ms mt mf keeps b (finishes r m e) = subst (Meets t) (sym e) (mf _ (finish_in (finish_event p) (routes_of p) r m))

-- ---- demand 2

-- both directions, for accepted tables
pub demand_2 : Demand2
demand_2 ts p e t = (
  λ meets. (
    λ b m. meets b (start_there p b m),
    λ b m. meets b (travel_there p b m),
    λ b m. meets b (finish_there p b m),
    keeps_order p (judged_sound ts p e) t meets,
  ),
  λ all. λ b m. meets_bound p t all.0 all.1 all.2 all.3 b (sort_of p b m),
)

-- The order bounds of a plan are those along the row of the visits of all its carts, and as many as are counted there. Assumes nothing.
use Rattle.std.specs.Prelude.{Option, None, Some}
use Prim.Native.Nat.{ℕ, zero, suc, ◌+◌, ◌*◌, ◌-◌, ◌<◌}
use native.Mathlib.Omega.{arith}
use mathlib.Core.Path.{◌≡◌, refl, ap, ap₂, sym, ◌∙◌}
use mathlib.Core.Logic.{◌⊎◌, inl, inr, ⊎_elim}
use mathlib.Core.Bool.{Bool, true, false, not, ◌&&◌, cond}
use mathlib.Core.List.{List, [], ◌∷◌, ◌++◌, map, flat_map, append_assoc}
use lib.Dec.{ltb, eqb}
use lib.ListN.{length, get_or, length-append, length-map}
use borrow.Author.Tests.{eq-eqb, ne_eqb}
use Rattle.laws.proofs.Rising.{Rises, Rising, rises_first}
use Rattle.floor.specs.Plan.{Plan}
use Rattle.floor.specs.declared.Cart.{Cart}
use Rattle.network.specs.Events.{Visit, visits_of, approach, leave, point, same_kind, find_point, points_after, points, Route, routes, routes_of, route_points, event_of}
use Rattle.network.specs.Bounds.{Bound, no_earlier, first_later, between, order_bound, order_bounds_to, order_bounds}
use Rattle.network.proofs.Sorts.{FirstLater, first_later_is}
use Rattle.network.proofs.Visits.{step_of, visits_rise}
use Rattle.network.proofs.VisitPoints.{leave_of, approach_of}
use Rattle.limits.specs.Limits.{of_paths}
use Rattle.limits.specs.declared.row.Stop.{Stop}
use Rattle.limits.specs.Counts.{stop, stops, counts, later_carts, not_last, orders_from, orders_among}
use Rattle.limits.specs.Row.{Entry, entered, later_bounds, followed, row_from, row_bounds, placed}

-- ---- which visits have a leave point: all but a cart's last

-- the leave points of a route are those of visits before its last
no_leave_after : (x : Visit) (ys : List Visit) (e i : ℕ) (d : Visit) → Rises step_of x ys → suc i ≡ length (x ∷ ys)
    → find_point leave (get_or (x ∷ ys) i d).step e (points_after x ys) ≡ None
unfolding find_point points_after same_kind point
no_leave_after x [] e i d h l = refl
no_leave_after x (y ∷ ys) e zero d h l = absurd (omega arith)
no_leave_after x (y ∷ ys) e (suc i) d h l =
    let t : ℕ = (get_or (y ∷ ys) i d).step in
    let above : x.step < t = rises_first step_of x (y ∷ ys) i d h (omega arith) in
    let other : eqb t x.step ≡ false = ne_eqb t x.step (λ q. omega arith) in
    ap (λ (b : Bool). cond b (Some e) (find_point leave t (suc (suc (suc e))) (points_after y ys))) other
    ∙ no_leave_after y ys (suc (suc (suc e))) i d h.1 (omega arith)

-- so of a route
no_leave : (r : Route) → Rising step_of r.visits → (i : ℕ) (d : Visit) → suc i ≡ length r.visits → event_of leave r (get_or r.visits i d) ≡ None
unfolding event_of route_points find_point points same_kind points_after point
no_leave r h i d l = by r.visits h l
  where
    by : (vs : List Visit) → Rising step_of vs → suc i ≡ length vs → find_point leave (get_or vs i d).step r.first (points vs) ≡ None
    by [] h l = refl
    by (x ∷ xs) h l = no_leave_after x xs (suc r.first) i d h l

-- ---- the visits of one cart in the row

-- the visits of cart number n with their entry events, the first numbered e
abbrev pub cart_row : ℕ → ℕ → List Visit → List Entry
cart_row n e [] = []
cart_row n e (x ∷ xs) = record { visit = stop n x; event = e } ∷ cart_row n (e + 3) xs

-- they stand before those of others, which go on behind their points
entered_cart : (n e : ℕ) (vs : List Visit) (rest : List Stop) → ((x : Visit) → not_last (stop n x) rest ≡ false)
    → entered e (map (stop n) vs ++ rest) ≡ cart_row n e vs ++ entered (e + length (points vs)) rest
unfolding entered points points_after not_last stop
entered_cart n e [] rest h = let same : e ≡ e + 0 = omega arith in ap (λ (m : ℕ). entered m rest) same
entered_cart n e (x ∷ []) rest h = ap (λ (b : Bool). record { visit = stop n x; event = e } ∷ entered (e + cond b 3 1) rest) (h x)
entered_cart n e (x ∷ (y ∷ ys)) rest h =
    let later : e + 3 + length (points (y ∷ ys)) ≡ e + length (points (x ∷ (y ∷ ys))) = omega arith in
    ap (λ (b : Bool). record { visit = stop n x; event = e } ∷ entered (e + cond b 3 1) (map (stop n) (y ∷ ys) ++ rest)) (eq-eqb n n refl)
    ∙ ap (λ (r : List Entry). record { visit = stop n x; event = e } ∷ r) (entered_cart n (e + 3) (y ∷ ys) rest h)
    ∙ ap (λ (m : ℕ). record { visit = stop n x; event = e } ∷ (cart_row n (e + 3) (y ∷ ys) ++ entered m rest)) later

-- after the last visit of a cart comes one of a later cart, or none
pub goes_no_further : (v : Stop) (n : ℕ) (ps : List (List ℕ)) → v.cart < n → not_last v (stops n ps) ≡ false
unfolding not_last stops visits_of stop
goes_no_further v n [] l = refl
goes_no_further v n ([] ∷ ps) l = goes_no_further v (suc n) ps (omega arith)
goes_no_further v n ((c ∷ cs) ∷ ps) l = ne_eqb v.cart n (λ q. omega arith)

-- so the visits of the first of some carts
pub entered_path : (n e : ℕ) (p : List ℕ) (ps : List (List ℕ))
    → entered e (stops n (p ∷ ps)) ≡ cart_row n e (visits_of p) ++ entered (e + length (points (visits_of p))) (stops (suc n) ps)
unfolding stops stop
entered_path n e p ps = entered_cart n e (visits_of p) (stops (suc n) ps) (λ x. goes_no_further (stop n x) (suc n) ps (omega arith))

-- ---- other carts along the row

-- the visits of v's own cart are passed over
pass_own : (v : Entry) (k n e : ℕ) (vs : List Visit) (rest : List Entry) → eqb v.visit.cart n ≡ true
    → later_bounds v k (cart_row n e vs ++ rest) ≡ later_bounds v k rest
unfolding later_bounds counts stop
pass_own v k n e [] rest h = refl
pass_own v k n e (x ∷ xs) rest h =
    ap (λ (b : Bool). cond (not b && not (eqb k n) && (ltb v.visit.step x.step && eqb v.visit.cell x.cell)) (no_earlier (v.event + 1) (e - 1) ∷ later_bounds v n more) (later_bounds v k more)) h
    ∙ pass_own v k n (e + 3) xs rest h
  where
    more : List Entry
    more = cart_row n (e + 3) xs ++ rest

-- so are those of the cart counted last
pass_counted : (v : Entry) (n e : ℕ) (vs : List Visit) (rest : List Entry) → later_bounds v n (cart_row n e vs ++ rest) ≡ later_bounds v n rest
unfolding later_bounds counts stop
pass_counted v n e [] rest = refl
pass_counted v n e (x ∷ xs) rest =
    by (eqb v.visit.cart n) (eq-eqb n n refl) (ltb v.visit.step x.step && eqb v.visit.cell x.cell) ∙ pass_counted v n (e + 3) xs rest
  where
    more : List Bound
    more = later_bounds v n (cart_row n (e + 3) xs ++ rest)

    by : (a : Bool) → eqb n n ≡ true → (t : Bool) → cond (not a && not (eqb n n) && t) (no_earlier (v.event + 1) (e - 1) ∷ more) more ≡ more
    by true q t = refl
    by false q t = ap (λ (b : Bool). cond (not b && t) (no_earlier (v.event + 1) (e - 1) ∷ more) more) q

-- the entry event of the first visit that is later than x and to its cell
first_entry : Visit → ℕ → List Visit → Option ℕ
first_entry x e [] = None
first_entry x e (y ∷ ys) = cond (ltb x.step y.step && eqb x.cell y.cell) (Some e) (first_entry x (e + 3) ys)

-- those of another cart give one bound, if one is later and to v's cell
pass_other : (a u : ℕ) (x : Visit) (k n e : ℕ) (vs : List Visit) (rest : List Entry) → eqb a n ≡ false → eqb k n ≡ false
    → later_bounds (record { visit = stop a x; event = u }) k (cart_row n e vs ++ rest)
    ≡ elim (first_entry x e vs) [
      | None ↦ later_bounds (record { visit = stop a x; event = u }) k rest
      | Some f ↦ no_earlier (u + 1) (f - 1) ∷ later_bounds (record { visit = stop a x; event = u }) n rest
    ]
unfolding later_bounds counts stop first_entry
pass_other a u x k n e [] rest h i = refl
pass_other a u x k n e (y ∷ ys) rest h i =
    ap (λ (b : Bool). cond (not b && not (eqb k n) && t) (here ∷ later_bounds v n more) (later_bounds v k more)) h
    ∙ ap (λ (b : Bool). cond (not b && t) (here ∷ later_bounds v n more) (later_bounds v k more)) i
    ∙ by t (pass_other a u x k n (e + 3) ys rest h i)
  where
    v : Entry
    v = record { visit = stop a x; event = u }

    more : List Entry
    more = cart_row n (e + 3) ys ++ rest

    here : Bound
    here = no_earlier (u + 1) (e - 1)

    t : Bool
    t = ltb x.step y.step && eqb x.cell y.cell

    by : (b : Bool) → later_bounds v k more ≡ elim (first_entry x (e + 3) ys) [ None ↦ later_bounds v k rest | Some f ↦ no_earlier (u + 1) (f - 1) ∷ later_bounds v n rest ]
        → cond b (here ∷ later_bounds v n more) (later_bounds v k more)
        ≡ elim (cond b (Some e) (first_entry x (e + 3) ys)) [ None ↦ later_bounds v k rest | Some f ↦ no_earlier (u + 1) (f - 1) ∷ later_bounds v n rest ]
    by true q = ap (λ (r : List Bound). here ∷ r) (pass_counted v n (e + 3) ys rest)
    by false q = q

-- ---- the bounds of one visit

-- where the first later visit stands, and its entry event
first_entry_is : (x : Visit) (vs : List Visit) (e : ℕ) (d : Visit)
    → ((first_later x vs ≡ None) × (first_entry x e vs ≡ None))
    ⊎ ((i : ℕ) × (i < length vs) × (first_later x vs ≡ Some (get_or vs i d)) × (first_entry x e vs ≡ Some (e + 3 * i)))
unfolding first_later first_entry
first_entry_is x [] e d = inl (refl, refl)
first_entry_is x (y ∷ ys) e d = by (ltb x.step y.step && eqb x.cell y.cell) (first_entry_is x ys (e + 3) d)
  where
    by : (b : Bool)
        → ((first_later x ys ≡ None) × (first_entry x (e + 3) ys ≡ None))
        ⊎ ((i : ℕ) × (i < length ys) × (first_later x ys ≡ Some (get_or ys i d)) × (first_entry x (e + 3) ys ≡ Some (e + 3 + 3 * i)))
        → ((cond b (Some y) (first_later x ys) ≡ None) × (cond b (Some e) (first_entry x (e + 3) ys) ≡ None))
        ⊎ ((i : ℕ) × (i < length (y ∷ ys)) × (cond b (Some y) (first_later x ys) ≡ Some (get_or (y ∷ ys) i d))
        × (cond b (Some e) (first_entry x (e + 3) ys) ≡ Some (e + 3 * i)))
    by true h = let same : e ≡ e + 3 * 0 = omega arith in inr (0, omega arith, refl, ap Some same)
    by false (inl h) = inl h
    by false (inr (i, l, a, b)) = let next : e + 3 + 3 * i ≡ e + 3 * suc i = omega arith in inr (suc i, omega (arith, l), a, b ∙ ap Some next)

-- the first visit begins at step 0
first_step : (q : List ℕ) (d : Visit) → 0 < length (visits_of q) → (get_or (visits_of q) 0 d).step ≡ 0
unfolding visits_of
first_step [] d l = absurd (omega arith)
first_step (c ∷ cs) d l = refl

-- from a leave point to the approach point of the first later visit of a path's route, which is the event before its entry
bound_found : (j : Route) (x : Visit) (u n : ℕ) (c : Cart) (q : List ℕ) (e : ℕ) → event_of leave j x ≡ Some u
    → order_bound j x (record { number = n; cart = c; visits = visits_of q; first = e }) (first_later x (visits_of q))
    ≡ elim (first_entry x e (visits_of q)) [ None ↦ [] | Some f ↦ no_earlier u (f - 1) ∷ [] ]
unfolding order_bound between
bound_found j x u n c q e h = ⊎_elim nothing found (first_entry_is x (visits_of q) e no_visit)
  where
    no_visit : Visit
    no_visit = record { step = 0; cell = 0 }

    k : Route
    k = record { number = n; cart = c; visits = visits_of q; first = e }

    bound : Option ℕ → List Bound
    bound o = elim o [ None ↦ [] | Some f ↦ no_earlier u (f - 1) ∷ [] ]

    nothing : (first_later x (visits_of q) ≡ None) × (first_entry x e (visits_of q) ≡ None) → order_bound j x k (first_later x (visits_of q)) ≡ bound (first_entry x e (visits_of q))
    nothing (a, b) = ap (order_bound j x k) a ∙ ap bound (sym b)

    at : (i : ℕ) → i < length (visits_of q) → first_later x (visits_of q) ≡ Some (get_or (visits_of q) i no_visit)
        → event_of approach k (get_or (visits_of q) i no_visit) ≡ Some (e + 3 * i - 1)
    at zero l a =
        let f : FirstLater x (visits_of q) (get_or (visits_of q) 0 no_visit) = first_later_is x (visits_of q) (get_or (visits_of q) 0 no_visit) a in
        absurd (omega (arith, f.later, first_step q no_visit l))
    at (suc i) l a = let same : e + (3 * i + 2) ≡ e + 3 * suc i - 1 = omega arith in approach_of k (visits_rise q) i no_visit l ∙ ap Some same

    found : (i : ℕ) × (i < length (visits_of q)) × (first_later x (visits_of q) ≡ Some (get_or (visits_of q) i no_visit)) × (first_entry x e (visits_of q) ≡ Some (e + 3 * i))
        → order_bound j x k (first_later x (visits_of q)) ≡ bound (first_entry x e (visits_of q))
    found (i, l, a, b) =
        ap (order_bound j x k) a
        ∙ ap (λ (o : Option ℕ). between o (event_of approach k (get_or (visits_of q) i no_visit))) h
        ∙ ap (between (Some u)) (at i l a)
        ∙ ap bound (sym b)

-- to all carts from number n on, where one before them was counted last
others_row : (cs : List Cart) (ps : List (List ℕ)) (n e : ℕ) (j : Route) (x : Visit) (u k : ℕ) → length cs ≡ length ps → k < n → event_of leave j x ≡ Some (u + 1)
    → flat_map (order_bounds_to j x) (routes n e cs ps) ≡ later_bounds (record { visit = stop j.number x; event = u }) k (entered e (stops n ps))
unfolding flat_map routes stops entered later_bounds order_bounds_to stop
others_row [] [] n e j x u k h l q = refl
others_row [] (p ∷ ps) n e j x u k h l q = absurd (omega arith)
others_row (c ∷ cs) [] n e j x u k h l q = absurd (omega arith)
others_row (c ∷ cs) (p ∷ ps) n e j x u k h l q =
    by (eqb j.number n) refl (λ m s. others_row cs ps (suc n) f j x u m (omega arith) s q)
    ∙ ap (later_bounds v k) (sym (entered_path n e p ps))
  where
    f : ℕ
    f = e + length (points (visits_of p))

    v : Entry
    v = record { visit = stop j.number x; event = u }

    after : List Entry
    after = entered f (stops (suc n) ps)

    others : List Bound
    others = flat_map (order_bounds_to j x) (routes (suc n) f cs ps)

    at : (o : Option ℕ) → ((m : ℕ) → m < suc n → others ≡ later_bounds v m after)
        → elim o [ None ↦ [] | Some g ↦ no_earlier (u + 1) (g - 1) ∷ [] ] ++ others
        ≡ elim o [ None ↦ later_bounds v k after | Some g ↦ no_earlier (u + 1) (g - 1) ∷ later_bounds v n after ]
    at None rest = rest k (omega arith)
    at (Some g) rest = ap (λ (r : List Bound). no_earlier (u + 1) (g - 1) ∷ r) (rest n (omega arith))

    by : (b : Bool) → eqb j.number n ≡ b → ((m : ℕ) → m < suc n → others ≡ later_bounds v m after)
        → cond b [] (order_bound j x (record { number = n; cart = c; visits = visits_of p; first = e }) (first_later x (visits_of p))) ++ others
        ≡ later_bounds v k (cart_row n e (visits_of p) ++ after)
    by true s rest = rest k (omega arith) ∙ sym (pass_own v k n e (visits_of p) after s)
    by false s rest =
        ap (λ (r : List Bound). r ++ others) (bound_found j x (u + 1) n c p e q)
        ∙ at (first_entry x e (visits_of p)) rest
        ∙ sym (pass_other j.number u x k n e (visits_of p) after s (ne_eqb k n (λ r. omega arith)))

-- a visit without a leave point has none
no_bounds : (j : Route) (x : Visit) (rs : List Route) → event_of leave j x ≡ None → flat_map (order_bounds_to j x) rs ≡ []
unfolding flat_map order_bounds_to order_bound between
no_bounds j x [] e = refl
no_bounds j x (k ∷ ks) e = by (eqb j.number k.number) (no_bounds j x ks e)
  where
    at : (o : Option Visit) → flat_map (order_bounds_to j x) ks ≡ [] → order_bound j x k o ++ flat_map (order_bounds_to j x) ks ≡ []
    at None h = h
    at (Some y) h = ap (λ (o : Option ℕ). between o (event_of approach k y) ++ flat_map (order_bounds_to j x) ks) e ∙ h

    by : (b : Bool) → flat_map (order_bounds_to j x) ks ≡ [] → cond b [] (order_bound j x k (first_later x k.visits)) ++ flat_map (order_bounds_to j x) ks ≡ []
    by true h = h
    by false h = at (first_later x k.visits) h

-- ---- the bounds of all visits

-- the visits of one cart, before those of others: all but the last give their bounds
cart_bounds : (all : List Entry) (n e : ℕ) (vs : List Visit) (rest : List Entry) (g : Visit → List Bound) (d : Visit)
    → ((i : ℕ) → suc i < length vs → g (get_or vs i d) ≡ later_bounds (record { visit = stop n (get_or vs i d); event = e + 3 * i }) 0 all)
    → ((i : ℕ) → suc i ≡ length vs → g (get_or vs i d) ≡ []) → ((x : Visit) (a : ℕ) → followed (record { visit = stop n x; event = a }) rest ≡ false)
    → flat_map g vs ++ row_from all rest ≡ row_from all (cart_row n e vs ++ rest)
unfolding flat_map row_from followed stop
cart_bounds all n e [] rest g d goes ends last = refl
cart_bounds all n e (x ∷ []) rest g d goes ends last =
    ap (λ (r : List Bound). (r ++ []) ++ row_from all rest) (ends 0 refl)
    ∙ ap (λ (b : Bool). cond b (later_bounds (record { visit = stop n x; event = e }) 0 all) [] ++ row_from all rest) (sym (last x e))
cart_bounds all n e (x ∷ (y ∷ ys)) rest g d goes ends last =
    let v : ℕ → Entry = λ a. record { visit = stop n x; event = a } in
    let first : e + 3 * 0 ≡ e = omega arith in
    append_assoc (g x) (flat_map g (y ∷ ys)) (row_from all rest)
    ∙ ap (λ (r : List Bound). r ++ (flat_map g (y ∷ ys) ++ row_from all rest)) (goes 0 (omega arith) ∙ ap (λ (a : ℕ). later_bounds (v a) 0 all) first)
    ∙ ap (λ (r : List Bound). later_bounds (v e) 0 all ++ r)
    (cart_bounds all n (e + 3) (y ∷ ys) rest g d (λ i l. goes (suc i) (omega arith) ∙ next i) (λ i l. ends (suc i) (omega arith)) last)
    ∙ ap (λ (b : Bool). cond b (later_bounds (v e) 0 all) [] ++ row_from all (cart_row n (e + 3) (y ∷ ys) ++ rest)) (sym (eq-eqb n n refl))
  where
    next : (i : ℕ) → later_bounds (record { visit = stop n (get_or (y ∷ ys) i d); event = e + 3 * suc i }) 0 all
        ≡ later_bounds (record { visit = stop n (get_or (y ∷ ys) i d); event = e + 3 + 3 * i }) 0 all
    next i = let same : e + 3 * suc i ≡ e + 3 + 3 * i = omega arith in ap (λ (a : ℕ). later_bounds (record { visit = stop n (get_or (y ∷ ys) i d); event = a }) 0 all) same

-- with an entry event a visit is followed as without
followed_is : (v : Stop) (a e : ℕ) (us : List Stop) → followed (record { visit = v; event = a }) (entered e us) ≡ not_last v us
unfolding followed entered not_last
followed_is v a e [] = refl
followed_is v a e (u ∷ us) = refl

-- the visits of carts from number n on
carts_row : (rs : List Route) (all : List Entry)
    → ((j : Route) (x : Visit) (u : ℕ) → event_of leave j x ≡ Some (u + 1) → flat_map (order_bounds_to j x) rs ≡ later_bounds (record { visit = stop j.number x; event = u }) 0 all)
    → (cs : List Cart) (ps : List (List ℕ)) (n e : ℕ) → length cs ≡ length ps
    → flat_map (λ (j : Route). flat_map (λ (x : Visit). flat_map (order_bounds_to j x) rs) j.visits) (routes n e cs ps) ≡ row_from all (entered e (stops n ps))
unfolding flat_map routes stops entered row_from stop
carts_row rs all h [] [] n e l = refl
carts_row rs all h [] (p ∷ ps) n e l = absurd (omega arith)
carts_row rs all h (c ∷ cs) [] n e l = absurd (omega arith)
carts_row rs all h (c ∷ cs) (p ∷ ps) n e l =
    ap (λ (r : List Bound). flat_map g (visits_of p) ++ r) (carts_row rs all h cs ps (suc n) f (omega arith))
    ∙ cart_bounds all n e (visits_of p) (entered f (stops (suc n) ps)) g no_visit goes ends
    (λ x a. followed_is (stop n x) a f (stops (suc n) ps) ∙ goes_no_further (stop n x) (suc n) ps (omega arith))
    ∙ ap (row_from all) (sym (entered_path n e p ps))
  where
    f : ℕ
    f = e + length (points (visits_of p))

    no_visit : Visit
    no_visit = record { step = 0; cell = 0 }

    j : Route
    j = record { number = n; cart = c; visits = visits_of p; first = e }

    g : Visit → List Bound
    g x = flat_map (order_bounds_to j x) rs

    goes : (i : ℕ) → suc i < length (visits_of p)
        → g (get_or (visits_of p) i no_visit) ≡ later_bounds (record { visit = stop n (get_or (visits_of p) i no_visit); event = e + 3 * i }) 0 all
    goes i l =
        let same : e + (3 * i + 1) ≡ e + 3 * i + 1 = omega arith in
        h j (get_or (visits_of p) i no_visit) (e + 3 * i) (leave_of j (visits_rise p) i no_visit l ∙ ap Some same)

    ends : (i : ℕ) → suc i ≡ length (visits_of p) → g (get_or (visits_of p) i no_visit) ≡ []
    ends i l = no_bounds j (get_or (visits_of p) i no_visit) rs (no_leave j (visits_rise p) i no_visit l)

-- the order bounds of a plan
pub row_bounds_are : (p : Plan) → length p.carts ≡ length p.paths → order_bounds (routes_of p) ≡ row_bounds (entered 1 (stops 1 p.paths))
unfolding order_bounds row_bounds routes_of
row_bounds_are p h =
    carts_row (routes_of p) (entered 1 (stops 1 p.paths)) (λ j x u q. others_row p.carts p.paths 1 1 j x u 0 h (omega arith) q) p.carts p.paths 1 1 h

-- ---- they go by the paths alone

-- a plan of paths has as many carts
pub of_paths_carts : (ps : List (List ℕ)) → length (of_paths ps).carts ≡ length (of_paths ps).paths
unfolding of_paths
of_paths_carts ps = length-map ps (λ (x : List ℕ). record { fastest = 0; slowest = None })

-- the order bounds of a plan of paths
pub of_paths_row : (ps : List (List ℕ)) → order_bounds (routes_of (of_paths ps)) ≡ row_bounds (entered 1 (stops 1 ps))
unfolding of_paths
of_paths_row ps = row_bounds_are (of_paths ps) (of_paths_carts ps)

-- those of a plan are those of its paths
pub orders_by_paths : (p : Plan) → length p.carts ≡ length p.paths → order_bounds (routes_of p) ≡ order_bounds (routes_of (of_paths p.paths))
orders_by_paths p h = row_bounds_are p h ∙ sym (of_paths_row p.paths)

-- ---- how many there are

-- the visit of an entry
abbrev pub visit_of : Entry → Stop
visit_of v = v.visit

-- from one visit
pub later_count : (v : Entry) (k : ℕ) (us : List Entry) → length (later_bounds v k us) ≡ later_carts v.visit k (map visit_of us)
unfolding later_bounds later_carts
later_count v k [] = refl
later_count v k (u ∷ us) = by (counts v.visit k u.visit) (later_count v u.visit.cart us) (later_count v k us)
  where
    by : (b : Bool) → length (later_bounds v u.visit.cart us) ≡ later_carts v.visit u.visit.cart (map visit_of us)
        → length (later_bounds v k us) ≡ later_carts v.visit k (map visit_of us)
        → length (cond b (no_earlier (v.event + 1) (u.event - 1) ∷ later_bounds v u.visit.cart us) (later_bounds v k us))
        ≡ cond b (suc (later_carts v.visit u.visit.cart (map visit_of us))) (later_carts v.visit k (map visit_of us))
    by true h g = ap suc h
    by false h g = g

-- whether one is followed
followed_visit : (v : Entry) (us : List Entry) → followed v us ≡ not_last v.visit (map visit_of us)
unfolding followed not_last
followed_visit v [] = refl
followed_visit v (u ∷ us) = refl

-- from these visits on
pub row_count : (all us : List Entry) → length (row_from all us) ≡ orders_from (map visit_of all) (map visit_of us)
unfolding row_from orders_from
row_count all [] = refl
row_count all (v ∷ us) =
    length-append (cond (followed v us) (later_bounds v 0 all) []) (row_from all us)
    ∙ ap₂ (λ (m n : ℕ). m + n) (by (followed v us) ∙ ap (λ (b : Bool). cond b (later_carts v.visit 0 (map visit_of all)) 0) (followed_visit v us)) (row_count all us)
  where
    by : (b : Bool) → length (cond b (later_bounds v 0 all) []) ≡ cond b (later_carts v.visit 0 (map visit_of all)) 0
    by true = later_count v 0 all
    by false = refl

-- the visits of a row with its entry events are the row
entered_visits : (e : ℕ) (us : List Stop) → map visit_of (entered e us) ≡ us
unfolding entered
entered_visits e [] = refl
entered_visits e (u ∷ us) = ap (λ (r : List Stop). u ∷ r) (entered_visits (e + cond (not_last u us) 3 1) us)

-- so of one whose entry events are given by their places
pub placed_visits : (i : ℕ) (us : List Stop) → map visit_of (placed i us) ≡ us
unfolding placed
placed_visits i [] = refl
placed_visits i (u ∷ us) = ap (λ (r : List Stop). u ∷ r) (placed_visits (suc i) us)

-- the order bounds of a plan are those counted among its visits
pub order_count_is : (p : Plan) → length p.carts ≡ length p.paths → length (order_bounds (routes_of p)) ≡ orders_among (stops 1 p.paths)
unfolding orders_among row_bounds
order_count_is p h =
    let row : List Entry = entered 1 (stops 1 p.paths) in
    ap (λ (l : List Bound). length l) (row_bounds_are p h) ∙ row_count row row ∙ ap (λ (us : List Stop). orders_from us us) (entered_visits 1 (stops 1 p.paths))

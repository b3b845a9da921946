-- The numbers of things in a row; and an event's number is its place in the list of events: that of a cart's i-th point is the cart's first plus i.
-- Assumes nothing.
use Prim.Native.Nat.{ℕ, suc, ◌+◌, ◌≤◌, ◌<◌}
use native.Mathlib.Nat.{eq-or-lt_of_le}
use native.Mathlib.Omega.{arith}
use mathlib.Core.Path.{◌≡◌, refl, ap, sym, ◌∙◌, subst}
use mathlib.Core.Logic.{⊎_elim}
use mathlib.Core.List.Memᴰ
use mathlib.Core.List.{List, [], ◌∷◌, ◌++◌, map, flat_map, append_assoc, Memᴰ}
use lib.ListN.{length, get_or, length-append, length-map, get_or-append, get_or-map}
use lib.Seq.{get_or-append-add, get_or-append_seam}
use Rattle.floor.specs.Plan.{Plan}
use Rattle.floor.specs.declared.Cart.{Cart}
use Rattle.network.specs.Events.{Point, Route, routes, routes_of, route_points, points, visits_of, Event, start, finish, passing, events, event_count, finish_event, places}

-- ---- the numbers of things in a row

-- of two rows, one behind the other
pub places_append : {A : Type 0} (e : ℕ) (xs ys : List A) → places e (xs ++ ys) ≡ places e xs ++ places (e + length xs) ys
unfolding places
places_append e [] ys = ap (λ (n : ℕ). places n ys) (omega arith)
places_append e (x ∷ xs) ys =
    ap (λ (l : List ℕ). e ∷ l)
    (places_append (suc e) xs ys ∙ ap (λ (n : ℕ). places (suc e) xs ++ places n ys) (omega arith))

-- they go from the first on, one for each
pub places_within : {A : Type 0} (e : ℕ) (xs : List A) (n : ℕ) → Memᴰ n (places e xs) → (e ≤ n) × (n < e + length xs)
unfolding places
places_within e [] n m = absurd (Memᴰ.not-nil m)
places_within e (x ∷ xs) n m =
    ⊎_elim
    (λ q. (omega (arith, q), omega (arith, q)))
    (λ t. let (l, h) = places_within (suc e) xs n t in (omega (arith, l), omega (arith, h)))
    (Memᴰ.cases_cons m)

-- and every number from the first on, as many as there are things, is one of them
pub in_places : {A : Type 0} (e : ℕ) (xs : List A) (n : ℕ) → e ≤ n → n < e + length xs → Memᴰ n (places e xs)
unfolding places
in_places e [] n l h = absurd (omega arith)
in_places e (x ∷ xs) n l h =
    ⊎_elim (λ q. Memᴰ.head (sym q)) (λ k. Memᴰ.tail (in_places (suc e) xs n k (omega (arith, h)))) (eq-or-lt_of_le l)

-- ---- events

-- the events of a route
abbrev of_route : Route → List Event
of_route r = map (passing r.number) (route_points r)

-- the i-th point among those of a route, in front of others
in_route : (r : Route) (rest : List Event) (i : ℕ) (d : Point) → i < length (route_points r)
    → get_or (of_route r ++ rest) i (passing r.number d) ≡ passing r.number (get_or (route_points r) i d)
in_route r rest i d l =
    get_or-append (of_route r) rest (passing r.number d) i (subst (λ (n : ℕ). i < n) (sym (length-map (route_points r) (passing r.number))) l)
    ∙ get_or-map (passing r.number) (route_points r) i d

-- past the events before it
past : (before after : List Event) (e i : ℕ) (d : Event) → length before ≡ e → get_or (before ++ after) (e + i) d ≡ get_or after i d
past before after e i d h = subst (λ (n : ℕ). get_or (before ++ after) (n + i) d ≡ get_or after i d) h (get_or-append-add before after i d)

-- what is to be shown of a list of routes, whatever stands before and after their events
abbrev Placed : ℕ → List Route → Type 0
Placed e rs =
    (before after : List Event) → length before ≡ e
    → (r : Route) → Memᴰ r rs → (i : ℕ) (d : Point) → i < length (route_points r)
    → get_or (before ++ (flat_map of_route rs ++ after)) (r.first + i) (passing r.number d) ≡ passing r.number (get_or (route_points r) i d)

-- one route more in front
place_more : (one : Route) (rs : List Route) → Placed (one.first + length (route_points one)) rs → Placed one.first (one ∷ rs)
unfolding flat_map
place_more one rs more before after h r m i d l = ⊎_elim here there (Memᴰ.cases_cons m)
  where
    shown : List Event → Route → Type 0
    shown all x = i < length (route_points x) → get_or all (x.first + i) (passing x.number d) ≡ passing x.number (get_or (route_points x) i d)

    inner : before ++ (flat_map of_route (one ∷ rs) ++ after) ≡ before ++ (of_route one ++ (flat_map of_route rs ++ after))
    inner = ap (λ (x : List Event). before ++ x) (append_assoc (of_route one) (flat_map of_route rs) after)

    shifted : before ++ (flat_map of_route (one ∷ rs) ++ after) ≡ (before ++ of_route one) ++ (flat_map of_route rs ++ after)
    shifted = inner ∙ sym (append_assoc before (of_route one) (flat_map of_route rs ++ after))

    longer : length (before ++ of_route one) ≡ one.first + length (route_points one)
    longer = omega (arith, length-append before (of_route one), length-map (route_points one) (passing one.number), h)

    here : r ≡ one → get_or (before ++ (flat_map of_route (one ∷ rs) ++ after)) (r.first + i) (passing r.number d) ≡ passing r.number (get_or (route_points r) i d)
    here q =
        subst (shown (before ++ (flat_map of_route (one ∷ rs) ++ after))) (sym q)
        (λ k. ap (λ (x : List Event). get_or x (one.first + i) (passing one.number d)) inner
        ∙ past before (of_route one ++ (flat_map of_route rs ++ after)) one.first i (passing one.number d) h
        ∙ in_route one (flat_map of_route rs ++ after) i d k)
        l

    there : Memᴰ r rs → get_or (before ++ (flat_map of_route (one ∷ rs) ++ after)) (r.first + i) (passing r.number d) ≡ passing r.number (get_or (route_points r) i d)
    there t =
        ap (λ (x : List Event). get_or x (r.first + i) (passing r.number d)) shifted
        ∙ more (before ++ of_route one) after longer r t i d l

placed : (cs : List Cart) (ps : List (List ℕ)) (j e : ℕ) → Placed e (routes j e cs ps)
unfolding routes route_points
placed [] ps j e = λ before after h r m i d l. absurd (Memᴰ.not-nil m)
placed (c ∷ cs) [] j e = λ before after h r m i d l. absurd (Memᴰ.not-nil m)
placed (c ∷ cs) (p ∷ ps) j e =
    place_more (record { number = j; cart = c; visits = visits_of p; first = e })
    (routes (suc j) (e + length (points (visits_of p))) cs ps)
    (placed cs ps (suc j) (e + length (points (visits_of p))))

-- of every plan
pub point_placed : (p : Plan) (r : Route) → Memᴰ r (routes_of p) → (i : ℕ) (d : Point) → i < length (route_points r)
    → get_or (events p) (r.first + i) (passing r.number d) ≡ passing r.number (get_or (route_points r) i d)
unfolding events routes_of
point_placed p r m i d l = placed p.carts p.paths 1 1 (start ∷ []) (finish ∷ []) refl r m i d l

-- "The finish is the last event."
pub finish_placed : (p : Plan) → get_or (events p) (finish_event p) start ≡ finish
unfolding events event_count finish_event
finish_placed p =
    let es : List Event = flat_map of_route (routes_of p) in
    let e : finish_event p ≡ suc (length es) = omega (arith, length-append es (finish ∷ [])) in
    ap (λ (n : ℕ). get_or (start ∷ (es ++ (finish ∷ []))) n start) e ∙ get_or-append_seam es finish [] start

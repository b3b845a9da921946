-- The numbers of the carts' first events, one after the other: between two of them stand a cart's points. Assumes nothing.
use Prim.Native.Nat.{ℕ, zero, suc, ◌+◌, ◌-◌, ◌≤◌, ◌<◌}
use native.Mathlib.Omega.{arith}
use mathlib.Core.Path.{◌≡◌, refl, ap, sym, ◌∙◌, subst}
use mathlib.Core.List.{List, [], ◌∷◌, ◌++◌, map, flat_map, Memᴰ}
use lib.ListN.{length, get_or, drop, length-append}
use lib.Seq.{get_or-take}
use Rattle.floor.specs.Plan.{Plan}
use Rattle.floor.specs.declared.Cart.{Cart}
use Rattle.network.specs.Events.{visits_of, points, Route, routes, routes_of, route_points, event_count, finish_event}
use Rattle.network.proofs.Routes.{event_count_is}
use Rattle.limits.specs.Orders.{first_events}
use Rattle.schedule.specs.Book.{points_of}
use Rattle.book.specs.Replaying.{Firsts}

-- each route begins at its number, and its points fill the numbers up to the next
abbrev pub Along : List Route → List ℕ → Type 0
Along [] fs = Unit {0}
Along (r ∷ rs) fs = (get_or fs 0 0 ≡ r.first) × (get_or fs 1 0 ≡ r.first + length (route_points r)) × Along rs (drop 1 fs)

-- the numbers of routes whose events are numbered from e on, and of what follows
abbrev pub numbers : ℕ → ℕ → List Cart → List (List ℕ) → List ℕ
numbers j e cs ps = map (λ (r : Route). r.first) (routes j e cs ps) ++ ((e + length (flat_map route_points (routes j e cs ps))) ∷ [])

-- the first of them
pub numbers_first : (cs : List Cart) (ps : List (List ℕ)) (j e : ℕ) → numbers j e cs ps ≡ e ∷ drop 1 (numbers j e cs ps)
unfolding routes flat_map
numbers_first [] ps j e = let z : e + 0 ≡ e = omega arith in ap (λ (n : ℕ). n ∷ []) z
numbers_first (c ∷ cs) [] j e = let z : e + 0 ≡ e = omega arith in ap (λ (n : ℕ). n ∷ []) z
numbers_first (c ∷ cs) (p ∷ ps) j e = refl

-- those after it
pub numbers_next : (c : Cart) (cs : List Cart) (p : List ℕ) (ps : List (List ℕ)) (j e : ℕ)
    → drop 1 (numbers j e (c ∷ cs) (p ∷ ps)) ≡ numbers (suc j) (e + length (points (visits_of p))) cs ps
unfolding routes flat_map route_points
numbers_next c cs p ps j e =
    let f : ℕ = e + length (points (visits_of p)) in
    let rest : List Route = routes (suc j) f cs ps in
    let last : e + length (points (visits_of p) ++ flat_map route_points rest) ≡ f + length (flat_map route_points rest) =
    omega (arith, length-append (points (visits_of p)) (flat_map route_points rest)) in
    ap (λ (n : ℕ). map (λ (r : Route). r.first) rest ++ (n ∷ [])) last

-- all of them
numbers_along : (cs : List Cart) (ps : List (List ℕ)) (j e : ℕ) → Along (routes j e cs ps) (numbers j e cs ps)
unfolding routes route_points
numbers_along [] ps j e = tt
numbers_along (c ∷ cs) [] j e = tt
numbers_along (c ∷ cs) (p ∷ ps) j e =
    let f : ℕ = e + length (points (visits_of p)) in
    let next : drop 1 (numbers j e (c ∷ cs) (p ∷ ps)) ≡ numbers (suc j) f cs ps = numbers_next c cs p ps j e in (
      refl,
      ap (λ (l : List ℕ). get_or l 0 0) (next ∙ numbers_first cs ps (suc j) f),
      subst (Along (routes (suc j) f cs ps)) (sym next) (numbers_along cs ps (suc j) f),
    )

-- none is past the last
numbers_most : (cs : List Cart) (ps : List (List ℕ)) (j e i : ℕ) → get_or (numbers j e cs ps) i 0 ≤ e + length (flat_map route_points (routes j e cs ps))
unfolding routes flat_map route_points
numbers_most [] ps j e zero = omega arith
numbers_most [] ps j e (suc i) = omega arith
numbers_most (c ∷ cs) [] j e zero = omega arith
numbers_most (c ∷ cs) [] j e (suc i) = omega arith
numbers_most (c ∷ cs) (p ∷ ps) j e zero = omega arith
numbers_most (c ∷ cs) (p ∷ ps) j e (suc i) =
    let f : ℕ = e + length (points (visits_of p)) in
    let rest : List Route = routes (suc j) f cs ps in
    let later : get_or (numbers (suc j) f cs ps) i 0 ≤ f + length (flat_map route_points rest) = numbers_most cs ps (suc j) f i in
    let next : get_or (drop 1 (numbers j e (c ∷ cs) (p ∷ ps))) i 0 ≡ get_or (numbers (suc j) f cs ps) i 0 = ap (λ (l : List ℕ). get_or l i 0) (numbers_next c cs p ps j e) in
    let most : get_or (drop 1 (numbers j e (c ∷ cs) (p ∷ ps))) i 0 ≤ e + length (points (visits_of p) ++ flat_map route_points rest) =
    omega (arith, later, next, length-append (points (visits_of p)) (flat_map route_points rest)) in
    most

-- a plan's
pub first_events_are : (p : Plan) → first_events p ≡ numbers 1 1 p.carts p.paths
unfolding first_events routes_of finish_event
first_events_are p =
    let last : event_count p - 1 ≡ 1 + length (flat_map route_points (routes 1 1 p.carts p.paths)) = omega (arith, event_count_is p) in
    ap (λ (n : ℕ). map (λ (r : Route). r.first) (routes 1 1 p.carts p.paths) ++ (n ∷ [])) last

first_events_along : (p : Plan) → Along (routes_of p) (first_events p)
unfolding routes_of
first_events_along p = subst (Along (routes 1 1 p.carts p.paths)) (sym (first_events_are p)) (numbers_along p.carts p.paths 1 1)

-- by its place
along_at : (rs : List Route) (fs : List ℕ) (i : ℕ) → Along rs fs → i < length rs
    → get_or fs (suc i) 0 ≡ get_or fs i 0 + get_or (map (λ (r : Route). length (route_points r)) rs) i 0
along_at [] fs i a h = absurd (omega arith)
along_at (r ∷ rs) [] zero a h = omega (arith, a.0, a.1)
along_at (r ∷ rs) (f ∷ fs) zero a h = a.1 ∙ ap (λ (n : ℕ). n + length (route_points r)) (sym a.0)
along_at (r ∷ rs) [] (suc i) a h = along_at rs [] i a.2 (omega arith)
along_at (r ∷ rs) (f ∷ fs) (suc i) a h = along_at rs fs i a.2 (omega arith)

-- a route with a point has one counted
point_there : (rs : List Route) (i : ℕ) → ((r : Route) → Memᴰ r rs → 1 ≤ length (route_points r)) → i < length rs
    → 1 ≤ get_or (map (λ (r : Route). length (route_points r)) rs) i 0
point_there [] i h l = absurd (omega arith)
point_there (r ∷ rs) zero h l = h r (Memᴰ.head refl)
point_there (r ∷ rs) (suc i) h l = point_there rs i (λ x m. h x (Memᴰ.tail m)) (omega arith)

module _ (p : Plan) (carts : ℕ) (firsts : List ℕ) (f : Firsts p carts firsts) where
  -- the numbers in the array
  first_at : (i : ℕ) → i ≤ carts → get_or firsts i 0 ≡ get_or (first_events p) i 0
  first_at i h = sym (get_or-take (suc carts) firsts i 0 (omega arith)) ∙ ap (λ (l : List ℕ). get_or l i 0) f.are

  -- the points of cart c stand between its number and the next
  pub points_between : (c : ℕ) → 1 ≤ c → c ≤ carts → get_or firsts c 0 ≡ get_or firsts (c - 1) 0 + points_of p c
  unfolding points_of
  points_between c l h =
      let i : ℕ = c - 1 in
      let e : c ≡ suc i = omega arith in
      let inside : i < length (routes_of p) = omega (arith, f.routes_are) in
      first_at c h
      ∙ ap (λ (n : ℕ). get_or (first_events p) n 0) e
      ∙ along_at (routes_of p) (first_events p) i (first_events_along p) inside
      ∙ ap (λ (n : ℕ). n + get_or (map (λ (r : Route). length (route_points r)) (routes_of p)) i 0) (sym (first_at i (omega arith)))

  -- none is over 4,096
  first_most : (i : ℕ) → i ≤ carts → get_or firsts i 0 ≤ 4096
  unfolding routes_of
  first_most i h =
      let far : get_or firsts i 0 ≤ 1 + length (flat_map route_points (routes 1 1 p.carts p.paths)) =
      subst (λ (n : ℕ). n ≤ 1 + length (flat_map route_points (routes 1 1 p.carts p.paths)))
      (sym (first_at i h ∙ ap (λ (l : List ℕ). get_or l i 0) (first_events_are p))) (numbers_most p.carts p.paths 1 1 i) in
      omega (arith, far, event_count_is p, f.few)

  -- and they rise
  pub firsts_rise : (i : ℕ) → i < carts → (get_or firsts i 0 < get_or firsts (i + 1) 0) × (get_or firsts (i + 1) 0 ≤ 4096)
  unfolding points_of
  firsts_rise i h =
      let back : i + 1 - 1 ≡ i = omega arith in
      let between : get_or firsts (i + 1) 0 ≡ get_or firsts (i + 1 - 1) 0 + points_of p (i + 1) = points_between (i + 1) (omega arith) (omega arith) in
      let some : 1 ≤ points_of p (i + 1) = point_there (routes_of p) (i + 1 - 1) f.have_points (omega (arith, f.routes_are)) in
      let same : get_or firsts (i + 1 - 1) 0 ≡ get_or firsts i 0 = ap (λ (n : ℕ). get_or firsts n 0) back in
      (omega arith, first_most (i + 1) (omega arith))

-- The bounds of a plan in arrays: start, travel, order and finish bounds, one behind the other, and what is answered. Assumes nothing.
use Rattle.std.specs.Prelude.{Option, None, Some}
use Prim.Native.Nat.{ℕ, zero, suc, ◌+◌, ◌*◌, ◌-◌, ◌≤◌, ◌<◌}
use native.Mathlib.Nat.{min-le_right}
use native.Mathlib.Numerals.{add-one}
use native.Mathlib.Omega.{arith}
use mathlib.Core.Path.{◌≡◌, refl, ap, ap₂, sym, ◌∙◌, subst}
use mathlib.Core.Bool.{Bool, true, cond}
use mathlib.Core.List.{List, [], ◌∷◌, ◌++◌, map}
use lib.ListN.{length, take, drop, get_or, length-take, drop_of_length-le}
use lib.Seq.{drop-cons, take-nil, take-take, get_or-take}
use Rattle.words.specs.Words.{written}
use Rattle.words.proofs.Reading.{written_front}
use Rattle.floor.specs.Plan.{Plan}
use Rattle.floor.specs.declared.Cart.{Cart}
use Rattle.collisions.specs.Meetings.{paths_of}
use Rattle.tables.specs.Arrays.{carts_in, paths_in}
use Rattle.tables.proofs.CartRecords.{carts_in_length}
use Rattle.tables.proofs.PathRecords.{paths_in_length}
use Rattle.network.specs.Events.{route_points, routes, routes_of, event_count, last_event, finish_event}
use Rattle.network.specs.Bounds.{Bound, start_bounds, travel_bounds, order_bounds, no_earlier, finish_bounds, bounds}
use Rattle.limits.specs.Limits.{of_paths}
use Rattle.limits.specs.Counts.{total, moves}
use Rattle.limits.specs.Orders.{first_events, events_kept, firsts_fitting, orders_fitting}
use Rattle.limits.proofs.Counts.{path_points, events_are, bounds_are}
use Rattle.limits.proofs.LimitSteps.{all_events}
use Rattle.limits.proofs.Firsts.{firsts_from, first_events_are, firsts_count, kept_says, fit_there}
use Rattle.limits.proofs.OrderSteps.{orders_numbered}
use Rattle.limits.proofs.RowBounds.{of_paths_carts, orders_by_paths, order_count_is}
use Rattle.bounds.specs.declared.Network.{Network}
use Rattle.bounds.specs.declared.numbers.Numbers.{Numbers}
use Rattle.bounds.specs.Network.{plan_in, network_of, network_answer}
use Rattle.bounds.specs.Writing.{roads_of, start_to, finish_before}
use Rattle.network.specs.BoundArrays.{bound_of, hi_kept, Puts}
use Rattle.network.specs.declared.BoundArrays.{BoundArrays}
use Rattle.network.proofs.Putting.{puts_more}

-- ---- a bound for each number of a row

-- one, and those after it
pub row_next : (f : ℕ → Bound) (s : List ℕ) (i : ℕ) → i < length s → map f (drop i s) ≡ (f (get_or s i 0) ∷ []) ++ map f (drop (i + 1) s)
row_next f s i h = ap (map f) (drop-cons s i 0 h) ∙ ap (λ (m : ℕ). f (get_or s i 0) ∷ map f (drop m s)) (sym (add-one i))

-- none
pub row_last : (f : ℕ → Bound) (s : List ℕ) (i : ℕ) → length s ≤ i → map f (drop i s) ≡ []
row_last f s i h = ap (map f) (drop_of_length-le s {i = i} h)

-- as the code puts them
pub start_is : (e : ℕ) → start_to e ≡ bound_of (record { from = 0; to = e; lo = 0; hi = Some 0 })
unfolding start_to hi_kept
start_is e = refl

pub finish_is : (f e : ℕ) → finish_before f e ≡ bound_of (record { from = e - 1; to = f; lo = 0; hi = None })
unfolding finish_before no_earlier hi_kept
finish_is f e = refl

-- ---- by first events

-- the start bounds
starts_by : (cs : List Cart) (ps : List (List ℕ)) (j e : ℕ) → length cs ≡ length ps → map start_to (take (length ps) (firsts_from e ps)) ≡ start_bounds (routes j e cs ps)
unfolding start_bounds routes start_to
starts_by [] [] j e h = refl
starts_by [] (p ∷ ps) j e h = absurd (omega arith)
starts_by (c ∷ cs) [] j e h = absurd (omega arith)
starts_by (c ∷ cs) (p ∷ ps) j e h = ap (λ (l : List Bound). start_to e ∷ l) (starts_by cs ps (suc j) (e + path_points p) (omega arith))

-- the finish bounds: a cart's last event stands before the next cart's first, or the finish
finishes_by : (f : ℕ) (cs : List Cart) (ps : List (List ℕ)) (j e : ℕ) → length cs ≡ length ps
    → map (finish_before f) (take (length ps) (drop 1 (firsts_from e ps))) ≡ finish_bounds f (routes j e cs ps)
unfolding finish_bounds routes finish_before last_event route_points
finishes_by f [] [] j e h = refl
finishes_by f [] (p ∷ ps) j e h = absurd (omega arith)
finishes_by f (c ∷ cs) [] j e h = absurd (omega arith)
finishes_by f (c ∷ cs) (p ∷ ps) j e h =
    by (firsts_from (e + path_points p) ps) ps refl (head_is ps) (finishes_by f cs ps (suc j) (e + path_points p) (omega arith))
  where
    head_is : (qs : List (List ℕ)) → firsts_from (e + path_points p) qs ≡ (e + path_points p) ∷ drop 1 (firsts_from (e + path_points p) qs)
    head_is [] = refl
    head_is (q ∷ qs) = refl

    by : (l : List ℕ) (qs : List (List ℕ)) → l ≡ firsts_from (e + path_points p) ps → l ≡ (e + path_points p) ∷ drop 1 l
        → map (finish_before f) (take (length qs) (drop 1 (firsts_from (e + path_points p) ps))) ≡ finish_bounds f (routes (suc j) (e + path_points p) cs ps)
        → map (finish_before f) (take (suc (length qs)) l) ≡ no_earlier (e + path_points p - 1) f ∷ finish_bounds f (routes (suc j) (e + path_points p) cs ps)
    by l qs q w rest =
        ap (λ (x : List ℕ). map (finish_before f) (take (suc (length qs)) x)) w
        ∙ ap (λ (x : List ℕ). finish_before f (e + path_points p) ∷ map (finish_before f) (take (length qs) (drop 1 x))) q
        ∙ ap (λ (x : List Bound). finish_before f (e + path_points p) ∷ x) rest

-- the last of them is the finish's
finish_last : (ps : List (List ℕ)) (e : ℕ) → get_or (firsts_from e ps) (length ps) 0 ≡ e + total path_points ps
unfolding total
finish_last [] e = omega arith
finish_last (p ∷ ps) e = finish_last ps (e + path_points p) ∙ omega arith

-- none is 0
firsts_some : (ps : List (List ℕ)) (e i : ℕ) → 0 < e → i ≤ length ps → 0 < get_or (firsts_from e ps) i 0
firsts_some [] e zero h l = h
firsts_some [] e (suc i) h l = absurd (omega arith)
firsts_some (p ∷ ps) e zero h l = h
firsts_some (p ∷ ps) e (suc i) h l = firsts_some ps (e + path_points p) i (omega arith) (omega arith)

-- ---- what fits

-- the first of a list without its head
drop_take : (n : ℕ) (l : List ℕ) → drop 1 (take (suc n) l) ≡ take n (drop 1 l)
drop_take n [] = sym (take-nil n)
drop_take n (x ∷ xs) = refl

module _ (n : Numbers) where
  abbrev carts : ℕ
  carts = n.paths.carts

  -- the plan's paths
  abbrev paths : List (List ℕ)
  paths = paths_of n.paths

  -- one for each cart
  even : length (plan_in n).carts ≡ length (plan_in n).paths
  unfolding plan_in
  even = carts_in_length carts n.speeds.now ∙ sym (paths_in_length carts n.paths.steps n.paths.cells.now)

  -- its order bounds go by the paths alone
  orders_are : order_bounds (routes_of (of_paths paths)) ≡ order_bounds (routes_of (plan_in n))
  unfolding plan_in
  orders_are = sym (orders_by_paths (plan_in n) even)

  -- its routes
  routes_are : routes_of (plan_in n) ≡ routes 1 1 (carts_in carts n.speeds.now) paths
  unfolding plan_in routes_of
  routes_are = refl

  -- how many bounds it has
  pub bounds_count : length (bounds (plan_in n)) ≡ carts + 3 * total moves paths + length (order_bounds (routes_of (of_paths paths))) + carts
  unfolding plan_in
  bounds_count =
      let p : Plan = plan_in n in
      omega (arith, bounds_are p even, order_count_is p even, ap (λ (os : List Bound). length os) orders_are, paths_in_length carts n.paths.steps n.paths.cells.now)

  -- sizes: carts, steps, cells, events and order bounds
  pub sizes : events_kept carts n.paths.steps n.paths.cells.now ≡ true
      → ((carts ≤ 64) × (1 ≤ n.paths.steps) × (n.paths.steps ≤ 1024) × (carts * n.paths.steps ≤ length n.paths.cells.now)) × (2 + carts + 3 * total moves paths ≤ 4096) × (length (order_bounds (routes_of (of_paths paths))) ≤ 90112)
  sizes e =
      let (few, events) = kept_says carts n.paths.steps n.paths.cells.now true (sym e) refl in
      (few, events, orders_numbered carts n.paths.steps n.paths.cells.now few.0 (omega (arith, few.0, events)))

  module _ (firsts : List ℕ) (held : take (carts + 1) firsts ≡ first_events (of_paths paths)) where
    -- the numbers of the carts' first events, and the finish's
    firsts_are : take (suc carts) firsts ≡ firsts_from 1 paths
    unfolding of_paths
    firsts_are = ap (λ (n : ℕ). take n firsts) (sym (add-one carts)) ∙ held ∙ first_events_are (of_paths paths) (of_paths_carts paths)

    -- one of them
    first_at : (i : ℕ) → i ≤ carts → get_or firsts i 0 ≡ get_or (firsts_from 1 paths) i 0
    first_at i l = sym (get_or-take (suc carts) firsts i 0 (omega arith)) ∙ ap (λ (x : List ℕ). get_or x i 0) firsts_are

    -- all are there
    pub firsts_there : carts < length firsts
    firsts_there =
        omega (arith, ap (λ (x : List ℕ). length x) firsts_are, firsts_count paths 1, paths_in_length carts n.paths.steps n.paths.cells.now, length-take (suc carts) firsts, min-le_right (suc carts) (length firsts))

    -- and none is 0
    pub firsts_positive : (i : ℕ) → i < carts → 0 < get_or firsts (i + 1) 0
    firsts_positive i l =
        subst (λ (n : ℕ). 0 < n) (sym (first_at (i + 1) (omega arith))) (firsts_some paths 1 (i + 1) (omega arith) (omega (arith, l, paths_in_length carts n.paths.steps n.paths.cells.now)))

    -- the finish's number
    pub finish_at : get_or firsts carts 0 ≡ finish_event (plan_in n)
    unfolding plan_in finish_event
    finish_at =
        first_at carts (omega arith) ∙ ap (λ (n : ℕ). get_or (firsts_from 1 paths) n 0) (sym (paths_in_length carts n.paths.steps n.paths.cells.now)) ∙ finish_last paths 1
        ∙ omega (arith, events_are (plan_in n) even)

    -- each event before it but the start ends one start or travel bound, so that all bounds are counted by it
    pub bounds_by_finish : events_kept carts n.paths.steps n.paths.cells.now ≡ true → (m : ℕ) → m ≡ length (order_bounds (routes_of (of_paths paths)))
        → (0 < get_or firsts carts 0) × (get_or firsts carts 0 - 1 + m + carts ≡ length (bounds (plan_in n)))
    unfolding plan_in finish_event
    bounds_by_finish kept m e =
        let (few, _, _) = sizes kept in
        let finish : get_or firsts carts 0 ≡ 1 + carts + 3 * total moves paths =
        omega (arith, finish_at, events_are (plan_in n) even, all_events carts n.paths.steps n.paths.cells.now few.1 few.3) in
        (omega (arith, finish), omega (arith, e, finish, bounds_count))

    -- it is small
    pub finish_small : events_kept carts n.paths.steps n.paths.cells.now ≡ true → get_or firsts carts 0 ≤ 4096
    unfolding plan_in finish_event
    finish_small kept =
        let (few, events, _) = sizes kept in
        omega (arith, finish_at, events, events_are (plan_in n) even, all_events carts n.paths.steps n.paths.cells.now few.1 few.3)

    -- the answer
    pub answered : (m : ℕ) → m ≡ length (bounds (plan_in n)) → ◌≡◌ {A = Option Network} (Some (record { events = get_or firsts carts 0 + 1; bounds = m })) (network_answer (Some (plan_in n)))
    unfolding plan_in finish_event network_answer network_of
    answered m e =
        let p : Plan = plan_in n in
        let events : get_or firsts carts 0 + 1 ≡ event_count p = omega (arith, finish_at, events_are p even) in
        ap₂ {C = Option Network} (λ (x y : ℕ). Some (record { events = x; bounds = y })) events e

    -- the start bounds
    starts_are : map start_to (take carts firsts) ≡ start_bounds (routes_of (plan_in n))
    unfolding plan_in routes_of
    starts_are =
        let count : carts ≡ length paths = sym (paths_in_length carts n.paths.steps n.paths.cells.now) in
        ap (map start_to) (sym (take-take carts (suc carts) firsts (omega arith)) ∙ ap (take carts) firsts_are ∙ ap (λ (n : ℕ). take n (firsts_from 1 paths)) count)
        ∙ starts_by (carts_in carts n.speeds.now) paths 1 1 even

    -- the finish bounds
    finishes_are : map (finish_before (get_or firsts carts 0)) (take carts (drop 1 firsts))
        ≡ finish_bounds (finish_event (plan_in n)) (routes_of (plan_in n))
    unfolding plan_in routes_of
    finishes_are =
        let f : ℕ = finish_event (plan_in n) in
        let count : carts ≡ length paths = sym (paths_in_length carts n.paths.steps n.paths.cells.now) in
        ap (λ (n : ℕ). map (finish_before n) (take carts (drop 1 firsts))) finish_at
        ∙ ap (map (finish_before f)) (
        sym (take-take carts carts (drop 1 firsts) (omega arith)) ∙ ap (take carts) (sym (drop_take carts firsts) ∙ ap (drop 1) firsts_are)
        ∙ ap (λ (n : ℕ). take n (drop 1 (firsts_from 1 paths))) count)
        ∙ finishes_by f (carts_in carts n.speeds.now) paths 1 1 even

    -- the four sorts put one behind the other are the bounds of the plan
    pub whole_put : (a b c d e : BoundArrays) → Puts a b (map start_to (take carts firsts))
        → Puts b c (travel_bounds (roads_of n.roads) (routes 1 1 (carts_in carts n.speeds.now) paths))
        → Puts c d (order_bounds (routes_of (of_paths paths)))
        → Puts d e (map (finish_before (get_or firsts carts 0)) (take carts (drop 1 firsts)))
        → Puts a e (bounds (plan_in n))
    unfolding bounds plan_in routes_of
    whole_put a b c d e one two three four =
        let q : Plan = plan_in n in
        let travel : List Bound = travel_bounds q.roads (routes_of q) in
        let orders : List Bound = order_bounds (routes_of q) in
        let finishes : List Bound = finish_bounds (finish_event q) (routes_of q) in
        puts_more a b e (start_bounds (routes_of q)) (travel ++ (orders ++ finishes)) (subst (Puts a b) starts_are one)
        (puts_more b c e travel (orders ++ finishes) two (puts_more c d e orders finishes (subst (Puts c d) orders_are three) (subst (Puts d e) finishes_are four)))

-- ---- first events

-- they are written where the limit is kept
pub firsts_held : (n w : ℕ) (s z fs : List ℕ) → events_kept n w s ≡ true → fs ≡ written (firsts_fitting n w s 65) z
    → take (n + 1) fs ≡ first_events (of_paths (paths_in n w s))
unfolding firsts_fitting of_paths
firsts_held n w s z fs kept q =
    let front : List ℕ = first_events (of_paths (paths_in n w s)) in
    let count : n + 1 ≡ length front =
    omega (arith, ap (λ (x : List ℕ). length x) (first_events_are (of_paths (paths_in n w s)) (of_paths_carts (paths_in n w s))), firsts_count (paths_in n w s) 1, paths_in_length n w s) in
    ap (take (n + 1)) (q ∙ ap (λ (b : Bool). written (cond b front []) z) (fit_there n w s ∙ kept))
    ∙ ap (λ (i : ℕ). take i (written front z)) count
    ∙ written_front front z

-- ---- order bounds

-- where the limit is kept, those that are written are all
pub orders_there : (n w : ℕ) (s : List ℕ) → events_kept n w s ≡ true → orders_fitting n w s ≡ order_bounds (routes_of (of_paths (paths_in n w s)))
unfolding orders_fitting
orders_there n w s kept = ap (λ (b : Bool). cond b (order_bounds (routes_of (of_paths (paths_in n w s)))) []) kept

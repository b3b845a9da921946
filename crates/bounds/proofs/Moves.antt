-- The travel bounds along a path, one move after the other, and of one cart after the other. Assumes nothing.
use Prim.Native.Nat.{ℕ, zero, suc, ◌+◌, ◌*◌, ◌-◌, ◌/◌, ◌%◌, ◌≤◌, ◌<◌}
use Rattle.std.specs.Prelude.{Option, min}
use native.Mathlib.Nat.{div-zero, sub-zero}
use native.Mathlib.Numerals.{add-one}
use native.Mathlib.Omega.{arith}
use Rattle.std.proofs.lemmas.Nat.{div-add-mod', div-mul-add}
use mathlib.Core.Path.{◌≡◌, refl, ap, ap₂, sym, ◌∙◌, subst}
use mathlib.Core.List.{List, [], ◌∷◌, ◌++◌, flat_map}
use lib.ListN.{length, take, drop, get_or, length-append, length-drop}
use lib.Seq.{length-take-le, drop-drop, get_or-drop}
use lib.Dec.{eqb}
use borrow.Author.Tests.{eq-eqb, ne_eqb}
use mathlib.Core.Bool.{Bool, true, false, not, cond}
use Rattle.std.specs.Bool.{then_some}
use Rattle.floor.specs.declared.Road.{Road}
use Rattle.floor.specs.declared.Cart.{Cart}
use Rattle.tables.specs.Arrays.{carts_in, paths_in}
pub use Rattle.tables.proofs.Searches.{Stepped}
use Rattle.network.specs.Events.{visits_of, visits_after, routes}
use Rattle.network.specs.Bounds.{Bound, Part, part_lengths, parts, div_up, least_time, most_time, road_of_move, parts_after, route_parts, part_bounds, travel_bounds}
use Rattle.network.specs.declared.Bound.{Bound as Numbers}
use Rattle.network.specs.BoundArrays.{hi_kept, bound_of, Puts}
use Rattle.network.specs.declared.BoundArrays.{BoundArrays}
use Rattle.network.proofs.Putting.{puts_more, Putting, putting_first, putting_more, putting_none, putting_all}
use Rattle.limits.specs.Counts.{total, moves}
use Rattle.limits.proofs.Counts.{path_points, travel_count}
use Rattle.limits.proofs.LimitSteps.{path_events}
use Rattle.limits.proofs.CountSteps.{row_fits, paths_next, paths_begin, moves_next}
use Rattle.bounds.specs.declared.numbers.Speeds.{Speeds}
use Rattle.bounds.specs.Writing.{speed_of, cart_of, cart_at, road_found, move_bounds, path_bounds}

-- ---- a part of a move

-- where no speed is given
pub least_none : (n d : ℕ) → d ≡ 0 → 0 ≡ div_up n d
unfolding div_up
least_none n d e = sym (ap (λ (x : ℕ). (n + (x - 1)) / x) e ∙ div-zero (n + (0 - 1)))

-- rounded up, as the library does
pub least_some : (n d : ℕ) → 0 < d → n / d + min 1 (n % d) ≡ div_up n d
unfolding div_up
least_some n d h = by (n % d) refl
  where
    by : (r : ℕ) → n % d ≡ r → n / d + min 1 r ≡ (n + (d - 1)) / d
    by zero e =
        let whole : n / d * d + (d - 1) ≡ n + (d - 1) = omega (arith, div-add-mod' n d, e) in
        let none : n / d + min 1 0 ≡ n / d = omega arith in
        none ∙ sym (div-mul-add (n / d) d (d - 1) (omega arith)) ∙ ap (λ (x : ℕ). x / d) whole
    by (suc r) e =
        let whole : (n / d + 1) * d + r ≡ n + (d - 1) = omega (arith, div-add-mod' n d, e) in
        let one : n / d + min 1 (suc r) ≡ n / d + 1 = omega arith in
        one ∙ sym (div-mul-add (n / d + 1) d r (omega (arith, e))) ∙ ap (λ (x : ℕ). x / d) whole

-- the bound of a part
put_is : (c : Cart) (part : Part) (b : Numbers) (e : ℕ) → b.from ≡ e → b.to ≡ suc e → b.lo ≡ least_time c part → b.hi ≡ most_time part → hi_kept b.hi ≡ b.hi
    → bound_of b ≡ record { from = e; to = suc e; lo = least_time c part; hi = most_time part }
put_is c part b e f t l h k =
    ap₂ (λ (x y : ℕ). record { from = x; to = y; lo = b.lo; hi = hi_kept b.hi }) f t
    ∙ ap₂ (λ (x : ℕ) (y : Option ℕ). record { from = e; to = suc e; lo = x; hi = y }) l (k ∙ h)

-- ---- a move

-- three parts put
module _ (s : Speeds) (d : Road) (e rest lo lo' : ℕ) (hi hi' : Option ℕ) (rest-is : rest ≡ d.length - 2 * d.margin)
    (lo-is : lo ≡ least_time (cart_of s) (record { length = d.margin; slowest = s.slowest })) (hi-is : hi ≡ most_time (record { length = d.margin; slowest = s.slowest }))
    (lo'-is : lo' ≡ least_time (cart_of s) (record { length = rest; slowest = s.slowest })) (hi'-is : hi' ≡ most_time (record { length = rest; slowest = s.slowest }))
    (kept : hi_kept hi ≡ hi) (kept' : hi_kept hi' ≡ hi') where
  -- as they are put
  abbrev pub first_part : Bound
  first_part = bound_of (record { from = e; to = e + 1; lo = lo; hi = hi })

  abbrev pub middle_part : Bound
  middle_part = bound_of (record { from = e + 1; to = e + 2; lo = lo'; hi = hi' })

  abbrev pub last_part : Bound
  last_part = bound_of (record { from = e + 2; to = e + 3; lo = lo; hi = hi })

  three_parts : first_part ∷ middle_part ∷ last_part ∷ [] ≡ move_bounds (cart_of s) e d
  unfolding move_bounds parts part_lengths part_bounds
  three_parts =
      let edge : Part = record { length = d.margin; slowest = s.slowest } in
      let middle : Part = record { length = rest; slowest = s.slowest } in
      let one : e + 1 ≡ suc e = omega arith in
      let two : e + 2 ≡ suc (suc e) = omega arith in
      let three : e + 3 ≡ suc (suc (suc e)) = omega arith in
      ap (λ (b : Bound). b ∷ middle_part ∷ last_part ∷ []) (put_is (cart_of s) edge _ e refl one lo-is hi-is kept)
      ∙ ap₂ (λ (x y : Bound). record { from = e; to = suc e; lo = least_time (cart_of s) edge; hi = most_time edge } ∷ x ∷ y ∷ [])
      (put_is (cart_of s) middle _ (suc e) one two lo'-is hi'-is kept') (put_is (cart_of s) edge _ (suc (suc e)) two three lo-is hi-is kept)
      ∙ ap (λ (l : ℕ). part_bounds (cart_of s) e (edge ∷ record { length = l; slowest = s.slowest } ∷ edge ∷ [])) rest-is

  pub move_put : (a b c z : BoundArrays) → Puts a b (first_part ∷ []) → Puts b c (middle_part ∷ []) → Puts c z (last_part ∷ []) → Puts a z (move_bounds (cart_of s) e d)
  move_put a b c t x y z = subst (Puts a t) three_parts (puts_more a b t _ _ x (puts_more b c t _ _ y z))

-- ---- along a path

-- the bounds after a visit go by the cells, and not by the steps
by_cells : (roads : List Road) (c : Cart) (ds : List ℕ) (x d s s' t t' : ℕ)
    → parts_after roads c (record { step = s; cell = x }) (visits_after d t ds) ≡ parts_after roads c (record { step = s'; cell = x }) (visits_after d t' ds)
unfolding parts_after road_of_move visits_after
by_cells roads c [] x d s s' t t' = refl
by_cells roads c (y ∷ ys) x d s s' t t' = by (by_cells roads c ys x y s s' (suc t) (suc t')) (by_cells roads c ys y y t t' (suc t) (suc t')) (eqb d y)
  where
    wait : ℕ → ℕ → List Part
    wait i u = parts_after roads c (record { step = i; cell = x }) (visits_after y (suc u) ys)

    move : ℕ → List Part
    move u = parts_after roads c (record { step = u; cell = y }) (visits_after y (suc u) ys)

    by : wait s t ≡ wait s' t' → move t ≡ move t' → (b : Bool)
        → parts_after roads c (record { step = s; cell = x }) (cond b (visits_after y (suc t) ys) (record { step = t; cell = y } ∷ visits_after y (suc t) ys))
        ≡ parts_after roads c (record { step = s'; cell = x }) (cond b (visits_after y (suc t') ys) (record { step = t'; cell = y } ∷ visits_after y (suc t') ys))
    by waits moves true = waits
    by waits moves false = ap (λ (ps : List Part). parts c (road_of_move roads (record { step = t; cell = x }) (record { step = t; cell = y })) ++ ps) moves

module _ (roads : List Road) (c : Cart) (e : ℕ) where
  -- a wait has none
  wait_bounds : (p : List ℕ) → 2 ≤ length p → get_or (take 2 p) 0 0 ≡ get_or (take 2 p) 1 0 → path_bounds roads c e p ≡ path_bounds roads c e (drop 1 p)
  unfolding path_bounds route_parts visits_of visits_after
  wait_bounds [] h q = absurd (omega arith)
  wait_bounds (x ∷ []) h q = absurd (omega arith)
  wait_bounds (x ∷ y ∷ ys) h q =
      ap (λ (b : Bool). part_bounds c e (parts_after roads c (record { step = 0; cell = x }) (cond b (visits_after y 2 ys) (record { step = 1; cell = y } ∷ visits_after y 2 ys)))) (eq-eqb x y q)
      ∙ ap (λ (z : ℕ). part_bounds c e (parts_after roads c (record { step = 0; cell = z }) (visits_after y 2 ys))) q
      ∙ ap (part_bounds c e) (by_cells roads c ys y y 0 0 2 1)

  -- a move has three
  move_bounds_first : (p : List ℕ) → 2 ≤ length p → (get_or (take 2 p) 0 0 ≡ get_or (take 2 p) 1 0 → ⊥)
      → path_bounds roads c e p ≡ move_bounds c e (road_found roads (get_or (take 2 p) 0 0) (get_or (take 2 p) 1 0)) ++ path_bounds roads c (e + 3) (drop 1 p)
  unfolding path_bounds route_parts visits_of visits_after parts_after road_of_move road_found move_bounds parts part_lengths part_bounds
  move_bounds_first [] h q = absurd (omega arith)
  move_bounds_first (x ∷ []) h q = absurd (omega arith)
  move_bounds_first (x ∷ y ∷ ys) h q =
      let three : suc (suc (suc e)) ≡ e + 3 = omega arith in
      let bs : List Bound = move_bounds c e (road_found roads x y) in
      ap (λ (b : Bool). part_bounds c e (parts_after roads c (record { step = 0; cell = x }) (cond b (visits_after y 2 ys) (record { step = 1; cell = y } ∷ visits_after y 2 ys)))) (ne_eqb x y q)
      ∙ ap (λ (ps : List Part). bs ++ part_bounds c (suc (suc (suc e))) ps) (by_cells roads c ys y y 1 0 2 1)
      ∙ ap (λ (n : ℕ). bs ++ part_bounds c n (parts_after roads c (record { step = 0; cell = y }) (visits_after y 1 ys))) three

  -- none after the last step
  no_bounds : (p : List ℕ) → length p < 2 → path_bounds roads c e p ≡ []
  unfolding path_bounds route_parts visits_of visits_after parts_after part_bounds
  no_bounds [] h = refl
  no_bounds (x ∷ []) h = refl
  no_bounds (x ∷ y ∷ ys) h = absurd (omega arith)

  -- three for each move
  path_count : (p : List ℕ) → length (path_bounds roads c e p) ≡ 3 * moves p
  unfolding path_bounds
  path_count p = travel_count roads c e p

  -- three bounds of a move
  move_count : (d : Road) → length (move_bounds c e d) ≡ 3
  unfolding move_bounds parts part_lengths part_bounds
  move_count d = refl

-- before a step: the bounds of the steps left, the first of them in cell `left`'s first, are yet to be put, from event f on
pub record OnPath (roads : List Road) (c : Cart) (e : ℕ) (p : List ℕ) (a b : BoundArrays) (f : ℕ) (left : List ℕ) : Type 0 where
  pub events : f + 3 * moves left ≡ e + 3 * moves p
  pub putting : Putting a b (path_bounds roads c e p) (path_bounds roads c f left)

-- at first all
pub path_begins : (roads : List Road) (c : Cart) (e : ℕ) (p : List ℕ) (a : BoundArrays) → OnPath roads c e p a a e p
path_begins roads c e p a = record { events = refl; putting = putting_first a _ _ refl }

module _ {roads : List Road} {c : Cart} {e : ℕ} {p : List ℕ} {a b : BoundArrays} {f : ℕ} {left : List ℕ} (o : OnPath roads c e p a b f left) where
  module _ {step after : List ℕ} (s : Stepped left step after) where
    -- a wait
    pub path_waits : get_or step 0 0 ≡ get_or step 1 0 → OnPath roads c e p a b f after
    path_waits q =
        let same : path_bounds roads c f left ≡ path_bounds roads c f after =
        wait_bounds roads c f left s.two (subst (λ x. get_or x 0 0 ≡ get_or x 1 0) s.cells q) ∙ ap (path_bounds roads c f) (sym s.less) in
        record {
          events = omega (arith, o.events, ap length same, path_count roads c f left, path_count roads c f after);
          putting = putting_none o.putting (path_bounds roads c f after) same;
        }

    module _ (q : get_or step 0 0 ≡ get_or step 1 0 → ⊥) where
      its_bounds : path_bounds roads c f left ≡ move_bounds c f (road_found roads (get_or step 0 0) (get_or step 1 0)) ++ path_bounds roads c (f + 3) after
      its_bounds =
          move_bounds_first roads c f left s.two (subst (λ x. get_or x 0 0 ≡ get_or x 1 0 → ⊥) s.cells q)
          ∙ ap₂ (λ x y. move_bounds c f (road_found roads (get_or x 0 0) (get_or x 1 0)) ++ path_bounds roads c (f + 3) y) (sym s.cells) (sym s.less)

      its_moves : moves left ≡ 1 + moves after
      its_moves =
          let d : Road = road_found roads (get_or step 0 0) (get_or step 1 0) in
          omega (
            arith,
            ap length its_bounds,
            length-append (move_bounds c f d) (path_bounds roads c (f + 3) after),
            move_count roads c f d,
            path_count roads c f left,
            path_count roads c (f + 3) after,
          )

      -- a move: its events are no more than may be, and its bounds are put
      pub path_few : e + 3 * moves p < 4096 → f + 3 < 4096
      path_few h = omega (arith, o.events, its_moves)

      pub path_moves : (b' : BoundArrays) (d : Road) → d ≡ road_found roads (get_or step 0 0) (get_or step 1 0) → Puts b b' (move_bounds c f d) → OnPath roads c e p a b' (f + 3) after
      path_moves b' d r w = record {
        events = omega (arith, o.events, its_moves);
        putting = putting_more o.putting b' (move_bounds c f d) (path_bounds roads c (f + 3) after)
            (its_bounds ∙ ap (λ x. move_bounds c f x ++ path_bounds roads c (f + 3) after) (sym r)) w;
      }

  -- at last none is left
  pub path_ends : length left < 2 → (f ≡ e + 3 * moves p) × Puts a b (path_bounds roads c e p)
  path_ends h =
      let none : path_bounds roads c f left ≡ [] = no_bounds roads c f left h in
      (omega (arith, o.events, ap length none, path_count roads c f left), putting_all o.putting none)

-- ---- cart by cart

-- the cart at hand and those after it
carts_cons : (n i : ℕ) (s : List ℕ) → i < n
    → carts_in (n - i) (drop (2 * i) s) ≡ cart_at s i ∷ carts_in (n - (i + 1)) (drop (2 * (i + 1)) s)
unfolding carts_in cart_at speed_of
carts_cons n i s l =
    let one : n - i ≡ suc (n - (i + 1)) = omega arith in
    let first : 2 * i + 0 ≡ 2 * i = omega arith in
    let next : 2 * i + 2 ≡ 2 * (i + 1) = omega arith in
    let d : List ℕ = drop (2 * i) s in
    ap (λ (m : ℕ). carts_in m d) one
    ∙ ap (λ (r : List ℕ). record { fastest = get_or d 0 0; slowest = speed_of (get_or d 1 0) } ∷ carts_in (n - (i + 1)) r) (drop-drop 2 (2 * i) s ∙ ap (λ (m : ℕ). drop m s) next)
    ∙ ap₂ (λ (x y : ℕ). record { fastest = x; slowest = speed_of y } ∷ carts_in (n - (i + 1)) (drop (2 * (i + 1)) s)) (get_or-drop (2 * i) s 0 0 ∙ ap (λ (m : ℕ). get_or s m 0) first) (get_or-drop (2 * i) s 1 0)

-- the events of a path
path_numbers : (s : List ℕ) (at w : ℕ) → at + w ≤ length s → 1 ≤ w → path_points (take w (drop at s)) ≡ suc (3 * moves (take w (drop at s)))
path_numbers s at w fits l = path_events (take w (drop at s)) (omega (arith, length-take-le w (drop at s) (omega (arith, length-drop at s))))

module _ (roads : List Road) (speeds s : List ℕ) (n w : ℕ) where
  -- the travel bounds of the carts left, from the i-th on, whose events are numbered from e on
  abbrev pub travel_left : ℕ → ℕ → List Bound
  travel_left i e = travel_bounds roads (routes (suc i) e (carts_in (n - i) (drop (2 * i) speeds)) (paths_in (n - i) w (drop (i * w) s)))

  -- all of them
  abbrev pub travel_all : List Bound
  travel_all = travel_bounds roads (routes 1 1 (carts_in n speeds) (paths_in n w s))

  -- before the i-th cart: its bounds and those of the carts after it are yet to be put
  pub record Travelling (a b : BoundArrays) (i e : ℕ) : Type 0 where
    pub few : e + (n - i) + 3 * total moves (paths_in (n - i) w (drop (i * w) s)) ≤ 4096
    pub putting : Putting a b travel_all (travel_left i e)

  -- at first all
  pub first_travelling : (a : BoundArrays) → 1 + n + 3 * total moves (paths_in n w s) ≤ 4096 → Travelling a a 0 1
  first_travelling a h = record {
    few = omega (arith, h, ap (λ (ps : List (List ℕ)). total moves ps) (paths_begin n w s));
    putting = putting_first a travel_all (travel_left 0 1)
        (ap₂ (λ (cs : List Cart) (ps : List (List ℕ)). travel_bounds roads (routes 1 1 cs ps)) (ap (λ (m : ℕ). carts_in m speeds) (sub-zero n)) (paths_begin n w s));
  }

  module _ {a b : BoundArrays} {i e : ℕ} (t : Travelling a b i e) where
    module _ (l : i < n) (path : List ℕ) (is : path ≡ take w (drop (i * w) s)) where
      -- its events are no more than may be
      pub route_few : e + 3 * moves path < 4096
      route_few = omega (arith, t.few, moves_next n i w s l, ap moves is)

      -- its bounds are put
      pub next_travelling : n * w ≤ length s → 1 ≤ w → (b' : BoundArrays) (f : ℕ) → f ≡ e + 3 * moves path + 1 → Puts b b' (path_bounds roads (cart_at speeds i) e path)
          → Travelling a b' (i + 1) f
      unfolding travel_bounds flat_map routes path_bounds
      next_travelling fits o b' f q p =
          let c : Cart = cart_at speeds i in
          let cs : List Cart = carts_in (n - (i + 1)) (drop (2 * (i + 1)) speeds) in
          let ps : List (List ℕ) = paths_in (n - (i + 1)) w (drop ((i + 1) * w) s) in
          let points : path_points path ≡ suc (3 * moves path) =
          ap path_points is ∙ path_numbers s (i * w) w (omega (arith, fits, row_fits n i w l)) o ∙ ap (λ (x : List ℕ). suc (3 * moves x)) (sym is) in
          let after : e + path_points path ≡ f = omega (arith, q, points) in
          let rest : travel_left i e ≡ path_bounds roads c e path ++ travel_left (i + 1) f =
          ap₂ (λ (x : List Cart) (y : List (List ℕ)). travel_bounds roads (routes (suc i) e x y)) (carts_cons n i speeds l) (paths_next n i w s l ∙ ap (λ (x : List ℕ). x ∷ ps) (sym is))
          ∙ ap₂ (λ (j m : ℕ). path_bounds roads c e path ++ travel_bounds roads (routes (suc j) m cs ps)) (sym (add-one i)) after in
          record {
            few = omega (arith, t.few, moves_next n i w s l, q, ap moves is);
            putting = putting_more t.putting b' (path_bounds roads c e path) (travel_left (i + 1) f) rest p;
          }

    -- none is left
    pub last_travelling : n ≤ i → Puts a b travel_all
    unfolding travel_bounds flat_map routes carts_in
    last_travelling l =
        let none : n - i ≡ 0 = omega arith in
        putting_all t.putting (ap (λ (m : ℕ). travel_bounds roads (routes (suc i) e (carts_in m (drop (2 * i) speeds)) (paths_in m w (drop (i * w) s)))) none)

-- the cart of the two numbers of an array
pub speed_is : (n : ℕ) → then_some (not (eqb n 0)) n ≡ speed_of n
unfolding speed_of
speed_is zero = refl
speed_is (suc n) = rw (ne_eqb (suc n) 0 (λ e. omega arith)) refl

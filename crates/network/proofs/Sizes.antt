-- How long a bound can make a part of a move last: at most 10^8 milliseconds. Assumes nothing.
use Rattle.std.proofs.lemmas.Bool.Decides.{nat_tests}
use Rattle.std.specs.Prelude.{Option, None, Some, unwrap_or, Ok}
use Prim.Native.Nat.{ℕ, suc, ◌+◌, ◌*◌, ◌-◌, ◌/◌, ◌≤◌, ◌<◌}
use native.Mathlib.Nat.{div-lt_iff_lt-mul, div-le_of_le-mul, mul-le-mul_right}
use native.Mathlib.Omega.{arith}
use mathlib.Core.Path.{◌≡◌, refl, sym, subst}
use mathlib.Core.Logic.{⊎_elim}
use mathlib.Core.Bool.{Bool, true, false, cond}
use mathlib.Core.List.Memᴰ
use mathlib.Core.List.{List, [], ◌∷◌, Memᴰ}
use Rattle.laws.proofs.Options.{none-ne-some, some-injective}
use Rattle.floor.specs.Plan.{Plan, joins, road_between}
use Rattle.floor.specs.declared.Road.{Road}
use Rattle.floor.specs.declared.Cart.{Cart}
use Rattle.floor.specs.Tables.{Tables}
use Rattle.floor.proofs.Accepted.{Sound, SoundRoad, SoundCart}
use Rattle.network.specs.Events.{Visit}
use Rattle.network.specs.Bounds.{Bound, no_earlier, part_lengths, Part, parts, div_up, least_time, most_time, road_of_move, parts_after, route_parts, part_bounds, bounds}
use Rattle.network.specs.Judge.{judge}
use Rattle.network.proofs.Judged.{judged_sound}
use Rattle.network.proofs.Routes.{origin}
use Rattle.network.proofs.Sorts.{Sort, starts, travels, orders, finishes, sort_of}

-- ---- a part's times

-- at 1,000 micrometres a second or faster, a part takes at most as many milliseconds as it has micrometres: rounded up
div_up_most : (l f : ℕ) → 1000 ≤ f → div_up (1000 * l) f ≤ l
unfolding div_up
div_up_most l f h =
    let m : 1000 * l ≤ f * l = mul-le-mul_right l h in
    let q : (1000 * l + (f - 1)) / f < suc l = (div-lt_iff_lt-mul {k = f} {x = 1000 * l + (f - 1)} {y = suc l} (omega (arith, h))).1 (omega (arith, h, m)) in
    omega (arith, q)

-- and rounded down
div_most : (l s : ℕ) → 1000 ≤ s → 1000 * l / s ≤ l
div_most l s h = div-le_of_le-mul s {m = 1000 * l} {n = l} (mul-le-mul_right l h)

-- ---- the roads of moves

-- a road that is found is one of those there are
road_found : (rs : List Road) (a b : ℕ) (d : Road) → road_between rs a b ≡ Some d → Memᴰ d rs
unfolding road_between
road_found [] a b d e = absurd (none-ne-some _ e)
road_found (r ∷ rs) a b d e = by (joins a b r) e (road_found rs a b d)
  where
    by : (t : Bool) → cond t (Some r) (road_between rs a b) ≡ Some d → (road_between rs a b ≡ Some d → Memᴰ d rs) → Memᴰ d (r ∷ rs)
    by true e rest = Memᴰ.head (sym (some-injective _ _ e))
    by false e rest = Memᴰ.tail (rest e)

-- neither it nor its margin is longer than 10^8
abbrev Short : Road → Type 0
Short d = (d.length ≤ 100_000_000) × (d.margin ≤ 100_000_000)

-- twice the margin is below the length
sound_short : (d : Road) → SoundRoad d → Short d
sound_short d s = (s.most, omega (arith, s.most, s.twice_below))

-- so of the road of every move; a move without a road would have one of length 0
move_short : (roads : List Road) → ((d : Road) → Memᴰ d roads → SoundRoad d) → (x y : Visit) → Short (road_of_move roads x y)
unfolding road_of_move
move_short roads h x y = by (road_between roads x.cell y.cell) refl
  where
    by : (o : Option Road) → road_between roads x.cell y.cell ≡ o
        → Short (unwrap_or o (record { from = 0; to = 0; length = 0; margin = 0 }))
    by None e = (omega arith, omega arith)
    by (Some d) e = sound_short d (h d (road_found roads x.cell y.cell d e))

-- ---- the parts of moves

-- a part is no longer than 10^8, and its slowest speed is the cart's
abbrev ShortPart : Cart → Part → Type 0
ShortPart c part = (part.length ≤ 100_000_000) × (part.slowest ≡ c.slowest)

-- no part is longer than its road or its margin
lengths_short : (d : Road) → Short d → (l : ℕ) → Memᴰ l (part_lengths d) → l ≤ 100_000_000
unfolding part_lengths
lengths_short d s l m =
    ⊎_elim (λ e. omega (arith, e, s.1))
    (λ m. ⊎_elim (λ e. omega (arith, e, s.0))
    (λ m. ⊎_elim (λ e. omega (arith, e, s.1)) (λ n. absurd (Memᴰ.not-nil n)) (Memᴰ.cases_cons m))
    (Memᴰ.cases_cons m))
    (Memᴰ.cases_cons m)

-- the parts of a cart's move along a road
parts_fit : (c : Cart) (d : Road) → Short d → (part : Part) → Memᴰ part (parts c d) → ShortPart c part
unfolding parts
parts_fit c d s part m =
    let (l, there, e) = Memᴰ.of_map (λ (l : ℕ). record { length = l; slowest = c.slowest }) (part_lengths d) m in
    subst (ShortPart c) e (lengths_short d s l there, refl)

-- the parts of all moves after a visit
parts_after_fit : (roads : List Road) → ((d : Road) → Memᴰ d roads → SoundRoad d) → (c : Cart) (x : Visit) (ys : List Visit) (part : Part)
    → Memᴰ part (parts_after roads c x ys) → ShortPart c part
unfolding parts_after
parts_after_fit roads h c x [] part m = absurd (Memᴰ.not-nil m)
parts_after_fit roads h c x (y ∷ ys) part m =
    ⊎_elim
    (parts_fit c (road_of_move roads x y) (move_short roads h x y) part)
    (parts_after_fit roads h c y ys part)
    (Memᴰ.append_cases (parts c (road_of_move roads x y)) m)

-- the parts of all moves
route_parts_fit : (roads : List Road) → ((d : Road) → Memᴰ d roads → SoundRoad d) → (c : Cart) (vs : List Visit) (part : Part)
    → Memᴰ part (route_parts roads c vs) → ShortPart c part
unfolding route_parts
route_parts_fit roads h c [] part m = absurd (Memᴰ.not-nil m)
route_parts_fit roads h c (x ∷ xs) part m = parts_after_fit roads h c x xs part m

-- ---- bounds

-- lo is at most 10^8, and hi where there is one
abbrev pub Small : Bound → Type 0
Small b = (b.lo ≤ 100_000_000) × ((h : ℕ) → b.hi ≡ Some h → h ≤ 100_000_000)

-- a slowest speed is at least 1,000
most_time_small : (c : Cart) → SoundCart c → (part : Part) → ShortPart c part → (h : ℕ) → most_time part ≡ Some h → h ≤ 100_000_000
unfolding most_time
most_time_small c s part f h e = grind (arith, nat_tests)

-- the bounds of a cart's parts
part_bounds_small : (c : Cart) → SoundCart c → (e : ℕ) (ps : List Part) → ((part : Part) → Memᴰ part ps → ShortPart c part)
    → (b : Bound) → Memᴰ b (part_bounds c e ps) → Small b
unfolding part_bounds least_time
part_bounds_small c s e [] f b m = absurd (Memᴰ.not-nil m)
part_bounds_small c s e (part ∷ ps) f b m =
    let here : ShortPart c part = f part (Memᴰ.head refl) in
    ⊎_elim
    (λ q. subst Small (sym q) (omega (arith, div_up_most part.length c.fastest s.fast, here.0), most_time_small c s part here))
    (part_bounds_small c s (suc e) ps (λ x n. f x (Memᴰ.tail n)) b)
    (Memᴰ.cases_cons m)

-- [0, none] and [0, 0]
no_earlier_small : (u v : ℕ) → Small (no_earlier u v)
unfolding no_earlier
no_earlier_small u v = (omega arith, λ h e. absurd (none-ne-some _ e))

-- of each sort: travel bounds by their parts, the others hold no number but 0
small_sort : (p : Plan) → Sound p → (b : Bound) → Sort p b → Small b
small_sort p s b (starts r m e) = subst Small (sym e) (omega arith, λ h q. omega (arith, some-injective _ _ q))
small_sort p s b (travels r m i) =
    part_bounds_small r.cart (s.sound_carts r.cart (origin p r m).driven) r.first (route_parts p.roads r.cart r.visits)
    (route_parts_fit p.roads s.sound_roads r.cart r.visits) b i
small_sort p s b (orders o) = subst Small (sym o.is) (no_earlier_small o.behind o.before)
small_sort p s b (finishes r m e) = subst Small (sym e) (no_earlier_small _ _)

-- of every sound plan
pub sound_bound_sizes : (p : Plan) → Sound p → (b : Bound) → Memᴰ b (bounds p) → Small b
sound_bound_sizes p s b m = small_sort p s b (sort_of p b m)

-- of every accepted plan
pub bound_sizes : (ts : Tables) (p : Plan) → judge ts ≡ Ok p → (b : Bound) → Memᴰ b (bounds p)
    → (b.lo ≤ 100_000_000) × ((h : ℕ) → b.hi ≡ Some h → h ≤ 100_000_000)
bound_sizes ts p e b m = sound_bound_sizes p (judged_sound ts p e) b m

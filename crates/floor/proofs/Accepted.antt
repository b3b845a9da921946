-- What is known of a plan that was read from three tables without a refusal: its counts, its ranges, and that no two carts meet in a cell.
-- Assumes nothing.
use Rattle.std.specs.Prelude.{Option, None, Some, Ok}
use Prim.Native.Nat.{ℕ, zero, suc, ◌+◌, ◌*◌, ◌≤◌, ◌<◌}
use native.Mathlib.Omega.{arith}
use mathlib.Core.Path.{◌≡◌, refl, ap, sym, ◌∙◌, subst}
use mathlib.Core.Logic.{◌≢◌, ◌⊎◌, ⊎_elim}
use mathlib.Core.Bool.{Bool, true, false, true≢false, ◌&&◌, ◌||◌, not, cond}
use mathlib.Core.List.Memᴰ
use mathlib.Core.List.{List, [], ◌∷◌, ◌++◌, map, append_assoc, Memᴰ}
use lib.Dec.{T, leb, eqb, leb→le, ltb→lt, eqb→eq, eqb_refl}
use lib.ListN.{length, get_or, length-append, length-map, get_or-append, get_or-map}
use mir.Facts.{and_yes}
use Rattle.laws.proofs.Options.{none-ne-some, some-ne-none, some-injective}
use Rattle.rfc4180.specs.Text.{bytes}
use Rattle.rfc4180.specs.Records.{records, fields}
use Rattle.rfc4180.specs.Number.{number, numbers}
use Rattle.rfc4180.proofs.Reading.{some_field}
use Rattle.floor.specs.declared.Reason.TheVariants.{Layout, Range, RoadPair, Limit, NoCarts, PathCount, OffRoad, SameCell, Exchange}
use Rattle.floor.specs.declared.Table.TheVariants.{Roads, Carts, Paths}
use Rattle.floor.specs.Refusal.{within_bytes, after_first_line, next, records_in_order}
use Rattle.floor.specs.Plan.{Plan, joined}
use Rattle.floor.specs.declared.Road.{Road}
use Rattle.floor.specs.declared.Cart.{Cart}
use Rattle.floor.specs.Roads.{cell_range, road_ranges, road, read_roads}
use Rattle.floor.specs.Carts.{number_or_empty, fastest_range, slowest_range, cart, read_carts}
use Rattle.floor.specs.Paths.{cells_range, same_width, path, read_paths, on_roads, off_road, collides, first_collision, earliest, at_step, same_cell, steps, first_same_cell, first_exchange}
use Rattle.floor.specs.Tables.{Tables, read_tables}
use Rattle.floor.proofs.Judging.{accepted_same, bind_accepted, then_accepted, and_given_accepted, none_found_accepted, kept_in_order}

-- all of a list are so
abbrev pub Each : {A : Type 0} → (A → Type 0) → List A → Type 0
Each {A} P l = (x : A) → Memᴰ x l → P x

-- none of an empty list is otherwise
each_none : {A : Type 0} (P : A → Type 0) → Each P []
each_none P x m = absurd (Memᴰ.not-nil m)

-- and one more behind them
each_more : {A : Type 0} (P : A → Type 0) (l : List A) (a : A) → Each P l → P a → Each P (l ++ (a ∷ []))
each_more P l a h one x m =
    ⊎_elim (h x)
    (λ t. ⊎_elim (λ e. subst P (sym e) one) (λ n. absurd (Memᴰ.not-nil n)) (Memᴰ.cases_cons t))
    (Memᴰ.append_cases l m)

-- ---- roads

-- "Length is in micrometres, 3..100,000,000; margin is at least 1 and twice the margin is below the length."
pub record SoundRoad (d : Road) : Type 0 where
  pub least : 3 ≤ d.length
  pub most : d.length ≤ 100_000_000
  pub some_margin : 1 ≤ d.margin
  pub twice_below : 2 * d.margin < d.length

-- the test of the ranges, read back
ranges_sound : (d : Road) → T (road_ranges d) → SoundRoad d
unfolding road_ranges
ranges_sound d t =
    let cells : Bool = cell_range d.from && cell_range d.to in
    let (t4, below) = and_yes (cells && leb 3 d.length && leb d.length 100_000_000 && leb 1 d.margin) _ t in
    let (t3, margin) = and_yes (cells && leb 3 d.length && leb d.length 100_000_000) _ t4 in
    let (t2, most) = and_yes (cells && leb 3 d.length) _ t3 in
    let (t1, least) = and_yes cells _ t2 in
    record {
      least = leb→le _ _ least;
      most = leb→le _ _ most;
      some_margin = leb→le _ _ margin;
      twice_below = ltb→lt _ _ below;
    }

-- so of a record that is taken for a road
road_sound : (before : List Road) (r : List ℕ) (d : Road) → road before r ≡ Ok d → SoundRoad d
unfolding road
road_sound before r d e =
    let (ns, _, e1) = and_given_accepted (numbers (fields r)) Layout Roads _ _ d e in
    let (_, e2) = then_accepted (eqb (length ns) 4) Layout Roads _ _ d e1 in
    let n : Road = record { from = get_or ns 0 0; to = get_or ns 1 0; length = get_or ns 2 0; margin = get_or ns 3 0 } in
    let (t, e3) = then_accepted (road_ranges n) Range Roads _ _ d e2 in
    let (_, e4) = then_accepted (not (eqb n.from n.to) && not (joined before n.from n.to)) RoadPair Roads _ _ d e3 in
    let (_, e5) = then_accepted (leb (next before) 1024) Limit Roads _ _ d e4 in
    subst SoundRoad (accepted_same n d e5) (ranges_sound n t)

-- of the whole table
read_roads_sound : (b : List ℕ) (ds : List Road) → read_roads b ≡ Ok ds → Each SoundRoad ds
unfolding read_roads
read_roads_sound b ds e =
    let (_, _, e1) = bind_accepted (within_bytes Roads b) _ ds e in
    let (rs, _, e2) = bind_accepted (after_first_line (bytes "from,to,length,margin") Roads (records b)) _ ds e1 in
    kept_in_order road (Each SoundRoad) (λ before r d h one. each_more SoundRoad before d h (road_sound before r d one)) rs [] ds (each_none SoundRoad) e2

-- ---- carts

-- "fastest 1,000..20,000,000, slowest 1,000..fastest or empty"
pub record SoundCart (c : Cart) : Type 0 where
  pub fast : 1000 ≤ c.fastest
  pub slow : (s : ℕ) → c.slowest ≡ Some s → (1000 ≤ s) × (s ≤ c.fastest)

-- the test of the slowest speed, read back
slowest_sound : (f : ℕ) (o : Option ℕ) → T (slowest_range f o) → (s : ℕ) → o ≡ Some s → (1000 ≤ s) × (s ≤ f)
unfolding slowest_range
slowest_sound f None t s e = absurd (none-ne-some _ e)
slowest_sound f (Some x) t s e =
    let (least, most) = and_yes (leb 1000 x) (leb x f) t in
    let q : x ≡ s = some-injective _ _ e in
    (subst (λ (y : ℕ). 1000 ≤ y) q (leb→le 1000 x least), subst (λ (y : ℕ). y ≤ f) q (leb→le x f most))

-- both speeds
speeds_sound : (f : ℕ) (s : Option ℕ) → T (fastest_range f && slowest_range f s) → SoundCart (record { fastest = f; slowest = s })
unfolding fastest_range
speeds_sound f s t =
    let (fast, slow) = and_yes (fastest_range f) (slowest_range f s) t in
    record { fast = leb→le 1000 f (and_yes (leb 1000 f) _ fast).0; slow = slowest_sound f s slow }

-- so of a record that is taken for a cart, which is at most the 64th
pub cart_sound : (before : List Cart) (r : List ℕ) (c : Cart) → cart before r ≡ Ok c → SoundCart c × (suc (length before) ≤ 64)
unfolding cart next
cart_sound before r c e =
    let fs : List (List ℕ) = fields r in
    let (_, e1) = then_accepted (eqb (length fs) 2) Layout Carts _ _ c e in
    let (f, _, e2) = and_given_accepted (number (get_or fs 0 [])) Layout Carts _ _ c e1 in
    let (s, _, e3) = and_given_accepted (number_or_empty (get_or fs 1 [])) Layout Carts _ _ c e2 in
    let (t, e4) = then_accepted (fastest_range f && slowest_range f s) Range Carts _ _ c e3 in
    let (l, e5) = then_accepted (leb (suc (length before)) 64) Limit Carts _ _ c e4 in
    (subst SoundCart (accepted_same _ c e5) (speeds_sound f s t), leb→le _ _ l)

-- of all carts; and they are at most 64
abbrev FewCarts : List Cart → Type 0
FewCarts cs = Each SoundCart cs × (length cs ≤ 64)

one_cart_more : (before : List Cart) (r : List ℕ) (c : Cart) → FewCarts before → cart before r ≡ Ok c → FewCarts (before ++ (c ∷ []))
one_cart_more before r c h one =
    let (good, few) = cart_sound before r c one in
    (each_more SoundCart before c h.0 good, omega (arith, length-append before (c ∷ []), few))

-- of the whole table, which has a cart
pub read_carts_sound : (b : List ℕ) (cs : List Cart) → read_carts b ≡ Ok cs → Each SoundCart cs × (length cs ≤ 64) × (1 ≤ length cs)
unfolding read_carts
read_carts_sound b cs e =
    let (_, _, e1) = bind_accepted (within_bytes Carts b) _ cs e in
    let (rs, _, e2) = bind_accepted (after_first_line (bytes "fastest,slowest") Carts (records b)) _ cs e1 in
    let (all, from, e3) = bind_accepted (records_in_order cart [] rs) _ cs e2 in
    let (t, e4) = then_accepted (leb 1 (length all)) NoCarts Carts 0 (Ok all) cs e3 in
    let (good, few) = kept_in_order cart FewCarts one_cart_more rs [] all (each_none SoundCart, omega arith) from in
    subst (λ (x : List Cart). Each SoundCart x × (length x ≤ 64) × (1 ≤ length x)) (accepted_same all cs e4) (good, few, leb→le _ _ t)

-- ---- paths

-- as many numbers as fields
numbers_length : (fs : List (List ℕ)) (ns : List ℕ) → numbers fs ≡ Some ns → length ns ≡ length fs
unfolding numbers
numbers_length [] ns e = ap length (sym (some-injective _ _ e))
numbers_length (f ∷ fs) ns e = by (number f) (numbers fs) (numbers_length fs) e
  where
    by : (o : Option ℕ) (q : Option (List ℕ)) → ((ms : List ℕ) → q ≡ Some ms → length ms ≡ length fs)
        → elim o [ None ↦ None | Some n ↦ elim q [ None ↦ None | Some ms ↦ Some (n ∷ ms) ] ] ≡ Some ns → length ns ≡ suc (length fs)
    by None q h e = absurd (none-ne-some _ e)
    by (Some n) None h e = absurd (none-ne-some _ e)
    by (Some n) (Some ms) h e = ap length (sym (some-injective _ _ e)) ∙ ap suc (h ms refl)

-- as many cells as there are steps, and at least one
abbrev pub Wide : List (List ℕ) → List ℕ → Type 0
Wide all q = (length q ≡ steps all) × (1 ≤ length q)

-- a record that is taken for a path is as wide as the first before it, and within the limits
pub path_sound : (before : List (List ℕ)) (r q : List ℕ) → path before r ≡ Ok q
    → T (same_width before (length q)) × (1 ≤ length q) × (length q ≤ 1024) × (next before * length q ≤ 8192)
unfolding path
path_sound before r q e =
    let (cs, there, e1) = and_given_accepted (numbers (fields r)) Layout Paths _ _ q e in
    let (t, e2) = then_accepted (same_width before (length cs)) Layout Paths _ _ q e1 in
    let (_, e3) = then_accepted (cells_range cs) Range Paths _ _ q e2 in
    let (l, e4) = then_accepted (leb (length cs) 1024 && leb (next before * length cs) 8192) Limit Paths _ _ q e3 in
    let (few, room) = and_yes (leb (length cs) 1024) _ l in
    let (_, _, fields-are) = some_field r in
    let some-cell : 1 ≤ length cs = omega (arith, numbers_length (fields r) cs there, ap (length {A = List ℕ}) fields-are) in
    subst (λ (x : List ℕ). T (same_width before (length x)) × (1 ≤ length x) × (length x ≤ 1024) × (next before * length x ≤ 8192)) (accepted_same cs q e4)
    (t, some-cell, leb→le _ _ few, leb→le _ _ room)

-- one path more, as wide as those before
wide_more : (before : List (List ℕ)) (q : List ℕ) → Each (Wide before) before → T (same_width before (length q)) → 1 ≤ length q
    → Each (Wide (before ++ (q ∷ []))) (before ++ (q ∷ []))
unfolding same_width steps
wide_more [] q h t l = each_more (Wide (q ∷ [])) [] q (each_none (Wide (q ∷ []))) (refl, l)
wide_more (p ∷ ps) q h t l = each_more (Wide (p ∷ ps)) (p ∷ ps) q h (sym (eqb→eq (length p) (length q) t), l)

-- and as many steps then as it has cells
pub steps_more : (before : List (List ℕ)) (q : List ℕ) → T (same_width before (length q)) → steps (before ++ (q ∷ [])) ≡ length q
unfolding same_width steps
steps_more [] q t = refl
steps_more (p ∷ ps) q t = eqb→eq (length p) (length q) t

-- paths of the same width, within the limits: "T 1,023, 8,192 path cells"
pub record Even (ps : List (List ℕ)) : Type 0 where
  pub wide : Each (Wide ps) ps
  pub few_steps : steps ps ≤ 1024
  pub few_cells : length ps * steps ps ≤ 8192

-- no paths
pub even_none : Even []
unfolding steps
even_none = record { wide = each_none (Wide []); few_steps = omega arith; few_cells = omega arith }

-- one path more
pub even_more : (before : List (List ℕ)) (r q : List ℕ) → Even before → path before r ≡ Ok q → Even (before ++ (q ∷ []))
unfolding next
even_more before r q h one =
    let (same, some-cell, few, room) = path_sound before r q one in
    let w : steps (before ++ (q ∷ [])) ≡ length q = steps_more before q same in
    let n : length (before ++ (q ∷ [])) ≡ suc (length before) = omega (arith, length-append before (q ∷ [])) in
    record {
      wide = wide_more before q h.wide same some-cell;
      few_steps = subst (λ (k : ℕ). k ≤ 1024) (sym w) few;
      few_cells = subst (λ (k : ℕ). length (before ++ (q ∷ [])) * k ≤ 8192) (sym w) (subst (λ (k : ℕ). k * length q ≤ 8192) (sym n) room);
    }

-- of all paths
pub in_order_even : (rs ps : List (List ℕ)) → records_in_order path [] rs ≡ Ok ps → Even ps
in_order_even rs ps e = kept_in_order path Even even_more rs [] ps even_none e

-- of the whole table, which has as many paths as there are carts
pub read_paths_sound : (carts : ℕ) (b : List ℕ) (ps : List (List ℕ)) → read_paths carts b ≡ Ok ps → Even ps × (length ps ≡ carts)
unfolding read_paths
read_paths_sound carts b ps e =
    let (_, _, e1) = bind_accepted (within_bytes Paths b) _ ps e in
    let (all, from, e2) = bind_accepted (records_in_order path [] (records b)) _ ps e1 in
    let (t, e3) = then_accepted (eqb (length all) carts) PathCount Paths 0 (Ok all) ps e2 in
    subst (λ (x : List (List ℕ)). Even x × (length x ≡ carts)) (accepted_same all ps e3) (in_order_even (records b) all from, eqb→eq (length all) carts t)

-- ---- what two carts or a cart and the roads may not do

-- no path leaves the roads
none_off_road : (roads : List Road) (i : ℕ) (ps : List (List ℕ)) → off_road roads i ps ≡ None → Each (λ (q : List ℕ). T (on_roads roads q)) ps
unfolding off_road
none_off_road roads i [] e q m = absurd (Memᴰ.not-nil m)
none_off_road roads i (p ∷ ps) e q m = by (on_roads roads p) refl (none_off_road roads (suc i) ps) e (Memᴰ.cases_cons m)
  where
    by : (t : Bool) → on_roads roads p ≡ t → (off_road roads (suc i) ps ≡ None → Each (λ (q : List ℕ). T (on_roads roads q)) ps)
        → cond t (off_road roads (suc i) ps) (Some i) ≡ None → (q ≡ p) ⊎ Memᴰ q ps → T (on_roads roads q)
    by true on rest e c = ⊎_elim (λ q-is. subst (λ (x : List ℕ). T (on_roads roads x)) (sym q-is) (subst T (sym on) tt)) (rest e q) c
    by false on rest e c = absurd (some-ne-none _ e)

-- a search that finds nothing finds nothing at any step
none_earliest : (f : ℕ → Option ℕ) (n s i : ℕ) → earliest f s n ≡ None → i < n → f (s + i) ≡ None
unfolding earliest
none_earliest f zero s i e l = absurd (omega arith)
none_earliest f (suc n) s i e l = by (f s) refl e i l (none_earliest f n (suc s))
  where
    by : (o : Option ℕ) → f s ≡ o → ◌≡◌ {A = Option ℕ} (elim o [ None ↦ earliest f (suc s) n | Some i ↦ Some i ]) None
        → (i : ℕ) → i < suc n → ((i : ℕ) → earliest f (suc s) n ≡ None → i < n → f (suc s + i) ≡ None) → f (s + i) ≡ None
    by None h e zero l rest = subst (λ (t : ℕ). f t ≡ None) (omega arith) h
    by None h e (suc i) l rest = subst (λ (t : ℕ). f t ≡ None) (omega arith) (rest i e (omega arith))
    by (Some x) h e i l rest = absurd (some-ne-none _ e)

-- one that collides with none of those before it collides with no one of them
none_collides : {A : Type 0} (f : A → A → Bool) (x d : A) (ys : List A) (i : ℕ) → collides f x ys ≡ false → i < length ys → f x (get_or ys i d) ≡ false
unfolding collides
none_collides f x d [] i e l = absurd (omega arith)
none_collides f x d (y ∷ ys) i e l = by (f x y) refl i l e (none_collides f x d ys)
  where
    by : (t : Bool) → f x y ≡ t → (i : ℕ) → i < length (y ∷ ys) → (t || collides f x ys) ≡ false
        → ((i : ℕ) → collides f x ys ≡ false → i < length ys → f x (get_or ys i d) ≡ false) → f x (get_or (y ∷ ys) i d) ≡ false
    by true h i l e rest = absurd (true≢false e)
    by false h zero l e rest = h
    by false h (suc i) l e rest = rest i e (omega arith)

-- where no first collision is found, no one collides with one before it
none_collide : {A : Type 0} (f : A → A → Bool) (d : A) (xs before : List A) (i j : ℕ) → first_collision f before xs ≡ None
    → i < length before + j → j < length xs → f (get_or xs j d) (get_or (before ++ xs) i d) ≡ false
unfolding first_collision
none_collide f d [] before i j e l k = absurd (omega arith)
none_collide f d (x ∷ xs) before i zero e l k = by (collides f x before) refl e
  where
    here : collides f x before ≡ false → f x (get_or (before ++ (x ∷ xs)) i d) ≡ false
    here h =
        ap (f x) (get_or-append before (x ∷ xs) d i (omega arith))
        ∙ none_collides f x d before i h (omega arith)

    by : (t : Bool) → collides f x before ≡ t → cond t (Some (next before)) (first_collision f (before ++ (x ∷ [])) xs) ≡ None
        → f x (get_or (before ++ (x ∷ xs)) i d) ≡ false
    by true h e = absurd (some-ne-none _ e)
    by false h e = here h
none_collide {A} f d (x ∷ xs) before i (suc j) e l k = by (collides f x before) e (λ h. none_collide f d xs (before ++ (x ∷ [])) i j h)
  where
    by : (t : Bool) → cond t (Some (next before)) (first_collision f (before ++ (x ∷ [])) xs) ≡ None
        → (first_collision f (before ++ (x ∷ [])) xs ≡ None → i < length (before ++ (x ∷ [])) + j → j < length xs
        → f (get_or xs j d) (get_or (before ++ (x ∷ []) ++ xs) i d) ≡ false)
        → f (get_or xs j d) (get_or (before ++ (x ∷ xs)) i d) ≡ false
    by true e rest = absurd (some-ne-none _ e)
    by false e rest =
        subst (λ (all : List A). f (get_or xs j d) (get_or all i d) ≡ false) (append_assoc before (x ∷ []) xs)
        (rest e (omega (arith, length-append before (x ∷ []))) (omega arith))

-- "two carts in one cell at one step": none are
none_meet : (ps : List (List ℕ)) → first_same_cell ps ≡ None → (i j s : ℕ) → i < j → j < length ps → s < steps ps
    → at_step s (get_or ps i []) ≢ at_step s (get_or ps j [])
unfolding first_same_cell same_cell
none_meet ps e i j s a b c q = subst T no yes
  where
    cells : List ℕ
    cells = map (at_step s) ps

    at : (n : ℕ) → get_or cells n (at_step s []) ≡ at_step s (get_or ps n [])
    at n = get_or-map (at_step s) ps n []

    found : same_cell ps s ≡ None
    found = subst (λ (n : ℕ). same_cell ps n ≡ None) (omega arith) (none_earliest (same_cell ps) (steps ps) 0 s e c)

    no : eqb (get_or cells j (at_step s [])) (get_or cells i (at_step s [])) ≡ false
    no = none_collide eqb (at_step s []) cells [] i j found (omega arith) (omega (arith, length-map ps (at_step s), b))

    yes : T (eqb (get_or cells j (at_step s [])) (get_or cells i (at_step s [])))
    yes = subst (λ (n : ℕ). T (eqb (get_or cells j (at_step s [])) n)) (at j ∙ sym q ∙ sym (at i)) (eqb_refl (get_or cells j (at_step s [])))

-- ---- the plan

-- what is known of every plan that is read
pub record Sound (p : Plan) : Type 0 where
  pub some_cart : 1 ≤ length p.carts
  pub few_carts : length p.carts ≤ 64
  pub path_each : length p.paths ≡ length p.carts
  pub same_steps : (q : List ℕ) → Memᴰ q p.paths → length q ≡ steps p.paths
  pub some_step : (q : List ℕ) → Memᴰ q p.paths → 1 ≤ length q
  pub sound_carts : (c : Cart) → Memᴰ c p.carts → SoundCart c
  pub sound_roads : (d : Road) → Memᴰ d p.roads → SoundRoad d
  pub on_the_roads : (q : List ℕ) → Memᴰ q p.paths → T (on_roads p.roads q)
  pub apart : (i j s : ℕ) → i < j → j < length p.paths → s < steps p.paths
      → at_step s (get_or p.paths i []) ≢ at_step s (get_or p.paths j [])

-- tables without a refusal up to 9 give a sound plan: each of the steps of `read_tables` accepted
pub accepted_sound : (ts : Tables) (p : Plan) → read_tables ts ≡ Ok p → Sound p
unfolding read_tables
accepted_sound ts p e =
    let (rs, er, e1) = bind_accepted (read_roads ts.roads) _ p e in
    let (cs, ec, e2) = bind_accepted (read_carts ts.carts) _ p e1 in
    let (ps, ep, e3) = bind_accepted (read_paths (length cs) ts.paths) _ p e2 in
    let (on, e4) = none_found_accepted (off_road rs 1 ps) OffRoad _ p e3 in
    let (alone, e5) = none_found_accepted (first_same_cell ps) SameCell _ p e4 in
    let (_, e6) = none_found_accepted (first_exchange ps) Exchange _ p e5 in
    let (carts, few, one) = read_carts_sound ts.carts cs ec in
    let (even, count) = read_paths_sound (length cs) ts.paths ps ep in
    subst Sound (accepted_same (record { roads = rs; carts = cs; paths = ps }) p e6)
    (record {
      some_cart = one;
      few_carts = few;
      path_each = count;
      same_steps = λ q m. (even.wide q m).0;
      some_step = λ q m. (even.wide q m).1;
      sound_carts = carts;
      sound_roads = read_roads_sound ts.roads rs er;
      on_the_roads = none_off_road rs 1 ps on;
      apart = none_meet ps alone;
    })

-- its paths are of one width, and within the limits of steps and cells
pub accepted_even : (ts : Tables) (p : Plan) → read_tables ts ≡ Ok p → Even p.paths
unfolding read_tables
accepted_even ts p e =
    let (rs, _, e1) = bind_accepted (read_roads ts.roads) _ p e in
    let (cs, _, e2) = bind_accepted (read_carts ts.carts) _ p e1 in
    let (ps, ep, e3) = bind_accepted (read_paths (length cs) ts.paths) _ p e2 in
    let (_, e4) = none_found_accepted (off_road rs 1 ps) OffRoad _ p e3 in
    let (_, e5) = none_found_accepted (first_same_cell ps) SameCell _ p e4 in
    let (_, e6) = none_found_accepted (first_exchange ps) Exchange _ p e5 in
    subst (λ (x : Plan). Even x.paths) (accepted_same (record { roads = rs; carts = cs; paths = ps }) p e6) (read_paths_sound (length cs) ts.paths ps ep).0

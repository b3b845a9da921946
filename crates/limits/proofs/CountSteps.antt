-- The counts of paths in an array, one step of a loop after the other. Assumes nothing.
use Rattle.std.proofs.lemmas.Bool.Decides.{nat_tests}
use Prim.Native.Nat.{ℕ, zero, suc, ◌+◌, ◌*◌, ◌-◌, ◌≤◌, ◌<◌}
use native.Mathlib.Nat.{min-le_left, suc-mul, mul-le-mul_right}
use native.Mathlib.Numerals.{add-one}
use native.Mathlib.Omega.{arith}
use mathlib.Core.Path.{◌≡◌, ap, sym, ◌∙◌}
use mathlib.Core.Logic.{◌≢◌}
use mathlib.Core.Bool.{Bool, true, false, cond}
use mathlib.Core.List.{List, [], ◌∷◌, ◌++◌, map, append_assoc}
use lib.Dec.{eqb}
use lib.ListN.{length, take, drop, get_or, set, length-take, length-append, drop_of_length-le}
use lib.Seq.{drop-cons, drop-drop, get_or-set_same, get_or-set_other}
use borrow.Author.Tests.{eq-eqb, ne_eqb}
use Rattle.tables.specs.Arrays.{paths_in}
use Rattle.network.specs.Events.{Visit, visits_after, visits_of}
use Rattle.network.specs.Bounds.{Bound, no_earlier}
use Rattle.limits.specs.declared.row.Stop.{Stop}
use Rattle.limits.specs.Counts.{total, moves_after, moves, stop, stops, counts, later_carts, orders_from, orders_among, stop_at, stops_in}
use Rattle.limits.specs.Row.{Entry, later_bounds, followed, row_from, row_bounds, entry_at, placed, entry_in, row_in}
use Rattle.limits.proofs.RowBounds.{later_count, row_count, placed_visits}

-- ---- a path

module _ (p : List ℕ) where
  -- the cell at step t, and those after it
  cells_cons : (t : ℕ) → t < length p → drop t p ≡ get_or p t 0 ∷ drop (t + 1) p
  cells_cons t l = drop-cons p t 0 l ∙ ap (λ (n : ℕ). get_or p t 0 ∷ drop n p) (sym (add-one t))

  -- moves from step 1 on
  pub moves_begin : 1 ≤ length p → moves p ≡ moves_after (get_or p 0 0) (drop 1 p)
  unfolding moves
  moves_begin l = ap moves (cells_cons 0 l)

  -- a wait
  pub moves_stay : (c t : ℕ) → t < length p → c ≡ get_or p t 0 → moves_after c (drop t p) ≡ moves_after (get_or p t 0) (drop (t + 1) p)
  unfolding moves_after
  moves_stay c t l e =
      let rest : ℕ = moves_after (get_or p t 0) (drop (t + 1) p) in
      ap (moves_after c) (cells_cons t l) ∙ ap (λ (b : Bool). cond b rest (suc rest)) (eq-eqb c (get_or p t 0) e)

  -- a move
  pub moves_go : (c t : ℕ) → t < length p → (c ≡ get_or p t 0 → ⊥) → moves_after c (drop t p) ≡ suc (moves_after (get_or p t 0) (drop (t + 1) p))
  unfolding moves_after
  moves_go c t l e =
      let rest : ℕ = moves_after (get_or p t 0) (drop (t + 1) p) in
      ap (moves_after c) (cells_cons t l) ∙ ap (λ (b : Bool). cond b rest (suc rest)) (ne_eqb c (get_or p t 0) e)

  -- none after the last step
  pub moves_end : (c t : ℕ) → length p ≤ t → moves_after c (drop t p) ≡ 0
  unfolding moves_after
  moves_end c t l = ap (moves_after c) (drop_of_length-le p {i = t} l)

  -- visits from step 1 on
  pub visits_begin : 1 ≤ length p → visits_of p ≡ record { step = 0; cell = get_or p 0 0 } ∷ visits_after (get_or p 0 0) 1 (drop 1 p)
  unfolding visits_of
  visits_begin l = ap visits_of (cells_cons 0 l)

  -- a wait is no visit
  pub visits_stay : (c t : ℕ) → t < length p → c ≡ get_or p t 0 → visits_after c t (drop t p) ≡ visits_after (get_or p t 0) (t + 1) (drop (t + 1) p)
  unfolding visits_after
  visits_stay c t l e =
      let d : ℕ = get_or p t 0 in
      let rest : List Visit = visits_after d (suc t) (drop (t + 1) p) in
      ap (visits_after c t) (cells_cons t l)
      ∙ ap (λ (b : Bool). cond b rest (record { step = t; cell = d } ∷ rest)) (eq-eqb c d e)
      ∙ ap (λ (n : ℕ). visits_after d n (drop (t + 1) p)) (sym (add-one t))

  -- a move is one
  pub visits_go : (c t : ℕ) → t < length p → (c ≡ get_or p t 0 → ⊥)
      → visits_after c t (drop t p) ≡ record { step = t; cell = get_or p t 0 } ∷ visits_after (get_or p t 0) (t + 1) (drop (t + 1) p)
  unfolding visits_after
  visits_go c t l e =
      let d : ℕ = get_or p t 0 in
      let rest : List Visit = visits_after d (suc t) (drop (t + 1) p) in
      ap (visits_after c t) (cells_cons t l)
      ∙ ap (λ (b : Bool). cond b rest (record { step = t; cell = d } ∷ rest)) (ne_eqb c d e)
      ∙ ap (λ (n : ℕ). record { step = t; cell = d } ∷ visits_after d n (drop (t + 1) p)) (sym (add-one t))

  -- none after the last step
  pub visits_end : (c t : ℕ) → length p ≤ t → visits_after c t (drop t p) ≡ []
  unfolding visits_after
  visits_end c t l = ap (visits_after c t) (drop_of_length-le p {i = t} l)

-- ---- paths in an array

-- no more moves than cells
moves_after_most : (ds : List ℕ) (c : ℕ) → moves_after c ds ≤ length ds
unfolding moves_after
moves_after_most [] c = omega arith
moves_after_most (d ∷ ds) c = by (eqb c d) (moves_after_most ds d)
  where
    by : (b : Bool) → moves_after d ds ≤ length ds → cond b (moves_after d ds) (suc (moves_after d ds)) ≤ suc (length ds)
    by true h = omega arith
    by false h = omega arith

-- of a path
moves_most : (q : List ℕ) → moves q ≤ length q
unfolding moves
moves_most [] = omega arith
moves_most (c ∷ cs) = let h : moves_after c cs ≤ length cs = moves_after_most cs c in omega arith

-- than steps
pub path_moves_most : (w : ℕ) (r : List ℕ) → moves (take w r) ≤ w
path_moves_most w r = omega (arith, moves_most (take w r), length-take w r, min-le_left w (length r))

-- the path at hand and those after it
pub paths_cons : (n i w at : ℕ) (s : List ℕ) → i < n → paths_in (n - i) w (drop at s) ≡ take w (drop at s) ∷ paths_in (n - (i + 1)) w (drop (at + w) s)
unfolding paths_in
paths_cons n i w at s l =
    let one : n - i ≡ suc (n - (i + 1)) = omega arith in
    ap (λ (m : ℕ). paths_in m w (drop at s)) one ∙ ap (λ (r : List ℕ). take w (drop at s) ∷ paths_in (n - (i + 1)) w r) (drop-drop w at s)

-- none after the last
pub paths_none : (n i w : ℕ) (r : List ℕ) → n ≤ i → paths_in (n - i) w r ≡ []
unfolding paths_in
paths_none n i w r l = let none : n - i ≡ 0 = omega arith in ap (λ (m : ℕ). paths_in m w r) none

-- no moves after the last path
pub all_moves_none : (n i w : ℕ) (r : List ℕ) → n ≤ i → total moves (paths_in (n - i) w r) ≡ 0
unfolding total
all_moves_none n i w r l = ap (total moves) (paths_none n i w r l)

-- from the first on
pub from_first : (n w : ℕ) (s : List ℕ) → paths_in (n - 0) w (drop 0 s) ≡ paths_in n w s
from_first n w s = let all : n - 0 ≡ n = omega arith in ap (λ (m : ℕ). paths_in m w s) all

-- ---- paths by their places

-- where the path behind the i-th begins
row_end : (i w : ℕ) → i * w + w ≡ (i + 1) * w
row_end i w = omega (arith, suc-mul i w, ap (λ (k : ℕ). k * w) (add-one i))

-- it is there
pub row_fits : (n i w : ℕ) → i < n → i * w + w ≤ n * w
row_fits n i w l = omega (arith, row_end i w, mul-le-mul_right w l, ap (λ (k : ℕ). k * w) (add-one i))

-- the i-th path, and those after it
pub paths_next : (n i w : ℕ) (s : List ℕ) → i < n
    → paths_in (n - i) w (drop (i * w) s) ≡ take w (drop (i * w) s) ∷ paths_in (n - (i + 1)) w (drop ((i + 1) * w) s)
paths_next n i w s l =
    paths_cons n i w (i * w) s l ∙ ap (λ (k : ℕ). take w (drop (i * w) s) ∷ paths_in (n - (i + 1)) w (drop k s)) (row_end i w)

-- from the first on
pub paths_begin : (n w : ℕ) (s : List ℕ) → paths_in (n - 0) w (drop (0 * w) s) ≡ paths_in n w s
paths_begin n w s = let none : 0 * w ≡ 0 = omega arith in ap (λ (k : ℕ). paths_in (n - 0) w (drop k s)) none ∙ from_first n w s

-- the moves of the i-th, and of those after it
pub moves_next : (n i w : ℕ) (s : List ℕ) → i < n
    → total moves (paths_in (n - i) w (drop (i * w) s)) ≡ moves (take w (drop (i * w) s)) + total moves (paths_in (n - (i + 1)) w (drop ((i + 1) * w) s))
unfolding total
moves_next n i w s l = ap (total moves) (paths_next n i w s l)

-- ---- visits in arrays

module _ (ns ts cs : List ℕ) where
  -- what is put behind n visits comes after them
  pub stops_behind : (n : ℕ) → n < length ns → n < length ts → n < length cs → (a t c k i : ℕ) → i + k ≡ n
      → stops_in (set ns n a) (set ts n t) (set cs n c) (suc k) i ≡ stops_in ns ts cs k i ++ (record { cart = a; step = t; cell = c } ∷ [])
  unfolding stops_in stop_at
  stops_behind n la lt lc a t c zero i e =
      let here : i ≡ n = omega arith in
      ap (λ (m : ℕ). stop_at (set ns n a) (set ts n t) (set cs n c) m ∷ []) here
      ∙ ap (λ (x : ℕ). record { cart = x; step = get_or (set ts n t) n 0; cell = get_or (set cs n c) n 0 } ∷ []) (get_or-set_same ns n a 0 la)
      ∙ ap (λ (x : ℕ). record { cart = a; step = x; cell = get_or (set cs n c) n 0 } ∷ []) (get_or-set_same ts n t 0 lt)
      ∙ ap (λ (x : ℕ). record { cart = a; step = t; cell = x } ∷ []) (get_or-set_same cs n c 0 lc)
  stops_behind n la lt lc a t c (suc k) i e =
      let before : i ≢ n = λ q. omega arith in
      ap (λ (x : ℕ). record { cart = x; step = get_or (set ts n t) i 0; cell = get_or (set cs n c) i 0 } ∷ more) (get_or-set_other ns n i a 0 before)
      ∙ ap (λ (x : ℕ). record { cart = get_or ns i 0; step = x; cell = get_or (set cs n c) i 0 } ∷ more) (get_or-set_other ts n i t 0 before)
      ∙ ap (λ (x : ℕ). record { cart = get_or ns i 0; step = get_or ts i 0; cell = x } ∷ more) (get_or-set_other cs n i c 0 before)
      ∙ ap (λ (r : List Stop). stop_at ns ts cs i ∷ r) (stops_behind n la lt lc a t c k (suc i) (omega arith))
    where
      more : List Stop
      more = stops_in (set ns n a) (set ts n t) (set cs n c) (suc k) (suc i)

-- one visit of a cart is put, others are to come
pub put_next : (r r' : List Stop) (j : ℕ) (x : Visit) (vs : List Visit) → r' ≡ r ++ (stop j x ∷ []) → r' ++ map (stop j) vs ≡ r ++ map (stop j) (x ∷ vs)
put_next r r' j x vs e = ap (λ (q : List Stop). q ++ map (stop j) vs) e ∙ append_assoc r (stop j x ∷ []) (map (stop j) vs)

-- the visits of the i-th path, and of those after it
pub stops_next : (n i w : ℕ) (s : List ℕ) → i < n
    → stops (i + 1) (paths_in (n - i) w (drop (i * w) s))
    ≡ map (stop (i + 1)) (visits_of (take w (drop (i * w) s))) ++ stops (i + 1 + 1) (paths_in (n - (i + 1)) w (drop ((i + 1) * w) s))
unfolding stops
stops_next n i w s l =
    ap (stops (i + 1)) (paths_next n i w s l)
    ∙ ap (λ (j : ℕ). map (stop (i + 1)) (visits_of (take w (drop (i * w) s))) ++ stops j (paths_in (n - (i + 1)) w (drop ((i + 1) * w) s))) (sym (add-one (i + 1)))

-- no visits after the last path
pub stops_done : (n i w j : ℕ) (r : List ℕ) → n ≤ i → stops j (paths_in (n - i) w r) ≡ []
unfolding stops
stops_done n i w j r l = ap (stops j) (paths_none n i w r l)

-- ---- visits counted

module _ (ns ts cs : List ℕ) where
  -- the visit at hand, and those after it
  stops_cons : (n i : ℕ) → i < n → stops_in ns ts cs (n - i) i ≡ stop_at ns ts cs i ∷ stops_in ns ts cs (n - (i + 1)) (i + 1)
  unfolding stops_in
  stops_cons n i l = grind (arith, nat_tests)

  -- with its entry event
  row_cons : (n i : ℕ) → i < n → row_in ns ts cs (n - i) i ≡ entry_in ns ts cs i ∷ row_in ns ts cs (n - (i + 1)) (i + 1)
  unfolding row_in placed entry_in
  row_cons n i l =
      ap (placed i) (stops_cons n i l) ∙ ap (λ (j : ℕ). entry_in ns ts cs i ∷ placed j (stops_in ns ts cs (n - (i + 1)) (i + 1))) (sym (add-one i))

  -- the visit at hand is counted
  pub later_yes : (v : Entry) (k n i : ℕ) → i < n → counts v.visit k (stop_at ns ts cs i) ≡ true
      → later_bounds v k (row_in ns ts cs (n - i) i)
      ≡ no_earlier (v.event + 1) (3 * i + 3 - 2 * get_or ns i 0 - 1) ∷ later_bounds v (get_or ns i 0) (row_in ns ts cs (n - (i + 1)) (i + 1))
  unfolding later_bounds stop_at entry_in entry_at
  later_yes v k n i l e =
      let rest : List Entry = row_in ns ts cs (n - (i + 1)) (i + 1) in
      ap (later_bounds v k) (row_cons n i l)
      ∙ ap (λ (b : Bool). cond b (no_earlier (v.event + 1) (3 * i + 3 - 2 * get_or ns i 0 - 1) ∷ later_bounds v (get_or ns i 0) rest) (later_bounds v k rest)) e

  -- it is not
  pub later_no : (v : Entry) (k n i : ℕ) → i < n → counts v.visit k (stop_at ns ts cs i) ≡ false
      → later_bounds v k (row_in ns ts cs (n - i) i) ≡ later_bounds v k (row_in ns ts cs (n - (i + 1)) (i + 1))
  unfolding later_bounds stop_at entry_in entry_at
  later_no v k n i l e =
      let rest : List Entry = row_in ns ts cs (n - (i + 1)) (i + 1) in
      ap (later_bounds v k) (row_cons n i l)
      ∙ ap (λ (b : Bool). cond b (no_earlier (v.event + 1) (3 * i + 3 - 2 * get_or ns i 0 - 1) ∷ later_bounds v (get_or ns i 0) rest) (later_bounds v k rest)) e

  -- no more than there are
  pub later_most : (v : Stop) (k n i : ℕ) → later_carts v k (stops_in ns ts cs n i) ≤ n
  unfolding later_carts stops_in
  later_most v k zero i = omega arith
  later_most v k (suc n) i = by (counts v k (stop_at ns ts cs i)) (later_most v (stop_at ns ts cs i).cart n (suc i)) (later_most v k n (suc i))
    where
      by : (b : Bool) → later_carts v (stop_at ns ts cs i).cart (stops_in ns ts cs n (suc i)) ≤ n → later_carts v k (stops_in ns ts cs n (suc i)) ≤ n
          → cond b (suc (later_carts v (stop_at ns ts cs i).cart (stops_in ns ts cs n (suc i)))) (later_carts v k (stops_in ns ts cs n (suc i))) ≤ suc n
      by true h g = omega arith
      by false h g = omega arith

  -- as many bounds as are counted
  pub laters_count : (v : Entry) (k n i : ℕ) → length (later_bounds v k (row_in ns ts cs n i)) ≡ later_carts v.visit k (stops_in ns ts cs n i)
  unfolding row_in
  laters_count v k n i = later_count v k (placed i (stops_in ns ts cs n i)) ∙ ap (later_carts v.visit k) (placed_visits i (stops_in ns ts cs n i))

  -- of all visits
  pub row_counted : (n : ℕ) → length (row_bounds (row_in ns ts cs n 0)) ≡ orders_among (stops_in ns ts cs n 0)
  unfolding row_in row_bounds orders_among
  row_counted n =
      let row : List Entry = placed 0 (stops_in ns ts cs n 0) in
      row_count row row ∙ ap (λ (us : List Stop). orders_from us us) (placed_visits 0 (stops_in ns ts cs n 0))

  -- order bounds: a visit with one of the same cart behind it
  pub row_more : (all : List Entry) (n i : ℕ) → i + 1 < n → get_or ns i 0 ≡ get_or ns (i + 1) 0
      → row_from all (row_in ns ts cs (n - i) i) ≡ later_bounds (entry_in ns ts cs i) 0 all ++ row_from all (row_in ns ts cs (n - (i + 1)) (i + 1))
  unfolding row_from followed stop_at entry_in
  row_more all n i l e =
      let rest : List Entry = row_in ns ts cs (n - (i + 1)) (i + 1) in
      ap (row_from all) (row_cons n i (omega arith))
      ∙ ap (λ (b : Bool). cond b (later_bounds (entry_in ns ts cs i) 0 all) [] ++ row_from all rest)
      (ap (followed (entry_in ns ts cs i)) (row_cons n (i + 1) l) ∙ eq-eqb (get_or ns i 0) (get_or ns (i + 1) 0) e)

  -- one with a visit of another cart behind it
  pub row_same : (all : List Entry) (n i : ℕ) → i + 1 < n → (get_or ns i 0 ≡ get_or ns (i + 1) 0 → ⊥)
      → row_from all (row_in ns ts cs (n - i) i) ≡ row_from all (row_in ns ts cs (n - (i + 1)) (i + 1))
  unfolding row_from followed stop_at entry_in
  row_same all n i l e =
      let rest : List Entry = row_in ns ts cs (n - (i + 1)) (i + 1) in
      ap (row_from all) (row_cons n i (omega arith))
      ∙ ap (λ (b : Bool). cond b (later_bounds (entry_in ns ts cs i) 0 all) [] ++ row_from all rest)
      (ap (followed (entry_in ns ts cs i)) (row_cons n (i + 1) l) ∙ ne_eqb (get_or ns i 0) (get_or ns (i + 1) 0) e)

  -- the last visit of all has none
  pub row_none : (all : List Entry) (n i : ℕ) → n ≤ i + 1 → row_from all (row_in ns ts cs (n - i) i) ≡ []
  unfolding row_from followed row_in placed stops_in
  row_none all n i l = grind (arith, nat_tests)

  -- counted: a visit with one of the same cart behind it
  pub counted_more : (all : List Entry) (n i : ℕ) → i + 1 < n → get_or ns i 0 ≡ get_or ns (i + 1) 0
      → length (row_from all (row_in ns ts cs (n - i) i)) ≡ length (later_bounds (entry_in ns ts cs i) 0 all) + length (row_from all (row_in ns ts cs (n - (i + 1)) (i + 1)))
  counted_more all n i l e =
      ap (λ (bs : List Bound). length bs) (row_more all n i l e) ∙ length-append (later_bounds (entry_in ns ts cs i) 0 all) (row_from all (row_in ns ts cs (n - (i + 1)) (i + 1)))

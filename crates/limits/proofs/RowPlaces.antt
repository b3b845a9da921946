-- The row of the visits of paths in arrays: where no path is without a cell, a visit's entry event goes by its place and its cart. Assumes nothing.
use Prim.Native.Nat.{ℕ, zero, suc, ◌+◌, ◌*◌, ◌-◌, ◌≤◌, ◌<◌}
use native.Mathlib.Nat.{eq-or-lt_of_le, suc-mul}
use native.Mathlib.Omega.{arith}
use mathlib.Core.Path.{◌≡◌, refl, ap, ap₂, sym, ◌∙◌, subst}
use mathlib.Core.Logic.{⊎_elim}
use mathlib.Core.List.{List, [], ◌∷◌, ◌++◌, map}
use lib.ListN.{length, take, drop, get_or, length-drop}
use lib.Seq.{length-take-le}
use Rattle.tables.specs.Arrays.{paths_in}
use Rattle.network.specs.Events.{Visit, visits_after, visits_of, points, routes_of}
use Rattle.network.specs.Bounds.{order_bounds}
use Rattle.network.proofs.VisitPoints.{points_after_length}
use Rattle.limits.specs.Limits.{of_paths}
use Rattle.limits.specs.declared.row.Stop.{Stop}
use Rattle.limits.specs.Counts.{stop, stops, stop_at, stops_in}
use Rattle.limits.specs.Row.{Entry, entered, row_bounds, entry_at, placed, row_in}
use Rattle.limits.proofs.RowBounds.{cart_row, entered_path, of_paths_row}

-- ---- paths with cells

-- each path has a cell
abbrev Filled : List (List ℕ) → Type 0
Filled [] = Unit {0}
Filled (p ∷ ps) = (1 ≤ length p) × Filled ps

-- so have those in an array
paths_filled : (n w : ℕ) (s : List ℕ) → 1 ≤ w → n * w ≤ length s → Filled (paths_in n w s)
unfolding paths_in
paths_filled zero w s o l = tt
paths_filled (suc n) w s o l =
    let m : suc n * w ≡ n * w + w = suc-mul n w in
    let here : length (take w s) ≡ w = length-take-le w s (omega arith) in
    let left : length (drop w s) ≡ length s - w = length-drop w s in
    (omega arith, paths_filled n w (drop w s) o (omega arith))

-- such a path has a visit, and three points for each other one
visits_there : (p : List ℕ) → 1 ≤ length p → (1 ≤ length (visits_of p)) × (length (points (visits_of p)) + 2 ≡ 3 * length (visits_of p))
unfolding visits_of points
visits_there [] h = absurd (omega arith)
visits_there (c ∷ cs) h =
    (omega arith, omega (arith, points_after_length (record { step = 0; cell = c }) (visits_after c 1 cs)))

-- ---- entry events by place

-- the visits of one cart from place i on
placed_cart : (n e i : ℕ) (vs : List Visit) (rest : List Stop) → e + 2 * n ≡ 3 * i + 3
    → placed i (map (stop n) vs ++ rest) ≡ cart_row n e vs ++ placed (i + length vs) rest
unfolding placed entry_at stop
placed_cart n e i [] rest h = let same : i ≡ i + 0 = omega arith in ap (λ (k : ℕ). placed k rest) same
placed_cart n e i (x ∷ xs) rest h =
    let here : 3 * i + 3 - 2 * n ≡ e = omega arith in
    let next : suc i + length xs ≡ i + suc (length xs) = omega arith in
    ap₂ (λ (k : ℕ) (r : List Entry). record { visit = stop n x; event = k } ∷ r) here (placed_cart n (e + 3) (suc i) xs rest (omega arith))
    ∙ ap (λ (k : ℕ). record { visit = stop n x; event = e } ∷ (cart_row n (e + 3) xs ++ placed k rest)) next

-- of all carts
placed_is : (ps : List (List ℕ)) (n e i : ℕ) → Filled ps → e + 2 * n ≡ 3 * i + 3 → entered e (stops n ps) ≡ placed i (stops n ps)
unfolding stops entered placed
placed_is [] n e i f h = refl
placed_is (p ∷ ps) n e i f h =
    let vs : List Visit = visits_of p in
    let (some, count) = visits_there p f.0 in
    entered_path n e p ps
    ∙ ap (λ (r : List Entry). cart_row n e vs ++ r) (placed_is ps (suc n) (e + length (points vs)) (i + length vs) f.1 (omega (arith, count)))
    ∙ sym (placed_cart n e i vs (stops (suc n) ps) h)

-- ---- carts by place

-- no cart's number is above its visit's place by more than one
abbrev Low : ℕ → List Stop → Type 0
Low i [] = Unit {0}
Low i (v ∷ us) = (v.cart ≤ i + 1) × Low (suc i) us

-- of one cart
low_cart : (n i : ℕ) (vs : List Visit) (rest : List Stop) → n ≤ i + 1 → Low (i + length vs) rest → Low i (map (stop n) vs ++ rest)
unfolding stop
low_cart n i [] rest h l = let same : i + 0 ≡ i = omega arith in subst (λ (k : ℕ). Low k rest) same l
low_cart n i (x ∷ xs) rest h l =
    let next : i + suc (length xs) ≡ suc i + length xs = omega arith in
    (h, low_cart n (suc i) xs rest (omega arith) (subst (λ (k : ℕ). Low k rest) next l))

-- of all carts
stops_low : (ps : List (List ℕ)) (n i : ℕ) → Filled ps → n ≤ i + 1 → Low i (stops n ps)
unfolding stops
stops_low [] n i f h = tt
stops_low (p ∷ ps) n i f h =
    let (some, count) = visits_there p f.0 in
    low_cart n i (visits_of p) (stops (suc n) ps) h (stops_low ps (suc n) (i + length (visits_of p)) f.1 (omega (arith, some)))

-- in arrays
low_at : (ns ts cs : List ℕ) (m i : ℕ) → Low i (stops_in ns ts cs m i) → (u : ℕ) → i ≤ u → u < i + m → get_or ns u 0 ≤ u + 1
unfolding stops_in stop_at
low_at ns ts cs zero i l u h k = absurd (omega arith)
low_at ns ts cs (suc m) i l u h k =
    ⊎_elim (λ (e : i ≡ u). subst (λ (x : ℕ). get_or ns x 0 ≤ x + 1) e l.0) (λ (g : i < u). low_at ns ts cs m (suc i) l.1 u g (omega arith)) (eq-or-lt_of_le h)

-- ---- the row in arrays

module _ (ns ts cs : List ℕ) (m n w : ℕ) (s : List ℕ) (o : 1 ≤ w) (l : n * w ≤ length s) (e : stops_in ns ts cs m 0 ≡ stops 1 (paths_in n w s)) where
  -- carts' numbers
  pub numbers_low : (u : ℕ) → u < m → get_or ns u 0 ≤ u + 1
  numbers_low u h =
      low_at ns ts cs m 0 (subst (Low 0) (sym e) (stops_low (paths_in n w s) 1 0 (paths_filled n w s o l) (omega arith))) u (omega arith) (omega arith)

  -- its bounds are the order bounds of the paths
  pub row_is : row_bounds (row_in ns ts cs m 0) ≡ order_bounds (routes_of (of_paths (paths_in n w s)))
  unfolding row_in
  row_is =
      ap (λ (us : List Stop). row_bounds (placed 0 us)) e
      ∙ ap row_bounds (sym (placed_is (paths_in n w s) 1 1 0 (paths_filled n w s o l) refl))
      ∙ sym (of_paths_row (paths_in n w s))

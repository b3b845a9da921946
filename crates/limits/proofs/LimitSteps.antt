-- The limits over paths in an array, one test after the other. Assumes nothing.
use Rattle.std.proofs.lemmas.Bool.Decides.{nat_tests}
use Prim.Native.Nat.{ℕ, zero, suc, ◌+◌, ◌*◌, ◌-◌, ◌≤◌}
use native.Mathlib.Nat.{mul-zero, suc-mul}
use native.Mathlib.Omega.{arith}
use mathlib.Core.Path.{◌≡◌, refl, ap, sym, ◌∙◌, subst}
use mathlib.Core.Bool.{Bool, true, false, ◌&&◌}
use mathlib.Core.List.{List, [], ◌∷◌}
use lib.Dec.{leb}
use lib.ListN.{length, take, drop, length-drop}
use lib.Seq.{length-take-le}
use borrow.Author.Tests.{leb-true, le-leb}
use Rattle.tables.proofs.PathRecords.{paths_in_length}
use Rattle.tables.specs.Arrays.{paths_in}
use Rattle.network.specs.Events.{visits_of, points}
use Rattle.limits.specs.Limits.{of_paths, limits_kept, paths_within}
use Rattle.limits.specs.Counts.{total, moves, stops, orders_from, orders_among}
use Rattle.limits.proofs.Counts.{path_points, point_count, limits_are}

-- ---- paths in an array

-- a path with a cell has three points for each move, and one
pub path_events : (q : List ℕ) → 1 ≤ length q → path_points q ≡ suc (3 * moves q)
path_events [] h = absurd (omega arith)
path_events (c ∷ cs) h = point_count c cs

-- of all paths
pub all_events : (n w : ℕ) (s : List ℕ) → 1 ≤ w → n * w ≤ length s → total path_points (paths_in n w s) ≡ n + 3 * total moves (paths_in n w s)
unfolding paths_in total
all_events zero w s l h = refl
all_events (suc n) w s l h =
    let m : suc n * w ≡ n * w + w = suc-mul n w in
    let here : length (take w s) ≡ w = length-take-le w s (omega arith) in
    let left : length (drop w s) ≡ length s - w = length-drop w s in
    omega (arith, path_events (take w s) (omega arith), all_events n w (drop w s) l (omega arith))

-- paths without cells have no point
empty_points : (n : ℕ) (s : List ℕ) → total path_points (paths_in n 0 s) ≡ 0
unfolding paths_in total visits_of points
empty_points zero s = refl
empty_points (suc n) s = omega (arith, empty_points n s)

-- no move
empty_moves : (n : ℕ) (s : List ℕ) → total moves (paths_in n 0 s) ≡ 0
unfolding paths_in total moves
empty_moves zero s = refl
empty_moves (suc n) s = omega (arith, empty_moves n s)

-- and no visit
empty_stops : (n j : ℕ) (s : List ℕ) → stops j (paths_in n 0 s) ≡ []
unfolding paths_in stops visits_of
empty_stops zero j s = refl
empty_stops (suc n) j s = empty_stops n (suc j) s

-- and no order bound
empty_orders : (n : ℕ) (s : List ℕ) → orders_among (stops 1 (paths_in n 0 s)) ≡ 0
unfolding orders_among orders_from
empty_orders n s = ap orders_among (empty_stops n 1 s)

-- ---- the tests

module _ (n w : ℕ) (s : List ℕ) where
  -- few enough carts and steps, and all cells there: the limits of events and bounds are asked
  all_there : n ≤ 64 → w ≤ 1024 → n * w ≤ length s → limits_kept (of_paths (paths_in n w s)) ≡ paths_within n w s
  unfolding paths_within
  all_there h k l = simp (le-leb n 64 h, le-leb w 1024 k, le-leb (n * w) (length s) l)

  -- no more events than may be: the bounds are counted
  bounds_found : n ≤ 64 → w ≤ 1024 → n * w ≤ length s → 2 + total path_points (paths_in n w s) ≤ 4096
      → leb (2 * n + 3 * total moves (paths_in n w s) + orders_among (stops 1 (paths_in n w s))) 8192 ≡ paths_within n w s
  bounds_found h k l under =
      let ps : List (List ℕ) = paths_in n w s in
      ap (λ (c : ℕ). leb (2 * c + 3 * total moves ps + orders_among (stops 1 ps)) 8192) (sym (paths_in_length n w s))
      ∙ ap (λ (b : Bool). b && leb (2 * length ps + 3 * total moves ps + orders_among (stops 1 ps)) 8192) (sym (le-leb (2 + total path_points ps) 4096 under))
      ∙ sym (limits_are ps)
      ∙ all_there h k l

  -- the bounds, by the moves and the order bounds counted
  bounds_counted : n ≤ 64 → w ≤ 1024 → n * w ≤ length s → 1 ≤ w → (m b : ℕ) → m ≡ total moves (paths_in n w s)
      → b ≡ orders_among (stops 1 (paths_in n w s)) → 2 + n + 3 * m ≤ 4096 → leb (2 * n + 3 * m + b) 8192 ≡ paths_within n w s
  bounds_counted h k l o m b e f under =
      ap (λ (x : ℕ). leb (2 * n + 3 * x + b) 8192) e
      ∙ ap (λ (x : ℕ). leb (2 * n + 3 * total moves (paths_in n w s) + x) 8192) f
      ∙ bounds_found h k l (omega (arith, all_events n w s o l))

-- paths without cells make two events, and two bounds for each cart
no_cells : (n : ℕ) (s : List ℕ) → n ≤ 64 → true ≡ paths_within n 0 s
no_cells n s h =
    let none : n * 0 ≡ 0 = mul-zero n in
    let few : 2 * n + 3 * total moves (paths_in n 0 s) + orders_among (stops 1 (paths_in n 0 s)) ≤ 8192 = omega (arith, empty_moves n s, empty_orders n s) in
    sym (le-leb (2 * n + 3 * total moves (paths_in n 0 s) + orders_among (stops 1 (paths_in n 0 s))) 8192 few)
    ∙ bounds_found n 0 s h (omega arith) (omega arith) (omega (arith, empty_points n s))

-- where there are no steps
pub no_steps : (n w : ℕ) (s : List ℕ) → w ≡ 0 → leb n 64 ≡ paths_within n w s
unfolding paths_within
no_steps n w s e = by (leb n 64) refl
  where
    by : (b : Bool) → leb n 64 ≡ b → b ≡ (b && leb w 1024 && leb (n * w) (length s) && limits_kept (of_paths (paths_in n w s)))
    by true q = subst (λ (x : ℕ). true ≡ (true && leb x 1024 && leb (n * x) (length s) && limits_kept (of_paths (paths_in n x s)))) (sym e)
        (subst (λ (b : Bool). true ≡ (b && leb 0 1024 && leb (n * 0) (length s) && limits_kept (of_paths (paths_in n 0 s)))) q (no_cells n s (leb-true n 64 q)))
    by false q = refl

-- ---- the order bounds

-- two tests with one outcome
same_test : (a b c d : ℕ) → (a ≤ b → c ≤ d) → (c ≤ d → a ≤ b) → leb a b ≡ leb c d
same_test a b c d f g = grind (arith, nat_tests)

-- those of the paths
abbrev pub path_orders : ℕ → ℕ → List ℕ → ℕ
path_orders n w s = orders_among (stops 1 (paths_in n w s))

-- as many as the other bounds leave
pub orders_asked : (n w : ℕ) (s : List ℕ) → n ≤ 64 → w ≤ 1024 → n * w ≤ length s → 1 ≤ w → (m : ℕ) → m ≡ total moves (paths_in n w s) → 2 + n + 3 * m ≤ 4096
    → leb (path_orders n w s) (8192 - 2 * n - 3 * m) ≡ paths_within n w s
orders_asked n w s h k l o m e under =
    let b : ℕ = path_orders n w s in
    same_test b (8192 - 2 * n - 3 * m) (2 * n + 3 * m + b) 8192 (λ g. omega arith) (λ g. omega arith) ∙ bounds_counted n w s h k l o m b e refl under

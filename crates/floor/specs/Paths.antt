-- The table of paths, and what two carts or a cart and the roads may not do (document 01, "Turned down because of the input").
-- Assumes nothing.
use Rattle.std.specs.Prelude.{ℕ, zero, suc, ◌*◌, ◌-◌, Bool, true, false, ◌&&◌, ◌||◌, cond, List, [], ◌∷◌, ◌++◌, map, leb, eqb, length, get_or, Option, None, Some, Ok}
use Rattle.rfc4180.specs.Records.{records, fields}
use Rattle.rfc4180.specs.Number.{numbers}
use Rattle.floor.specs.declared.Reason.TheVariants.{Layout, Range, Limit, PathCount}
use Rattle.floor.specs.declared.Table.TheVariants.{Paths}
use Rattle.floor.specs.Refusal.{Judged, ◌>>=◌, ◌>>◌, need, given, within_bytes, next, records_in_order}
use Rattle.floor.specs.Plan.{joined}
use Rattle.floor.specs.declared.Road.{Road}
use Rattle.floor.specs.Roads.{cell_range}

-- every cell in its range
unfoldable pub cells_range : List ℕ → Bool
cells_range [] = true
cells_range (c ∷ cs) = cell_range c && cells_range cs

-- "all records have T + 1 fields": as many as the first
unfoldable pub same_width : List (List ℕ) → ℕ → Bool
same_width [] w = true
same_width (p ∷ ps) w = eqb (length p) w

-- a record of cells, after the paths before it: 1, 2 and 4 ("T 1,023, 8,192 path cells")
unfoldable pub path : List (List ℕ) → List ℕ → Judged (List ℕ)
path before r = do
  let i : ℕ = next before
  cs ← given (numbers (fields r)) Layout Paths i
  need (same_width before (length cs)) Layout Paths i
  need (cells_range cs) Range Paths i
  need (leb (length cs) 1024 && leb (i * length cs) 8192) Limit Paths i
  Ok cs

-- "Paths: no first line"; "6 the paths": 6 follows them, for this count of carts
unfoldable pub read_paths : ℕ → List ℕ → Judged (List (List ℕ))
read_paths carts b = do
  within_bytes Paths b
  ps ← records_in_order path [] (records b)
  need (eqb (length ps) carts) PathCount Paths 0
  Ok ps

-- of every two successive cells of a path, that they are "equal" or "joined by a road"
unfoldable pub on_roads : List Road → List ℕ → Bool
on_roads roads [] = true
on_roads roads (a ∷ []) = true
on_roads roads (a ∷ b ∷ cs) = (eqb a b || joined roads a b) && on_roads roads (b ∷ cs)

-- "7 over all paths, the lowest record first": the first path, from record i on, that leaves the roads
unfoldable pub off_road : List Road → ℕ → List (List ℕ) → Option ℕ
off_road roads i [] = None
off_road roads i (p ∷ ps) = cond (on_roads roads p) (off_road roads (suc i) ps) (Some i)

-- whether x collides with one of those before it
unfoldable pub collides : {A : Type 0} → (A → A → Bool) → A → List A → Bool
collides f x [] = false
collides f x (y ∷ ys) = f x y || collides f x ys

-- "by the higher record of the pair, the lowest such": the first record that collides with one before it
unfoldable pub first_collision : {A : Type 0} → (A → A → Bool) → List A → List A → Option ℕ
first_collision f before [] = None
first_collision f before (x ∷ xs) = cond (collides f x before) (Some (next before)) (first_collision f (before ++ (x ∷ [])) xs)

-- "by earliest step": the first found at the steps from s on, n of them
unfoldable pub earliest : (ℕ → Option ℕ) → ℕ → ℕ → Option ℕ
earliest f s zero = None
earliest f s (suc n) = elim (f s) [ None ↦ earliest f (suc s) n | Some i ↦ Some i ]

-- where a path is at a step
unfoldable pub at_step : ℕ → List ℕ → ℕ
at_step s p = get_or p s 0

-- "two carts in one cell at one step": the first record in a cell that one before it is in
unfoldable pub same_cell : List (List ℕ) → ℕ → Option ℕ
same_cell ps s = first_collision eqb [] (map (at_step s) ps)

-- the cell before and the cell after a step
pub record Move : Type 0 where
  pub before : ℕ
  pub after : ℕ

-- "two carts exchange cells in one step"
unfoldable pub exchanged : Move → Move → Bool
exchanged x y = eqb x.before y.after && eqb x.after y.before

-- the first record that exchanges cells with one before it, from step s to the next
unfoldable pub exchange : List (List ℕ) → ℕ → Option ℕ
exchange ps s = first_collision exchanged [] (map (λ (p : List ℕ). record { before = at_step s p; after = at_step (suc s) p }) ps)

-- T + 1, the number of "steps 0..T"
unfoldable pub steps : List (List ℕ) → ℕ
steps [] = 0
steps (p ∷ ps) = length p

-- "8 … by earliest step", at the steps 0..T
unfoldable pub first_same_cell : List (List ℕ) → Option ℕ
first_same_cell ps = earliest (same_cell ps) 0 (steps ps)

-- "then 9" likewise, from each step but the last to the next
unfoldable pub first_exchange : List (List ℕ) → Option ℕ
first_exchange ps = earliest (exchange ps) 0 (steps ps - 1)

-- Names every definition of this module, for a proof that computes with them all.
unfoldable pub open_paths : Unit {0}
unfolding cells_range same_width path read_paths on_roads off_road collides first_collision earliest at_step same_cell exchanged exchange steps first_same_cell first_exchange
open_paths = tt

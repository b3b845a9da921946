-- A plan's numbers in arrays: how the readers hand them on.
-- Assumes nothing.
use Rattle.std.specs.Prelude.{ℕ, zero, suc, drop, get_or, unwrap_or, None, Some}
use mathlib.Core.List.{List, [], ◌∷◌, flat_map}
use Rattle.floor.specs.declared.Road.{Road}
use Rattle.floor.specs.declared.Cart.{Cart}
unfoldable pub use Rattle.collisions.specs.Meetings.{paths_in}

-- a road's numbers, in its record's order
unfoldable pub road_numbers : Road → List ℕ
road_numbers d = d.from ∷ d.to ∷ d.length ∷ d.margin ∷ []

-- a cart's numbers, in its record's order: 0 where it has no slowest speed
unfoldable pub cart_numbers : Cart → List ℕ
cart_numbers c = c.fastest ∷ unwrap_or c.slowest 0 ∷ []

-- the cells of all paths, cart by cart
unfoldable pub path_cells : List (List ℕ) → List ℕ
path_cells = flat_map (λ (p : List ℕ). p)

-- the n roads in the front of an array
unfoldable pub roads_in : ℕ → List ℕ → List Road
roads_in zero s = []
roads_in (suc n) s =
    record { from = get_or s 0 0; to = get_or s 1 0; length = get_or s 2 0; margin = get_or s 3 0 } ∷ roads_in n (drop 4 s)

-- the n carts in the front of an array
unfoldable pub carts_in : ℕ → List ℕ → List Cart
carts_in zero s = []
carts_in (suc n) s = record { fastest = get_or s 0 0; slowest = elim (get_or s 1 0) [ zero ↦ None | suc v ↦ Some (suc v) ] } ∷ carts_in n (drop 2 s)

-- Names every definition of this module, for a proof that computes with them all.
unfoldable pub open_arrays : Unit {0}
unfolding road_numbers cart_numbers path_cells roads_in carts_in paths_in
open_arrays = tt

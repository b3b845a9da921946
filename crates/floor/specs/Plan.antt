-- A plan: roads, carts and paths (document 01, "The three tables").
-- A road and a cart are the records of the code (src/lib.rt). Assumes nothing.
use Rattle.std.specs.Prelude.{ℕ, Bool, true, false, ◌&&◌, ◌||◌, cond, List, [], ◌∷◌, eqb, Option, None, Some}
use Rattle.floor.specs.declared.Road.{Road}
use Rattle.floor.specs.declared.Cart.{Cart}

-- "Carts count from 1 in table order"; "Record j holds the cells of cart j at steps 0..T"
pub record Plan : Type 0 where
  pub roads : List Road
  pub carts : List Cart
  pub paths : List (List ℕ)

-- "A road runs both ways": this one joins the cells a and b
unfoldable pub joins : ℕ → ℕ → Road → Bool
joins a b r = (eqb r.from a && eqb r.to b) || (eqb r.from b && eqb r.to a)

-- the road between two cells, if any: "each pair of cells has at most one"
unfoldable pub road_between : List Road → ℕ → ℕ → Option Road
road_between [] a b = None
road_between (r ∷ rs) a b = cond (joins a b r) (Some r) (road_between rs a b)

-- two cells "joined by a road"
unfoldable pub joined : List Road → ℕ → ℕ → Bool
joined rs a b = elim (road_between rs a b) [ None ↦ false | Some r ↦ true ]

-- Names every definition of this module, for a proof that computes with them all.
unfoldable pub open_plan : Unit {0}
unfolding joins road_between joined
open_plan = tt

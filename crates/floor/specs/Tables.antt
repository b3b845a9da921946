-- The three tables read and judged, up to refusal 9 (document 01, "Turned down because of the input").
-- `network`'s `Judge` adds what is last: 4 for events, then bounds.
-- Assumes nothing.
use Rattle.std.specs.Prelude.{ℕ, List, length, Ok}
use Rattle.floor.specs.declared.Reason.TheVariants.{OffRoad, SameCell, Exchange}
use Rattle.floor.specs.Refusal.{Judged, ◌>>=◌, ◌>>◌, unless_found}
use Rattle.floor.specs.Plan.{Plan}
use Rattle.floor.specs.Roads.{read_roads}
use Rattle.floor.specs.Carts.{read_carts}
use Rattle.floor.specs.Paths.{read_paths, off_road, first_same_cell, first_exchange}

-- the bytes of the three tables
pub record Tables : Type 0 where
  pub roads : List ℕ
  pub carts : List ℕ
  pub paths : List ℕ

-- "Tables are read in the order 1, 2, 3 … Then 7 over all paths …; then 8, then 9"
unfoldable pub read_tables : Tables → Judged Plan
read_tables ts = do
  rs ← read_roads ts.roads
  cs ← read_carts ts.carts
  ps ← read_paths (length cs) ts.paths
  unless_found (off_road rs 1 ps) OffRoad
  unless_found (first_same_cell ps) SameCell
  unless_found (first_exchange ps) Exchange
  Ok (record { roads = rs; carts = cs; paths = ps })

-- Names every definition of this module, for a proof that computes with them all.
unfoldable pub open_tables : Unit {0}
unfolding read_tables
open_tables = tt

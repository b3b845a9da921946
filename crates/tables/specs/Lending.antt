-- The tables and arrays that a caller lends the reader, as the definitions speak of them.
-- Assumes nothing.
use Rattle.std.specs.Prelude.{◌≡◌}
use Rattle.floor.specs.Tables.{Tables}
use Rattle.tables.specs.declared.lent.Tables.{Tables as TableSlices}
use Rattle.tables.specs.declared.lent.PlanArrays.{PlanArrays}
use Rattle.tables.specs.Reading.{Arrays, AsLong}

-- what is in the tables
abbrev pub tables_of : TableSlices → Tables
tables_of t = record { roads = t.roads.now; carts = t.carts.now; paths = t.paths.now }

-- and in the arrays
abbrev pub arrays_of : PlanArrays → Arrays
arrays_of a = record { roads = a.edges.now; carts = a.speeds.now; cells = a.cells.now }

-- they are the same arrays, and as long, whatever is in them
pub record SameArrays (a b : PlanArrays) : Type 0 where
  pub edges : b.edges.ghost_name ≡ a.edges.ghost_name
  pub speeds : b.speeds.ghost_name ≡ a.speeds.ghost_name
  pub cells : b.cells.ghost_name ≡ a.cells.ghost_name
  pub as_long : AsLong (arrays_of a) (arrays_of b)

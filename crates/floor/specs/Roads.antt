-- The table of roads (document 01, "The three tables").
-- Assumes nothing.
use Rattle.std.specs.Prelude.{ℕ, ◌*◌, Bool, ◌&&◌, not, List, [], leb, ltb, eqb, length, get_or, Ok}
use Rattle.rfc4180.specs.Text.{bytes}
use Rattle.rfc4180.specs.Records.{records, fields}
use Rattle.rfc4180.specs.Number.{numbers}
use Rattle.floor.specs.declared.Reason.TheVariants.{Layout, Range, RoadPair, Limit}
use Rattle.floor.specs.declared.Table.TheVariants.{Roads}
use Rattle.floor.specs.Refusal.{Judged, ◌>>=◌, ◌>>◌, need, given, within_bytes, after_first_line, next, records_in_order}
use Rattle.floor.specs.Plan.{joined}
use Rattle.floor.specs.declared.Road.{Road}

-- "Cells are 0..65,534."
unfoldable pub cell_range : ℕ → Bool
cell_range c = leb c 65534

-- "Length is in micrometres, 3..100,000,000; margin is at least 1 and twice the margin is below the length."
unfoldable pub road_ranges : Road → Bool
road_ranges d =
    cell_range d.from && cell_range d.to && leb 3 d.length && leb d.length 100_000_000 && leb 1 d.margin
    && ltb (2 * d.margin) d.length

-- a record of four numbers, after the roads before it: 1, 2, 3 and 4 ("1,024 roads")
unfoldable pub road : List Road → List ℕ → Judged Road
road before r = do
  let i : ℕ = next before
  ns ← given (numbers (fields r)) Layout Roads i
  need (eqb (length ns) 4) Layout Roads i
  let d : Road = record { from = get_or ns 0 0; to = get_or ns 1 0; length = get_or ns 2 0; margin = get_or ns 3 0 }
  need (road_ranges d) Range Roads i
  need (not (eqb d.from d.to) && not (joined before d.from d.to)) RoadPair Roads i
  need (leb i 1024) Limit Roads i
  Ok d

-- "Roads: the first line is the bytes `from,to,length,margin`."
unfoldable pub read_roads : List ℕ → Judged (List Road)
read_roads b = do
  within_bytes Roads b
  rs ← after_first_line (bytes "from,to,length,margin") Roads (records b)
  records_in_order road [] rs

-- Names every definition of this module, for a proof that computes with them all.
unfoldable pub open_roads : Unit {0}
unfolding cell_range road_ranges road read_roads
open_roads = tt

-- `tables::roads::roads_from` meets its contract, turn by turn. Assumes nothing.
use Prim.Native.Nat.{◌≤◌}
use mathlib.Core.Path.{◌≡◌}
use mathlib.Core.List.{[]}
use lib.ListN.{length}
use Rattle.rfc4180.specs.Records.{records}
use Rattle.floor.specs.Refusal.{records_in_order}
use Rattle.floor.specs.Roads.{road}
use Rattle.tables.specs.Arrays.{road_numbers}
use Rattle.tables.specs.Index.{Linked}
use Rattle.tables.proofs.Turns.{Turn}
use Rattle.tables.proofs.roads.roads_from.Given as goal

abbrev pub invariant-loop-row : goal.invariant-loop-row
invariant-loop-row l =
    (l.n ≤ 1024) × (length l.roads ≡ length l.initial.roads) × Linked l.n l.roads l.index
    × Turn road road_numbers (records_in_order road [] (records l.fn.rows.rest.now)) (records l.row-iterator.rest.now) (length l.initial.roads) l.roads l.n

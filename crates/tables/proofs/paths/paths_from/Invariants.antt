-- `tables::paths::paths_from` meets its contract. The loop's invariant: the paths before stand in the array, and the rest of the table says what the
-- whole does. Assumes nothing.
use mathlib.Core.Path.{◌≡◌}
use mathlib.Core.List.{[]}
use lib.ListN.{length}
use Rattle.rfc4180.specs.Records.{records}
use Rattle.floor.specs.Refusal.{records_in_order}
use Rattle.floor.specs.Paths.{path}
use Rattle.tables.proofs.PathTurns.{PathTurn}
use Rattle.tables.proofs.paths.paths_from.Given as goal

abbrev pub invariant-loop-row : goal.invariant-loop-row
invariant-loop-row l =
    (length l.cells ≡ length l.initial.cells)
    × PathTurn (records_in_order path [] (records l.fn.rows.rest.now)) (records l.row-iterator.rest.now) (length l.initial.cells) l.cells l.n l.w

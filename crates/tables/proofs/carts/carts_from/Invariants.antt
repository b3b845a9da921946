-- `tables::carts::carts_from` meets its contract. The loop's invariant: the carts taken stand in the array, and the rest of the table says what the whole does.
-- Assumes nothing.
use Prim.Native.Nat.{◌≤◌}
use mathlib.Core.Path.{◌≡◌}
use mathlib.Core.List.{[]}
use lib.ListN.{length}
use Rattle.rfc4180.specs.Records.{records}
use Rattle.floor.specs.Refusal.{records_in_order}
use Rattle.floor.specs.Carts.{cart}
use Rattle.tables.specs.Arrays.{cart_numbers}
use Rattle.tables.proofs.Turns.{Turn}
use Rattle.tables.proofs.carts.carts_from.Given as goal

abbrev pub invariant-loop-row : goal.invariant-loop-row
invariant-loop-row l =
    (l.n ≤ 64) × (length l.carts ≡ length l.initial.carts)
    × Turn cart cart_numbers (records_in_order cart [] (records l.fn.rows.rest.now)) (records l.row-iterator.rest.now) (length l.initial.carts) l.carts l.n

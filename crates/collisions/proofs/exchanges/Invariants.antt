-- `collisions::exchanges` meets its contract. The loops' invariants are those of `same_cells`, for the moves to a step.
-- Assumes nothing.
use Prim.Native.Nat.{◌-◌}
use mathlib.Core.Path.{◌≡◌}
use Rattle.std.specs.Prelude.{None}
use lib.ListN.{take, drop}
use Rattle.floor.specs.Paths.{collides, first_collision, earliest, exchanged, exchange, steps, first_exchange}
use Rattle.collisions.specs.Meetings.{paths_in}
use Rattle.collisions.proofs.Searches.{moves_at}
use Rattle.collisions.proofs.exchanges.Given as goal

abbrev pub invariant-loop-k : goal.invariant-loop-k
invariant-loop-k l = (l.found ≡ None)
    × (collides exchanged (record { before = l.a; after = l.b }) (take l.i (moves_at l.carts l.w l.cells (l.s - 1)))
    ≡ collides exchanged (record { before = l.a; after = l.b }) (drop l.k (take l.i (moves_at l.carts l.w l.cells (l.s - 1)))))

abbrev pub invariant-loop-i : goal.invariant-loop-i
invariant-loop-i l = (l.found ≡ None)
    × (exchange (paths_in l.carts l.w l.cells) (l.s - 1) ≡ first_collision exchanged (take l.i (moves_at l.carts l.w l.cells (l.s - 1))) (drop l.i (moves_at l.carts l.w l.cells (l.s - 1))))

abbrev pub invariant-steps : goal.invariant-steps
invariant-steps l = (l.found ≡ None)
    × (first_exchange (paths_in l.carts l.w l.cells) ≡ earliest (exchange (paths_in l.carts l.w l.cells)) (l.s - 1) (steps (paths_in l.carts l.w l.cells) - 1 - (l.s - 1)))

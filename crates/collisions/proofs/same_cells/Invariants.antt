-- `collisions::same_cells` meets its contract. The loops' invariants: nothing was found at the steps passed, nor at this step among the carts
-- passed, nor for this cart against those passed. Assumes nothing.
use Prim.Native.Nat.{◌-◌}
use mathlib.Core.Path.{◌≡◌}
use Rattle.std.specs.Prelude.{None}
use lib.Dec.{eqb}
use lib.ListN.{take, drop}
use Rattle.floor.specs.Paths.{collides, first_collision, earliest, same_cell, steps, first_same_cell}
use Rattle.collisions.specs.Meetings.{paths_in}
use Rattle.collisions.proofs.Searches.{cells_at}
use Rattle.collisions.proofs.same_cells.Given as goal

abbrev pub invariant-loop-k : goal.invariant-loop-k
invariant-loop-k l = (l.found ≡ None)
    × (collides eqb l.c (take l.i (cells_at l.carts l.w l.cells l.s)) ≡ collides eqb l.c (drop l.k (take l.i (cells_at l.carts l.w l.cells l.s))))

abbrev pub invariant-loop-i : goal.invariant-loop-i
invariant-loop-i l = (l.found ≡ None)
    × (same_cell (paths_in l.carts l.w l.cells) l.s ≡ first_collision eqb (take l.i (cells_at l.carts l.w l.cells l.s)) (drop l.i (cells_at l.carts l.w l.cells l.s)))

abbrev pub invariant-steps : goal.invariant-steps
invariant-steps l = (l.found ≡ None)
    × (first_same_cell (paths_in l.carts l.w l.cells) ≡ earliest (same_cell (paths_in l.carts l.w l.cells)) l.s (steps (paths_in l.carts l.w l.cells) - l.s))

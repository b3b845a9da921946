-- `limits::grid::Grid::moves` meets its contract. The loop's invariant: the moves counted and those of the paths from the i-th on are all.
-- Assumes nothing.
use Rattle.std.specs.Prelude.{◌*◌, drop}
use native.Mathlib.Omega.{arith}
use Rattle.limits.proofs.CountSteps.{path_moves_most, moves_next, all_moves_none}
use Rattle.limits.proofs.grid.Grid.moves.Goals as goal

pub overflow_add-n : goal.overflow_add-n
overflow_add-n c =
    let p = c.args.self.now.paths in
    omega (arith, c.moves_of-n.ensures, path_moves_most p.steps (drop (c.loop-i.i * p.steps) p.cells.now), c.args.self.now.few)

pub loop-i-preserved : goal.loop-i-preserved
loop-i-preserved c =
    let p = c.args.self.now.paths in
    record {
      few = omega (arith, c.moves_of-n.ensures, path_moves_most p.steps (drop (c.loop-i.i * p.steps) p.cells.now), c.args.self.now.few);
      all = omega (arith, c.moves_of-n.ensures, c.loop-i.invariant.all, moves_next p.carts c.loop-i.i p.steps p.cells.now c.loop-i-test.true);
    }

pub returns-clause-value : goal.returns-clause-value
returns-clause-value c =
    let p = c.args.self.now.paths in
    omega (arith, c.loop-i.invariant.all, all_moves_none p.carts c.loop-i.i p.steps (drop (c.loop-i.i * p.steps) p.cells.now) c.loop-i-test.false)

-- `limits::grid::Grid::of` meets its contract: paths that are too many, too long or not there do not keep the limit. Assumes nothing.
use native.Mathlib.Omega.{arith}
use Rattle.limits.proofs.Firsts.{events_off}
use Rattle.limits.proofs.grid.Grid.of.Goals as goal

pub returns-then-paths-gt64 : goal.returns-then-paths-gt64
returns-then-paths-gt64 c = let p = c.args.paths in events_off p.carts p.steps p.cells.now (λ h. omega (arith, c.then-paths-gt64.either))

pub returns-then-paths : goal.returns-then-paths
returns-then-paths c = let p = c.args.paths in events_off p.carts p.steps p.cells.now (λ h. omega arith)

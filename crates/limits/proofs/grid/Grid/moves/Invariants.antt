-- `limits::grid::Grid::moves` meets its contract. The loop's invariant: the moves counted and those of the paths from the i-th on are all.
-- Assumes nothing.
use Rattle.std.specs.Prelude.{◌≡◌, ◌+◌, ◌*◌, ◌-◌, ◌≤◌, drop}
use Rattle.collisions.specs.Meetings.{paths_in}
use Rattle.limits.specs.Counts.{total, moves}
use Rattle.limits.specs.OfPaths.{moves_of}
use Rattle.limits.proofs.grid.Grid.moves.Given as goal

abbrev pub invariant-loop-i : goal.invariant-loop-i
invariant-loop-i l =
    let p = l.self.paths in
    record { few : l.n ≤ l.i * 1024; all : l.n + total moves (paths_in (p.carts - l.i) p.steps (drop (l.i * p.steps) p.cells.now)) ≡ moves_of p }

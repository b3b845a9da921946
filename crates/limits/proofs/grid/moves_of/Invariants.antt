-- `limits::grid::moves_of` meets its contract. The loop's invariant: the moves counted and those from step `s` on, after cell `c`, are the path's.
-- Assumes nothing.
use Rattle.std.specs.Prelude.{◌≡◌, ◌+◌, ◌<◌, drop}
use Rattle.limits.specs.Counts.{moves, moves_after}
use Rattle.limits.proofs.grid.moves_of.Given as goal

abbrev pub invariant-loop-s : goal.invariant-loop-s
invariant-loop-s l = record { few : l.n < l.s; all : l.n + moves_after l.c (drop l.s l.path) ≡ moves l.path }

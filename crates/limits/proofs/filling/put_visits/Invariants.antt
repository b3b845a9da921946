-- `limits::filling::put_visits` meets its contract. The loop's invariant: the visits put and those from step `s` on, after cell `c`, are those put at
-- first and the path's. Assumes nothing.
use Rattle.std.specs.Prelude.{◌≡◌, ◌+◌, ◌++◌, map, length, drop}
use Rattle.network.specs.Events.{visits_of, visits_after}
use Rattle.limits.specs.Counts.{moves, moves_after, stop}
use Rattle.limits.specs.Row.{visits_put}
use Rattle.limits.proofs.filling.put_visits.Given as goal

abbrev pub invariant-loop-s : goal.invariant-loop-s
invariant-loop-s l = record {
  long : length l.row.numbers.now ≡ length l.fn.row.numbers.now;
  count : l.row.n + moves_after l.c (drop l.s l.path) ≡ l.fn.row.n + moves l.path + 1;
  visits : visits_put l.row ++ map (stop l.j) (visits_after l.c l.s (drop l.s l.path)) ≡ visits_put l.fn.row ++ map (stop l.j) (visits_of l.path);
}

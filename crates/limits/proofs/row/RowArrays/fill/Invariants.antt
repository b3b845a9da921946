-- `limits::row::RowArrays::fill` meets its contract. The loop's invariant: the visits put and those of the paths from the i-th on are all. Assumes nothing.
use Rattle.std.specs.Prelude.{◌≡◌, ◌+◌, ◌*◌, ◌-◌, ◌++◌, length, drop}
use Rattle.collisions.specs.Meetings.{paths_in, paths_of}
use Rattle.limits.specs.Counts.{total, moves, stops}
use Rattle.limits.specs.OfPaths.{moves_of}
use Rattle.limits.specs.Row.{visits_put}
use Rattle.limits.proofs.row.RowArrays.fill.Given as goal

abbrev pub invariant-loop-i : goal.invariant-loop-i
invariant-loop-i l =
    let p = l.kept.grid.paths in
    let rest = paths_in (p.carts - l.i) p.steps (drop (l.i * p.steps) p.cells.now) in
    record {
      long : length l.self.numbers.now ≡ length l.initial.self.numbers.now;
      count : l.self.n + (p.carts - l.i) + total moves rest ≡ p.carts + moves_of p;
      visits : visits_put l.self ++ stops (l.i + 1) rest ≡ stops 1 (paths_of p);
    }

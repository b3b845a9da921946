-- `limits::put_firsts` meets its contract. The loop's invariant: the numbers written and those of the paths from the i-th on are all. Assumes nothing.
use Rattle.std.specs.Prelude.{◌≡◌, ◌+◌, ◌*◌, ◌-◌, drop}
use lib.Seq.{sets}
use Rattle.collisions.specs.Meetings.{paths_in, paths_of}
use Rattle.limits.specs.Counts.{total, moves}
use Rattle.limits.specs.OfPaths.{moves_of}
use Rattle.limits.proofs.Firsts.{firsts_from}
use Rattle.limits.proofs.put_firsts.Given as goal

abbrev pub invariant-loop-i : goal.invariant-loop-i
invariant-loop-i l =
    let p = l.kept.grid.paths in
    let rest = paths_in (p.carts - l.i) p.steps (drop (l.i * p.steps) p.cells.now) in
    record {
      count : l.e + (p.carts - l.i) + 3 * total moves rest ≡ 1 + p.carts + 3 * moves_of p;
      written : sets l.firsts l.i (firsts_from l.e rest) ≡ sets l.initial.firsts 0 (firsts_from 1 (paths_of p));
    }

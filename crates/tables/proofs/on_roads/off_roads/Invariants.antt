-- `tables::on_roads::off_roads` meets its contract. The loop's invariant: the paths passed over keep to the roads.
-- Assumes nothing.
use Prim.Native.Nat.{◌+◌, ◌*◌, ◌-◌}
use mathlib.Core.Path.{◌≡◌}
use lib.ListN.{drop}
use Rattle.floor.specs.Paths.{off_road}
use Rattle.tables.specs.Arrays.{roads_in, paths_in}
use Rattle.tables.proofs.on_roads.off_roads.Given as goal

abbrev pub invariant-loop-i : goal.invariant-loop-i
invariant-loop-i l =
    let rs = roads_in l.roads.count l.roads.numbers.now in
    off_road rs 1 (paths_in l.carts l.steps l.cells) ≡ off_road rs (l.i + 1) (paths_in (l.carts - l.i) l.steps (drop (l.i * l.steps) l.cells))

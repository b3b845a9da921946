-- `tables::on_roads::keeps_to_roads` meets its contract. The loop's invariant: the path keeps to the roads if it does over the steps left.
-- Assumes nothing.
use mathlib.Core.Path.{◌≡◌}
use Rattle.std.specs.Slice.Iter.{windows_size, windows_rest}
use Rattle.floor.specs.Paths.{on_roads}
use Rattle.tables.specs.Arrays.{roads_in}
use Rattle.tables.proofs.on_roads.keeps_to_roads.Given as goal

abbrev pub invariant-loop-step : goal.invariant-loop-step
invariant-loop-step l =
    let rs = roads_in l.roads.count l.roads.numbers.now in
    record {
      pairs : windows_size l.step-iterator ≡ 2;
      left : on_roads rs l.path ≡ on_roads rs (windows_rest l.step-iterator);
    }

-- `bounds::travel::travel_of` meets its contract: the bounds of the steps left are yet to be put. Assumes nothing.
use Rattle.std.specs.Prelude.{◌≡◌}
use Rattle.std.specs.Slice.Iter.{windows_size, windows_rest}
use Rattle.bounds.specs.Writing.{roads_of, cart_of}
use Rattle.bounds.proofs.Moves.{OnPath}
use Rattle.bounds.proofs.travel.travel_of.Given as goal

abbrev pub invariant-loop-step : goal.invariant-loop-step
invariant-loop-step l = record {
  pairs : windows_size l.step-iterator ≡ 2;
  path : OnPath (roads_of l.roads) (cart_of l.route.speeds) l.route.event l.route.path.now l.initial.out l.out l.event (windows_rest l.step-iterator);
}

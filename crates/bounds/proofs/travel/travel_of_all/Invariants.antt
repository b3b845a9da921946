-- `bounds::travel::travel_of_all` meets its contract: the bounds of the carts left are yet to be put. Assumes nothing.
use Rattle.bounds.specs.Writing.{roads_of}
use Rattle.bounds.proofs.Moves.{Travelling}
use Rattle.bounds.proofs.travel.travel_of_all.Given as goal

abbrev pub invariant-loop-i : goal.invariant-loop-i
invariant-loop-i l =
    Travelling (roads_of l.plan.roads) l.plan.speeds.now l.plan.paths.cells.now l.plan.paths.carts l.plan.paths.steps l.initial.out l.out l.i l.event

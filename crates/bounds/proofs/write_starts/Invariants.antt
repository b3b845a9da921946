-- `bounds::write_starts` meets its contract: the bounds of the carts left are yet to be put. Assumes nothing.
use Rattle.std.proofs.Common.{map, drop}
use Rattle.network.proofs.Putting.{Putting}
use Rattle.bounds.specs.Writing.{start_to}
use Rattle.bounds.proofs.write_starts.Given as goal

abbrev pub invariant-loop-first : goal.invariant-loop-first
invariant-loop-first l = Putting l.initial.out l.out (map start_to l.firsts) (map start_to (drop l.first-index l.firsts))

-- `bounds::write_finishes` meets its contract: the bounds of the carts left are yet to be put. Assumes nothing.
use Rattle.std.proofs.Common.{map, drop}
use Rattle.network.proofs.Putting.{Putting}
use Rattle.bounds.specs.Writing.{finish_before}
use Rattle.bounds.proofs.write_finishes.Given as goal

abbrev pub invariant-loop-next : goal.invariant-loop-next
invariant-loop-next l = Putting l.initial.out l.out (map (finish_before l.finish) l.nexts) (map (finish_before l.finish) (drop l.next-index l.nexts))

-- `tables::roads::Roads::join` meets its contract. The loop's invariant: the road at hand is of the cells' remainder, and those passed over do not join
-- the cells. Assumes nothing.
use Rattle.tables.proofs.Indexes.{Way}
use Rattle.tables.proofs.roads.Roads.join.Given as goal

abbrev pub invariant-loop-p : goal.invariant-loop-p
invariant-loop-p l = Way l.self.numbers.now l.self.count l.a l.b l.p

abbrev pub decreases-loop-p : goal.decreases-loop-p
decreases-loop-p l = l.p

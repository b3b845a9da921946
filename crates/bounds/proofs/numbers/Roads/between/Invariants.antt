-- `bounds::numbers::Roads::between` meets its contract: the first road that joins the cells is among those left, or else it was met last. Assumes nothing.
use Rattle.bounds.proofs.Links.{Way}
use Rattle.bounds.proofs.numbers.Roads.between.Given as goal

abbrev pub invariant-loop-left : goal.invariant-loop-left
invariant-loop-left l = Way l.self.count l.self.edges.now l.a l.b l.linked l.left l.found

abbrev pub decreases-loop-left : goal.decreases-loop-left
decreases-loop-left l = l.left

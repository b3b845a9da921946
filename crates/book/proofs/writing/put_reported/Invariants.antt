-- `book::writing::put_reported` meets its contract: one report after the other is put, if it is of the cart. Assumes nothing.
use Rattle.book.proofs.Reported.{Reporting}
use Rattle.book.proofs.writing.put_reported.Given as goal

abbrev pub invariant-loop-i : goal.invariant-loop-i
invariant-loop-i l = Reporting l.reports.log.carts.now l.reports.log.times.now l.points.cart l.points.first l.points.next l.initial.out l.out l.event l.i

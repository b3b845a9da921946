-- `book::writing::put_all` meets its contract: the bounds of one cart after the other are put. Assumes nothing.
use Rattle.book.specs.Log.{log_of}
use Rattle.book.proofs.Along.{Walking}
use Rattle.book.proofs.writing.put_all.Given as goal

abbrev pub invariant-loop-i : goal.invariant-loop-i
invariant-loop-i l = Walking l.marker.firsts l.marker.carts l.reports.clock (log_of l.reports.log) l.initial.out l.out l.n l.i

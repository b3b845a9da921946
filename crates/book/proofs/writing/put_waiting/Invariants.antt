-- `book::writing::put_waiting` meets its contract: one bound after the other is put. Assumes nothing.
use Rattle.std.specs.Prelude.{◌-◌}
use Rattle.network.proofs.Putting.{Putting}
use Rattle.book.specs.Writing.{waiting_from}
use Rattle.book.proofs.writing.put_waiting.Given as goal

abbrev pub invariant-loop-event : goal.invariant-loop-event
invariant-loop-event l = Putting l.initial.out l.out (waiting_from l.clock l.first (l.next - l.first)) (waiting_from l.clock l.event (l.next - l.event))

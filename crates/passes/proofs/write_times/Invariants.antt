-- `passes::write_times` meets its contract: the times are written one behind the other.
-- Assumes nothing.
use Rattle.passes.proofs.Timing.{Timed}
use Rattle.passes.proofs.write_times.Given as goal

abbrev pub invariant-loop-i : goal.invariant-loop-i
invariant-loop-i l = Timed l.sums l.initial.times l.i l.times

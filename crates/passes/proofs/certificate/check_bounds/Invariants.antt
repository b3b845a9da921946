-- `passes::certificate::check_bounds` meets its contract: the bounds before the one at hand are allowed.
-- Assumes nothing.
use Rattle.passes.proofs.BoundChecks.{Checking}
use Rattle.passes.proofs.certificate.check_bounds.Given as goal

abbrev pub invariant-loop-i : goal.invariant-loop-i
invariant-loop-i l = Checking l.values.net.now.bounds l.values.net.now.ends.now l.values.net.now.ranges.now l.values.all.now l.initial.marks l.i l.marks

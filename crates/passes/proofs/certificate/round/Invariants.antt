-- `passes::certificate::round` meets its contract: the values before the one at hand are rounded.
-- Assumes nothing.
use Rattle.passes.proofs.Checks.{Rounding}
use Rattle.passes.proofs.certificate.round.Given as goal

abbrev pub invariant-loop-i : goal.invariant-loop-i
invariant-loop-i l = Rounding l.initial.values l.values l.most l.i

-- `passes::sweeping::first_sweep` meets its contract: each bound in its turn keeps what sweeps keep.
-- Assumes nothing.
use Rattle.passes.specs.Networks.{Kept}
use Rattle.passes.proofs.sweeping.first_sweep.Given as goal

abbrev pub invariant-loop-i : goal.invariant-loop-i
invariant-loop-i l = Kept l.first.net.now l.values l.parents

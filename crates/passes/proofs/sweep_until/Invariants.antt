-- `passes::sweep_until` meets its contract: sweeps leave the network as it is.
-- Assumes nothing.
use mathlib.Core.Path.{◌≡◌}
use Rattle.passes.proofs.sweep_until.Given as goal

abbrev pub invariant-loop-k : goal.invariant-loop-k
invariant-loop-k l = l.sweeping.net.now ≡ l.initial.sweeping.net.now

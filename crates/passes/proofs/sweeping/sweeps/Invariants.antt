-- `passes::sweeping::sweeps` meets its contract: each sweep leaves the network as it is, and an event of it.
-- Assumes nothing.
use Prim.Native.Nat.{◌<◌}
use mathlib.Core.Path.{◌≡◌}
use Rattle.passes.proofs.sweeping.sweeps.Given as goal

abbrev pub invariant-loop-k : goal.invariant-loop-k
invariant-loop-k l = (l.sweeping.net.now ≡ l.initial.sweeping.net.now) × (l.event < l.net.events)

-- `passes::sweeping::sweep` meets its contract: each bound in its turn keeps what sweeps keep.
-- Assumes nothing.
use Prim.Native.Nat.{◌<◌}
use Rattle.std.specs.Prelude.{IfSome}
use Rattle.passes.specs.Networks.{Kept}
use Rattle.passes.proofs.sweeping.sweep.Given as goal

abbrev pub invariant-loop-i : goal.invariant-loop-i
invariant-loop-i l = Kept l.first.net.now l.values l.parents × IfSome l.last (λ i. i < l.first.count)

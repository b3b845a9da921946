-- `passes::looping::cycle_gains` meets its contract: each turn goes one step round, and back at the first event the cost decides.
-- Assumes nothing.
use Prim.Native.Nat.{◌<◌}
use mathlib.Core.Logic.{◌≢◌}
use Rattle.passes.proofs.Loops.{Round}
use Rattle.passes.proofs.looping.cycle_gains.Given as goal

abbrev pub invariant-loop-j : goal.invariant-loop-j
invariant-loop-j l =
    let net = l.start.parents.now.net.now in
    Round net.bounds net.ends.now net.ranges.now l.start.parents.now.codes.now l.start.v l._j l.x l.cost × (0 < l._j → l.x ≢ l.start.v)

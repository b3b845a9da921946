-- `passes::certificate::round` meets its contract: the values before the one at hand are rounded.
-- Assumes nothing.
use native.Mathlib.Omega.{arith}
use Rattle.passes.proofs.Checks.{all_rounded}
use Rattle.passes.proofs.certificate.round.Goals as goal

pub returns : goal.returns
returns c =
    all_rounded c.loop-i.invariant (omega (arith, c.loop-i.invariant.long)) (omega (arith, c.loop-i.invariant.long)) c.requires.in_bounds c.requires.in_range.0 c.requires.in_range.1

-- `passes::time_of` meets its contract: the greater of a sum and 0 is its time.
-- Assumes nothing.
use native.Mathlib.Omega.{arith}
use mir.Syntax.{w64}
use mir.ValLaws.{to_z-of_z}
use Rattle.passes.proofs.Timing.{time_read}
use Rattle.passes.proofs.time_of.Goals as goal

pub returns : goal.returns
returns c =
    let seen = to_z-of_z w64 c.args.sum c.ranges.sum in
    rw (to_z-of_z w64 c.max.result (record { sfits = omega (arith, c.max.type_inv) })) (time_read c.args.sum c.max.result (rw seen at c.max.ensures.value))

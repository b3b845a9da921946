-- `rfc4180::record_length` meets its contract: the first record's length seen from the start is the length seen from the byte before i, and i - 1.
-- Assumes nothing.
use Rattle.std.proofs.Common.{◌≡◌, ◌-◌, slice_index_or, arith}
use Rattle.rfc4180.proofs.Reading.{first_ends_before, first_goes_on_before, first_all}
use Rattle.rfc4180.proofs.record_length.Goals as goal
use Rattle.rfc4180.proofs.record_length.Goals.{Joined-else-rest-i-eq13, else-rest-i-eq13-via-then-rest-i-eq13+else-rest-i-eq10, else-rest-i-eq13-via-else-rest-i-eq13}

pub returns-then-rest-i-eq10 : goal.returns-then-rest-i-eq10
returns-then-rest-i-eq10 c =
    omega (arith, c.loop-i.invariant, first_ends_before c.args.rest.now c.loop-i.i c.loop-i.auto.i c.loop-i-test.true c.if-rest-i-eq13.true c.if-rest-i-eq10.true)

-- no CR LF stands here, whichever test said so
none_here : (c : Joined-else-rest-i-eq13) → slice_index_or c.args.rest.now (c.loop-i.i - 1) 0 ≡ 13 → slice_index_or c.args.rest.now c.loop-i.i 0 ≡ 10 → ⊥
none_here c r l =
    elim c.else-rest-i-eq13.branch [
      | else-rest-i-eq13-via-then-rest-i-eq13+else-rest-i-eq10 w ↦ w.if-rest-i-eq10.false l
      | else-rest-i-eq13-via-else-rest-i-eq13 w ↦ w.if-rest-i-eq13.false r
    ]

pub loop-i-preserved : goal.loop-i-preserved
loop-i-preserved c =
    omega (arith, c.loop-i.invariant, c.loop-i.auto.i, first_goes_on_before c.args.rest.now c.loop-i.i c.loop-i.auto.i c.loop-i-test.true (none_here (goal.at.loop-i-preserved c).Joined-else-rest-i-eq13))

pub returns : goal.returns
returns c = first_all c.args.rest.now c.loop-i.i c.loop-i.auto.i c.loop-i-test.false c.loop-i.auto.i-end c.loop-i.invariant

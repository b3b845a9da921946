-- `passes::certificate::check_bounds` meets its contract: the bounds before the one at hand are allowed.
-- Assumes nothing.
use native.Mathlib.Omega.{arith}
use Rattle.passes.proofs.BoundChecks.{more_marked, more_checked, all_allowed}
use Rattle.passes.proofs.certificate.check_bounds.Goals as goal

pub returns-then-not-check_bound-clause-marked : goal.returns-then-not-check_bound-clause-marked
returns-then-not-check_bound-clause-marked c =
    let net = c.args.values.net.now in
    more_marked net.bounds net.ends.now net.ranges.now c.args.values.all.now c.args.marks.now c.loop-i.invariant c.loop-i-test.true
    c.check_bound.new.marks c.check_bound.ensures.marked

pub loop-i-preserved : goal.loop-i-preserved
loop-i-preserved c =
    let net = c.args.values.net.now in
    let k = c.check_bound in
    more_checked net.bounds net.ends.now net.ranges.now c.args.values.all.now c.args.marks.now c.loop-i.invariant c.loop-i-test.true
    k.new.marks k.ensures.marked k.auto.marks (k.ensures.allowed c.if-not-check_bound.false)

pub returns-clause-allowed : goal.returns-clause-allowed
returns-clause-allowed c =
    let net = c.args.values.net.now in
    λ e. all_allowed net.bounds net.ends.now net.ranges.now c.args.values.all.now c.args.marks.now c.loop-i.invariant (omega arith)

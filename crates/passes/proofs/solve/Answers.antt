-- `passes::solve` meets its contract: where the arrays are no network, or a slice is short, nothing is written; else it finds.
-- Assumes nothing.
use native.Mathlib.Omega.{arith}
use mathlib.Core.Path.{refl, sym, ◌∙◌}
use Rattle.std.proofs.Common.{rules}
use Rattle.schedule.specs.Lent.{long_enough}
use Rattle.passes.specs.Solving.{network_fits, unfit}
use Rattle.passes.specs.Lending.{lent_of}
use Rattle.passes.proofs.Outcomes.{both, not_both, roomy, solved_left}
use Rattle.passes.proofs.solve.Goals as goal

pub returns-in_err-net-clause-solving : goal.returns-in_err-net-clause-solving
returns-in_err-net-clause-solving c = rw c.from_residual.ensures (unfit (rw c.in_err-net.ensures refl))

pub returns-then-not-is_long_enough-clause-solving : goal.returns-then-not-is_long_enough-clause-solving
returns-then-not-is_long_enough-clause-solving c =
    let g = c.args.given in
    unfit (not_both (network_fits g.bounds g.events g.ends.now g.ranges.now) (long_enough (lent_of c.args.lent.now)) (sym c.is_long_enough.ensures ∙ c.if-not-is_long_enough.true))

pub invariant_of-room : goal.invariant_of-room
invariant_of-room c =
    let r = roomy (lent_of c.args.lent.now) (sym c.is_long_enough.ensures ∙ c.if-not-is_long_enough.false) in
    record { times_long = omega (arith, r.times_long); bounds_long = omega (arith, r.bounds_long); directions_long = omega (arith, r.directions_long) }

pub returns-clause-solving : goal.returns-clause-solving
returns-clause-solving c =
    let g = c.args.given in
    let r = c.in_ok-net.ensures in
    let f = c.find in
    solved_left (both (network_fits g.bounds g.events g.ends.now g.ranges.now) (long_enough (lent_of c.args.lent.now)) r.fits (sym c.is_long_enough.ensures ∙ c.if-not-is_long_enough.false))
    (rw (r.own_is, r.events_are, r.bounds_are, r.ends_are, r.ranges_are) at f.ensures.solves) (search rules) (search rules) (search rules)

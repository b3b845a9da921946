-- `passes::looping::find_cycle` meets its contract: an event is returned where every check has passed.
-- Assumes nothing.
use Rattle.passes.proofs.Backward.{codes_fit, codes_below, back_event}
use Rattle.passes.proofs.Loops.{led_from, cycle_found}
use Rattle.passes.proofs.looping.find_cycle.Goals as goal

pub invariant_of-cycle_gains : goal.invariant_of-cycle_gains
invariant_of-cycle_gains c =
    record { there = back_event c.args.event.parents.now c.args.event.v c.in_ok-x.x c.args.event.there c.in_ok-x.ensures.at }

pub cycle_gains-requires : goal.cycle_gains-requires
cycle_gains-requires c =
    let p = c.args.event.parents.now in
    let net = p.net.now in
    led_from net.bounds net.ends.now net.ranges.now p.codes.now c.args.event.v c.in_ok-x.x (codes_below p c.args.event.v c.args.event.there) (codes_fit p) c.in_ok-x.ensures

pub returns-then-cycle_gains : goal.returns-then-cycle_gains
returns-then-cycle_gains c =
    let p = c.args.event.parents.now in
    let net = p.net.now in
    cycle_found net.bounds net.ends.now net.ranges.now p.codes.now c.args.event.v c.in_ok-x.x (codes_below p c.args.event.v c.args.event.there) (codes_fit p) c.in_ok-x.ensures
    (c.from_start.ensures c.if-from_start.true) (c.cycle_gains.ensures c.if-cycle_gains.true)

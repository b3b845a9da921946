-- `passes::passing::run` meets its contract: after k passes none of which agreed, it holds the sums and parents of k passes.
-- Assumes nothing.
use native.Mathlib.Omega.{arith}
use mathlib.Core.Path.{ap}
use lib.ListN.{length}
use Rattle.passes.specs.Marks.{finds_times}
use Rattle.passes.specs.Networks.{bounds_of}
use Rattle.passes.proofs.Running.{RaisedOn, first_round, in_range, parents_long, unchanged, changed, never, looped}
use Rattle.passes.proofs.passing.run.Goals as goal
use Rattle.passes.proofs.passing.run.Goals.{After-loop-k}

pub loop-k-init : goal.loop-k-init
loop-k-init c =
    first_round (bounds_of c.args.net.now) c.args.net.now.events c.args.old.now c.args.new.now c.args.parents.now c.requires.in_bounds
    c.requires.value.0 c.requires.value.1 c.requires.value.2

pub invariant_of-before-clause-in_reach : goal.invariant_of-before-clause-in_reach
invariant_of-before-clause-in_reach c =
    let net = c.args.net.now in
    in_range c.loop-k.invariant net.all_fit net.few_events

pub returns-in-None : goal.returns-in-None
returns-in-None c =
    let p = c.pass in
    finds_times c.loop-k.k
    (unchanged c.loop-k.invariant p.new.new p.new.parents p.ensures.sums p.ensures.adopted p.ensures.coded (omega (arith, c.requires.in_bounds))
    c.in-None.ensures.changed c.settle.new.old c.settle.ensures.copied)

pub loop-k-preserved : goal.loop-k-preserved
loop-k-preserved c =
    let p = c.pass in
    let e = c.in-Some.ensures.changed in
    changed c.loop-k.invariant p.new.new p.new.parents p.ensures.sums p.ensures.adopted p.ensures.coded (omega (arith, c.requires.in_bounds))
    c.in-Some.v (omega (arith, e.0, ap length c.loop-k.invariant.alike)) e.1 c.settle.new.old c.settle.ensures.copied

-- as many passes as events
raised : (c : After-loop-k) → RaisedOn (bounds_of c.args.net.now) c.args.net.now.events c.loop-k.parents c.loop-k.raised
raised c =
    let net = c.args.net.now in
    never c.loop-k.invariant net.some_event net.all_fit (omega (arith, c.requires.in_bounds))

pub invariant_of-back : goal.invariant_of-back
invariant_of-back c = record { there = (raised (goal.at.invariant_of-back c).After-loop-k).below }

pub back-requires : goal.back-requires
back-requires c = (raised (goal.at.back-requires c).After-loop-k).trapped

pub returns : goal.returns
returns c =
    let net = c.args.net.now in
    looped (bounds_of net) net.events c.loop-k.old c.loop-k.parents c.loop-k.raised c.back.result (parents_long c.loop-k.invariant)
    (raised (goal.at.returns c).After-loop-k) c.back.ensures

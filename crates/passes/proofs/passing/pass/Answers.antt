-- `passes::passing::pass` meets its contract: after i bounds their arcs are followed.
-- Assumes nothing.
use native.Mathlib.Omega.{arith}
use mathlib.Core.List.{flat_map}
use Rattle.walks.specs.Passes.{pass}
use Rattle.passes.specs.Networks.{bound_of}
use Rattle.passes.proofs.Networks.{bounds_long, place_there, bound_there}
use Rattle.passes.proofs.BothWays.{none_followed, bound_followed, all_followed}
use Rattle.passes.proofs.passing.pass.Goals as goal

pub loop-i-init : goal.loop-i-init
unfolding flat_map
loop-i-init c = none_followed c.args.new.now c.args.parents.now

pub loop-i-preserved : goal.loop-i-preserved
loop-i-preserved c =
    let net = c.args.old.net.now in
    let t = c.loop-i-test.true in
    bound_followed (bound_of net c.loop-i.i) (place_there net c.loop-i.i t) (bound_there net c.loop-i.i t) c.loop-i.invariant c.follow_bound.ensures

pub returns : goal.returns
unfolding pass
returns c =
    let f = all_followed (omega (arith, bounds_long c.args.old.net.now)) c.loop-i.invariant in
    record { sums = rw c.requires.0 at f.sums; adopted = rw c.requires.0 at f.adopted; coded = f.coded }

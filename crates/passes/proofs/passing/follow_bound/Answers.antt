-- `passes::passing::follow_bound` meets its contract: one arc is followed, or two.
-- Assumes nothing.
use Prim.Native.Nat.{suc}
use native.Mathlib.Omega.{arith}
use mathlib.Core.Path.{sym}
use mathlib.Core.List.{[], ◌∷◌}
use Rattle.schedule.specs.Timetable.{forward}
use Rattle.passes.specs.Marks.{ways_before, Followed}
use Rattle.passes.specs.Networks.{bounds_of, bound_of}
use Rattle.passes.specs.Arcs.{arc_of}
use Rattle.passes.proofs.BothWays.{forward_place, backward_place, one_followed, more_followed}
use Rattle.passes.proofs.passing.follow_bound.Goals as goal
use Rattle.passes.proofs.passing.follow_bound.Goals.{After-follow}

-- what following it forward leaves
onward : (c : After-follow)
    → let net = c.args.bound.net.now in
    Followed (bounds_of net) (forward (bound_of net c.args.bound.i) ∷ []) (ways_before (bounds_of net) c.args.bound.i)
    c.args.old.all.now c.args.new.now c.follow.new.new c.args.parents.now c.follow.new.parents
onward c =
    let bs = bounds_of c.args.bound.net.now in
    let o = c.forward-arc.ensures in
    let f = c.follow.ensures in
    rw (sym o.is)
    (one_followed (arc_of c.forward-arc.result) (ways_before bs c.args.bound.i) f.sums (f.adopted bs (ways_before bs c.args.bound.i) (rw o.of.code_is (forward_place bs c.args.bound.i)))
    (f.coded bs o.of.coded))

pub returns-in-Some : goal.returns-in-Some
returns-in-Some c =
    let bs = bounds_of c.args.bound.net.now in
    let place = suc (ways_before bs c.args.bound.i) in
    let (both, o) = c.in-Some.ensures in
    let f = c.follow-in-Some.ensures in
    rw both
    (more_followed (onward (goal.at.returns-in-Some c).After-follow) (omega arith)
    (one_followed (arc_of c.in-Some.back) place f.sums (f.adopted bs place (rw o.code_is (backward_place bs c.args.bound.i))) (f.coded bs o.coded)))

pub returns-in_default : goal.returns-in_default
returns-in_default c = rw c.in_default.ensures (onward (goal.at.returns-in_default c).After-follow)

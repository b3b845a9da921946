-- `passes::looping::cycle_gains` meets its contract: each turn goes one step round, and back at the first event the cost decides.
-- Assumes nothing.
use Prim.Native.Nat.{◌+◌, ◌*◌, ◌<◌}
use native.Mathlib.Omega.{arith}
use mathlib.Core.Path.{◌≡◌, sym, subst}
use lib.ListN.{length}
use mir.Syntax.{w64}
use mir.Val.{to_z, of_z}
use mir.ValLaws.{to_z-of_z}
use Rattle.laws.proofs.Signed.{Within, mag_within}
use Rattle.passes.specs.Marks.{Led}
use Rattle.passes.proofs.Backward.{arcs, ps, parent_of, led_told, told_some, codes_fit, codes_below, events_below}
use Rattle.passes.proofs.Loops.{Round, no_step, round_below, round_more, round_gains}
use Rattle.passes.proofs.looping.cycle_gains.Goals as goal
use Rattle.passes.proofs.looping.cycle_gains.Goals.{After-start_of-x}

pub loop-j-init : goal.loop-j-init
loop-j-init c =
    let p = c.args.start.parents.now in
    let net = p.net.now in
    (no_step net.bounds net.ends.now net.ranges.now p.codes.now c.args.start.v, λ h. absurd (omega arith))

pub invariant_of-event : goal.invariant_of-event
invariant_of-event c =
    let p = c.args.start.parents.now in
    let net = p.net.now in
    record {
      there = events_below p c.loop-j.x
          (round_below net.bounds net.ends.now net.ranges.now p.codes.now c.args.start.v c.loop-j.invariant.0 (codes_fit p) (codes_below p c.args.start.v c.args.start.there));
    }

pub unwrap-c-requires : goal.unwrap-c-requires
unwrap-c-requires c =
    let p = c.args.start.parents.now in
    led_told p c.loop-j.x c.parent.result c.parent.ensures (subst (Led (arcs p) (ps p)) (sym c.loop-j.invariant.0.at) (c.requires c.loop-j._j))

-- what a turn leaves
left : (c : After-start_of-x)
    → let p = c.args.start.parents.now in
    Round p.net.now.bounds p.net.now.ends.now p.net.now.ranges.now p.codes.now c.args.start.v (c.loop-j._j + 1) c.start_of-x.result c.with_arc-cost.result
left c =
    let p = c.args.start.parents.now in
    let net = p.net.now in
    let e = told_some p c.loop-j.x c.unwrap-c.result c.parent.result c.parent.ensures c.unwrap-c.ensures in
    rw c.start_of-x.ensures
    (round_more net.bounds net.ends.now net.ranges.now p.codes.now c.args.start.v c.loop-j.invariant.0 net.events c.unwrap-c.result (parent_of p c.loop-j.x c.unwrap-c.result e.0)
    c.loop-j.invariant.1 c.with_arc-cost.result (c.with_arc-cost.ensures.lower, c.with_arc-cost.ensures.upper))

-- the cost reads as itself
seen : (c : After-start_of-x) → to_z w64 (of_z w64 c.with_arc-cost.result) ≡ c.with_arc-cost.result
seen c =
    let s : Within ((c.loop-j._j + 1) * 1_000_000_000_000) c.with_arc-cost.result = (left c).small in
    let few : c.loop-j._j + 1 < 4097 = omega arith in
    to_z-of_z w64 c.with_arc-cost.result (record { sfits = omega (arith, mag_within c.with_arc-cost.result s) })

pub returns-then-x-start : goal.returns-then-x-start
returns-then-x-start c =
    let p = c.args.start.parents.now in
    let net = p.net.now in
    let at = goal.at.returns-then-x-start c in
    let few : c.loop-j._j + 1 < length p.codes.now + 1 = omega (arith, p.long) in
    λ e. round_gains net.bounds net.ends.now net.ranges.now p.codes.now c.args.start.v (left at.After-start_of-x) (omega arith) (omega arith)
    c.if-x-start.true (rw (seen at.After-start_of-x) at e)

pub loop-j-preserved : goal.loop-j-preserved
loop-j-preserved c =
    let at = goal.at.loop-j-preserved c in
    rw (seen at.After-start_of-x) (left at.After-start_of-x, λ h. c.if-x-start.false)

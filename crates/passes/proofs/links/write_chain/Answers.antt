-- `passes::links::write_chain` meets its contract: each turn writes the item of one parent more, until the cycle is closed.
-- Assumes nothing.
use Prim.Native.Nat.{◌+◌, ◌-◌, ◌*◌, ◌%◌, ◌<◌}
use native.Mathlib.Omega.{arith}
use mathlib.Core.Path.{◌≡◌, refl, ◌∙◌}
use lib.ListN.{get_or, set, length-set}
use lib.ListN.{length as long}
use mir.Syntax.{w64}
use mir.Val.{to_z, of_z}
use mir.ValLaws.{to_z-of_z}
use Rattle.laws.proofs.Signed.{Within, mag_within}
use Rattle.passes.proofs.Backward.{told_some, code_told, codes_fit, events_below, few_codes, parent_long}
use Rattle.passes.proofs.Cycles.{Going, none_yet, x_below, x_parent, one_more, goes_on, found}
use Rattle.passes.proofs.links.write_chain.Goals as goal
use Rattle.passes.proofs.links.write_chain.Goals.{After-start_of-x, At-loop-x}

pub loop-x-init : goal.loop-x-init
loop-x-init c =
    let p = c.args.parents.now in
    let net = p.net.now in
    let l = c.args.room.now in
    let t = c.requires.cycle in record {
      opened = none_yet net.own net.bounds (long p.codes.now) net.ends.now net.ranges.now p.codes.now c.args.start l.chain_bounds.now l.chain_directions.now
          t.event t.below t.trapped t.starts;
      bounds_long = refl;
      directions_long = refl;
      times = refl;
      same = (refl, refl, refl);
    }

pub invariant_of-event : goal.invariant_of-event
invariant_of-event c =
    let p = c.args.parents.now in
    let net = p.net.now in
    let l = c.args.room.now in
    record {
      there = events_below p c.loop-x.x
          (x_below net.own net.bounds (long p.codes.now) net.ends.now net.ranges.now p.codes.now c.args.start l.chain_bounds.now l.chain_directions.now
          c.loop-x.invariant.opened.going (codes_fit p));
    }

pub unwrap-c-requires : goal.unwrap-c-requires
unwrap-c-requires c =
    let p = c.args.parents.now in
    let net = p.net.now in
    let l = c.args.room.now in
    let q = x_parent net.own net.bounds (long p.codes.now) net.ends.now net.ranges.now p.codes.now c.args.start l.chain_bounds.now l.chain_directions.now
    c.loop-x.invariant.opened.going (codes_fit p) p.coded in
    code_told p c.loop-x.x (get_or p.codes.now c.loop-x.x 0 - 1) c.parent.result c.parent.ensures q.code_is

-- there are fewer items than events
few : (c : At-loop-x) → c.loop-x.length < long c.args.parents.now.codes.now
few c =
    let o = c.loop-x.invariant.opened in
    omega (arith, o.before_end, o.going.trapped.cyclic.short)

-- what a turn leaves
left : (c : After-start_of-x)
    → let p = c.args.parents.now in
    let l = c.args.room.now in
    Going p.net.now.own p.net.now.bounds (long p.codes.now) p.net.now.ends.now p.net.now.ranges.now p.codes.now c.args.start l.chain_bounds.now l.chain_directions.now
    (c.loop-x.length + 1) c.start_of-x.result c.with_arc-cost.result
    c.put.new.s (set c.loop-x.room.chain_directions.now c.loop-x.length (1 - c.unwrap-c.result % 2))
left c =
    let p = c.args.parents.now in
    let net = p.net.now in
    let l = c.args.room.now in
    let e = told_some p c.loop-x.x c.unwrap-c.result c.parent.result c.parent.ensures c.unwrap-c.ensures in
    rw c.start_of-x.ensures
    (one_more net.own net.bounds (long p.codes.now) net.ends.now net.ranges.now p.codes.now c.args.start l.chain_bounds.now l.chain_directions.now
    c.loop-x.invariant.opened c.unwrap-c.result (parent_long p c.loop-x.x c.unwrap-c.result e.0) (few_codes p) l.bounds_long l.directions_long
    c.from.result c.with_arc-cost.result c.put.new.s (set c.loop-x.room.chain_directions.now c.loop-x.length (1 - c.unwrap-c.result % 2))
    (c.from.ensures ∙ c.number_of-number.ensures) c.put.ensures refl (c.with_arc-cost.ensures.lower, c.with_arc-cost.ensures.upper))

-- the cost reads as itself
seen : (c : After-start_of-x) → to_z w64 (of_z w64 c.with_arc-cost.result) ≡ c.with_arc-cost.result
seen c =
    let s : Within ((c.loop-x.length + 1) * 1_000_000_000_000) c.with_arc-cost.result = (left c).small in
    let o = c.loop-x.invariant.opened in
    to_z-of_z w64 c.with_arc-cost.result
    (record { sfits = omega (arith, mag_within c.with_arc-cost.result s, o.before_end, o.going.trapped.cyclic.short, few_codes c.args.parents.now) })

pub returns-then-x-start-clause-chain : goal.returns-then-x-start-clause-chain
returns-then-x-start-clause-chain c =
    let p = c.args.parents.now in
    let net = p.net.now in
    let l = c.args.room.now in
    let at = goal.at.returns-then-x-start-clause-chain c in
    rw (seen at.After-start_of-x)
    (found net.own net.bounds (long p.codes.now) net.ends.now net.ranges.now p.codes.now c.args.start l.chain_bounds.now l.chain_directions.now
    (left at.After-start_of-x) (omega arith) c.if-x-start.true)

pub returns-then-x-start-clause-small : goal.returns-then-x-start-clause-small
returns-then-x-start-clause-small c =
    let at = goal.at.returns-then-x-start-clause-small c in
    let s : Within ((c.loop-x.length + 1) * 1_000_000_000_000) c.with_arc-cost.result = (left at.After-start_of-x).small in
    let h = few at.At-loop-x in
    let k = few_codes c.args.parents.now in
    rw (seen at.After-start_of-x) (record { above = omega (arith, s.above, h, k); under = omega (arith, s.under, h, k) })

pub loop-x-preserved : goal.loop-x-preserved
loop-x-preserved c =
    let p = c.args.parents.now in
    let net = p.net.now in
    let l = c.args.room.now in
    let at = goal.at.loop-x-preserved c in
    let i = c.loop-x.invariant in
    record {
      opened = rw (seen at.After-start_of-x)
          (goes_on net.own net.bounds (long p.codes.now) net.ends.now net.ranges.now p.codes.now c.args.start l.chain_bounds.now l.chain_directions.now
          (left at.After-start_of-x) c.if-x-start.false);
      bounds_long = c.put.auto.s ∙ i.bounds_long;
      directions_long = length-set c.loop-x.room.chain_directions.now c.loop-x.length (1 - c.unwrap-c.result % 2) ∙ i.directions_long;
      times = i.times;
      same = i.same;
    }

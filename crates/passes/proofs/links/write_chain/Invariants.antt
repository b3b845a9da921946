-- `passes::links::write_chain` meets its contract: each turn writes the item of one parent more, until the cycle is closed.
-- Assumes nothing.
use Prim.Native.Nat.{◌-◌}
use mathlib.Core.Path.{◌≡◌}
use lib.ListN.{length as long}
use Rattle.passes.specs.Lending.{SameRoom}
use Rattle.passes.proofs.Cycles.{Open}
use Rattle.passes.proofs.links.write_chain.Given as goal

abbrev pub invariant-loop-x : goal.invariant-loop-x
invariant-loop-x l =
    let net = l.parents.net.now in
    let codes = l.parents.codes.now in
    record {
      opened : Open net.own net.bounds (long codes) net.ends.now net.ranges.now codes l.start l.initial.room.chain_bounds.now l.initial.room.chain_directions.now
          l.length l.x l.cost l.room.chain_bounds.now l.room.chain_directions.now;
      bounds_long : long l.room.chain_bounds.now ≡ long l.initial.room.chain_bounds.now;
      directions_long : long l.room.chain_directions.now ≡ long l.initial.room.chain_directions.now;
      times : l.room.times.now ≡ l.initial.room.times.now;
      same : SameRoom l.initial.room l.room;
    }

abbrev pub decreases-loop-x : goal.decreases-loop-x
decreases-loop-x l = long l.parents.codes.now - l.length

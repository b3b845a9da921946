-- `passes::write_found` meets its contract: times are written, or a chain is.
-- Assumes nothing.
use Prim.Native.Nat.{ℕ}
use mathlib.Core.Path.{◌≡◌, subst}
use mathlib.Core.List.{flat_map}
use Rattle.std.specs.Prelude.{None}
use Rattle.walks.specs.Passes.{settled}
use Rattle.schedule.specs.Timetable.{ways}
use Rattle.passes.specs.Networks.{bounds_of}
use Rattle.passes.specs.Lending.{room_of}
use Rattle.passes.proofs.Outcomes.{found_times, found_cycle, timed_left, chain_left}
use Rattle.passes.proofs.write_found.Goals as goal

pub invariant_of-write_chain : goal.invariant_of-write_chain
invariant_of-write_chain c =
    let net = c.args.left.net.now in
    let f = found_cycle (bounds_of net) net.events c.args.left.sums.now c.args.left.parents.now c.args.found c.requires c.in-Looped.at c.in-Looped.is in
    record { long = f.0; coded = f.1 }

pub returns-in-Settled-clause-solves : goal.returns-in-Settled-clause-solves
returns-in-Settled-clause-solves c =
    let net = c.args.left.net.now in
    timed_left net.own net.events (bounds_of net) (room_of c.args.room.now) c.in-Settled.passes c.args.left.sums.now c.write_times.new.times
    (found_times (bounds_of net) net.events c.args.left.sums.now c.args.left.parents.now c.args.found c.requires c.in-Settled.passes c.in-Settled.is)
    c.write_times.ensures

pub returns-in-Looped-clause-solves : goal.returns-in-Looped-clause-solves
returns-in-Looped-clause-solves c =
    let net = c.args.left.net.now in
    let bs = bounds_of net in
    let f = found_cycle bs net.events c.args.left.sums.now c.args.left.parents.now c.args.found c.requires c.in-Looped.at c.in-Looped.is in
    let w = c.write_chain in
    let new = w.new.room in
    rw w.ensures.times
    (chain_left net.own net.events bs (room_of c.args.room.now) w.result new.chain_bounds.now new.chain_directions.now
    (subst (λ (n : ℕ). settled (flat_map ways bs) n ≡ None) f.0 f.2.unsettled) w.ensures.chain)

-- `bounds::travel::travel_of_all` meets its contract: the bounds of the carts left are yet to be put. Assumes nothing.
use Rattle.std.proofs.Common.{arith, ◌≡◌, ◌+◌, ◌*◌, ◌-◌, ℕ, List, ap, subst, take, drop}
use Rattle.floor.specs.declared.Cart.{Cart}
use Rattle.network.specs.BoundArrays.{Puts}
use Rattle.bounds.specs.Writing.{roads_of, path_bounds}
use Rattle.bounds.proofs.Moves.{first_travelling, route_few, next_travelling, last_travelling}
use Rattle.bounds.proofs.travel.travel_of_all.Goals as goal
use Rattle.bounds.proofs.travel.travel_of_all.Goals.{In-loop-i}

-- the path at hand
abbrev path : In-loop-i → List ℕ
path c = let p = c.args.plan.now.paths in let at = c.loop-i.i * p.steps in take (at + p.steps - at) (drop at p.cells.now)

path_is : (c : In-loop-i) → let p = c.args.plan.now.paths in path c ≡ take p.steps (drop (c.loop-i.i * p.steps) p.cells.now)
path_is c =
    let p = c.args.plan.now.paths in
    let at = c.loop-i.i * p.steps in
    let same : at + p.steps - at ≡ p.steps = omega arith in
    ap (λ (n : ℕ). take n (drop at p.cells.now)) same

pub loop-i-init : goal.loop-i-init
loop-i-init c =
    let p = c.args.plan.now in first_travelling (roads_of p.roads) p.speeds.now p.paths.cells.now p.paths.carts p.paths.steps c.args.out.now c.requires.room

pub travel_of-event-requires : goal.travel_of-event-requires
travel_of-event-requires c =
    let p = c.args.plan.now in
    route_few (roads_of p.roads) p.speeds.now p.paths.cells.now p.paths.carts p.paths.steps c.loop-i.invariant c.loop-i-test.true _ (path_is (goal.at.travel_of-event-requires c).In-loop-i)

pub loop-i-preserved : goal.loop-i-preserved
loop-i-preserved c =
    let p = c.args.plan.now in
    let d = (goal.at.loop-i-preserved c).In-loop-i in
    let r = c.travel_of-event in
    next_travelling (roads_of p.roads) p.speeds.now p.paths.cells.now p.paths.carts p.paths.steps c.loop-i.invariant c.loop-i-test.true (path d) (path_is d)
    c.requires.sizes.3 c.requires.sizes.1 r.new.out r.result r.ensures.event
    (subst (λ (k : Cart). Puts c.loop-i.out r.new.out (path_bounds (roads_of p.roads) k c.loop-i.event (path d))) c.speeds_at.ensures r.ensures.left)

pub returns : goal.returns
returns c =
    let p = c.args.plan.now in
    last_travelling (roads_of p.roads) p.speeds.now p.paths.cells.now p.paths.carts p.paths.steps c.loop-i.invariant c.loop-i-test.false

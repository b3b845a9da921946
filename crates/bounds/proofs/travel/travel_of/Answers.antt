-- `bounds::travel::travel_of` meets its contract: the bounds of the steps left are yet to be put. Assumes nothing.
use Rattle.std.proofs.Common.{rules, arith, ◌≡◌, ◌∙◌, sym, subst, ap, Option, unwrap_or}
use Rattle.std.specs.Slice.Iter.{windows_rest}
use Rattle.floor.specs.declared.Road.{Road}
use Rattle.bounds.specs.Writing.{roads_of, cart_of, road_found}
use Rattle.bounds.proofs.Moves.{Stepped, OnPath, path_begins, path_waits, path_few, path_moves, path_ends}
use Rattle.bounds.proofs.travel.travel_of.Goals as goal
use Rattle.bounds.proofs.travel.travel_of.Goals.{In-Some}

-- two cells next to each other
stepped : (c : In-Some) → Stepped (windows_rest c.loop-step.step-iterator) c.in-Some.step.now (windows_rest c.next.new.self)
stepped c = search rules

pub loop-step-init : goal.loop-step-init
loop-step-init c =
    let a = c.args in
    let p = a.route.path.now in
    let roads = roads_of a.roads.now in
    let cart = cart_of a.route.speeds in
    let whole : windows_rest c.into_iter-step-iterator.result ≡ p = search rules in
    record { pairs = search rules; path = subst (OnPath roads cart a.route.event p a.out.now a.out.now a.route.event) (sym whole) (path_begins roads cart a.route.event p a.out.now) }

pub put_parts-requires : goal.put_parts-requires
put_parts-requires c = omega (arith, path_few c.loop-step.invariant.path (stepped (goal.at.put_parts-requires c).In-Some) c.if-step.true c.requires)

pub loop-step-preserved-then-step : goal.loop-step-preserved-then-step
unfolding road_found
loop-step-preserved-then-step c =
    record {
      pairs = search rules;
      path = path_moves c.loop-step.invariant.path (stepped (goal.at.loop-step-preserved-then-step c).In-Some) c.if-step.true c.put_parts.new.out c.unwrap_or-road.result
          (c.unwrap_or-road.ensures ∙ ap (λ (o : Option Road). unwrap_or o (record { from = 0; to = 0; length = 0; margin = 0 })) c.between.ensures) c.put_parts.ensures;
    }

pub loop-step-preserved : goal.loop-step-preserved
loop-step-preserved c = record { pairs = search rules; path = path_waits c.loop-step.invariant.path (stepped (goal.at.loop-step-preserved c).In-Some) c.if-step.false }

pub returns : goal.returns
returns c =
    let end = path_ends c.loop-step.invariant.path (search rules) in
    record { event = omega (arith, end.0); left = end.1 }

-- `bounds::write_bounds` meets its contract: whether the limits are kept is told by the first events, and the last of them is the finish's. Assumes nothing.
use Rattle.std.proofs.Common.{arith, ◌≡◌, ◌≤◌, ◌+◌, ◌∙◌, ap, ap₂, refl, ℕ, sym, subst, true, false, Bool, take, get_or, replicate, cond}
use Rattle.std.specs.Prelude.{Option, None, Some}
use Rattle.floor.specs.Plan.{Plan}
use Rattle.collisions.specs.Meetings.{paths_of}
use Rattle.network.specs.BoundArrays.{Puts}
use Rattle.network.proofs.Putting.{puts_none}
use Rattle.limits.specs.Limits.{of_paths}
use Rattle.limits.specs.Orders.{first_events, events_kept}
use Rattle.limits.proofs.Firsts.{fit_there}
use Rattle.bounds.specs.declared.Network.{Network}
use Rattle.bounds.specs.Network.{plan_in, plan_fitting, network_answer, network_bounds}
use Rattle.bounds.proofs.Whole.{sizes, finish_small, answered, firsts_held}
use Rattle.bounds.proofs.write_bounds.Goals as goal
use Rattle.bounds.proofs.write_bounds.Goals.{Else-not-first_events, Start}

-- what is kept decides
fitting : (z : Start) (t : Bool) → events_kept z.args.plan.now.paths.carts z.args.plan.now.paths.steps z.args.plan.now.paths.cells.now ≡ t
    → plan_fitting z.args.plan.now ≡ cond t (Some (plan_in z.args.plan.now)) None
unfolding plan_fitting
fitting z t e = ap {B = Option Plan} (λ (b : Bool). cond b (Some (plan_in z.args.plan.now)) None) e

pub returns-then-not-first_events : goal.returns-then-not-first_events
unfolding network_answer network_bounds
returns-then-not-first_events c =
    let p = c.args.plan.now.paths in
    let z = (goal.at.returns-then-not-first_events c).Start in
    let none = fitting z false (sym (fit_there p.carts p.steps p.cells.now) ∙ sym c.first_events.ensures.answer ∙ c.if-not-first_events.true) in
    record { answer = sym (ap network_answer none); left = puts_none c.args.out.now _ (ap network_bounds none) }

-- the limits of paths and events are kept
kept : (c : Else-not-first_events) → let p = c.args.plan.now.paths in events_kept p.carts p.steps p.cells.now ≡ true
kept c =
    let p = c.args.plan.now.paths in
    sym (fit_there p.carts p.steps p.cells.now) ∙ sym c.first_events.ensures.answer ∙ c.if-not-first_events.false

-- there are few carts
few : (c : Else-not-first_events) → c.args.plan.now.paths.carts ≤ 64
few c = (sizes c.args.plan.now (kept c)).0.0

-- and the first events stand in front
held : (c : Else-not-first_events) → let p = c.args.plan.now.paths in take (p.carts + 1) c.first_events.new.firsts ≡ first_events (of_paths (paths_of p))
held c = let p = c.args.plan.now.paths in firsts_held p.carts p.steps p.cells.now (replicate 65 0) c.first_events.new.firsts (kept c) c.first_events.ensures.left

pub write_all-n-requires : goal.write_all-n-requires
write_all-n-requires c = record {
  kept = kept (goal.at.write_all-n-requires c).Else-not-first_events;
  firsts_value = held (goal.at.write_all-n-requires c).Else-not-first_events;
}

pub bounds-firsts-carts : goal.bounds-firsts-carts
bounds-firsts-carts c = omega (arith, few (goal.at.bounds-firsts-carts c).Else-not-first_events)

-- the finish's number is small
small : (c : Else-not-first_events) → get_or c.first_events.new.firsts c.args.plan.now.paths.carts 0 ≤ 4096
small c = finish_small c.args.plan.now c.first_events.new.firsts (held c) (kept c)

pub overflow_add-result : goal.overflow_add-result
overflow_add-result c = omega (arith, small (goal.at.overflow_add-result c).Else-not-first_events, c.from.ensures)

pub returns : goal.returns
unfolding network_bounds
returns c =
    let e = (goal.at.returns c).Else-not-first_events in
    let some = fitting (goal.at.returns c).Start true (kept e) in
    record {
      answer = ap₂ {C = Option Network} (λ (f m : ℕ). Some (record { events = f + 1; bounds = m })) c.from.ensures refl
          ∙ answered c.args.plan.now c.first_events.new.firsts (held e) c.write_all-n.result c.write_all-n.ensures.value ∙ sym (ap network_answer some);
      left = subst (λ (o : Option Plan). Puts c.args.out.now c.write_all-n.new.out (network_bounds o)) (sym some) c.write_all-n.ensures.left;
    }

-- `bounds::write_all` meets its contract: four sorts of bounds, one behind the other, are the bounds of the plan. Assumes nothing.
use Rattle.std.proofs.Common.{rules, arith, ℕ, List, map, ◌-◌, ◌≡◌, ◌≤◌, ◌<◌, ◌+◌, ◌*◌, ◌∙◌, sym, ap, subst, length, take, drop, get_or, get_or-take}
use lib.Seq.{length-take-le, get_or-drop}
use lib.ListN.{length-drop}
use Rattle.collisions.specs.Meetings.{paths_of}
use Rattle.network.specs.Events.{routes_of}
use Rattle.network.specs.Bounds.{order_bounds, bounds}
use Rattle.bounds.specs.Network.{plan_in}
use Rattle.limits.specs.Limits.{of_paths}
use Rattle.limits.specs.OfPaths.{bounds_of, bounds_kept}
use Rattle.limits.specs.Counts.{total, moves}
use Rattle.network.specs.BoundArrays.{Puts}
use Rattle.bounds.specs.Writing.{finish_before}
use Rattle.bounds.proofs.Whole.{bounds_count, bounds_by_finish, sizes, firsts_there, firsts_positive, whole_put, orders_there}
use Rattle.bounds.proofs.write_all.Goals as goal
use Rattle.bounds.proofs.write_all.Goals.{Start}

-- its moves
abbrev moved : Start → ℕ
moved z = total moves (paths_of z.args.plan.now.paths)

-- its order bounds
abbrev ordered : Start → ℕ
ordered z = length (order_bounds (routes_of (of_paths (paths_of z.args.plan.now.paths))))

-- its sizes
sized : (z : Start) → let p = z.args.plan.now.paths in
    ((p.carts ≤ 64) × (1 ≤ p.steps) × (p.steps ≤ 1024) × (p.carts * p.steps ≤ length p.cells.now)) × (2 + p.carts + 3 * moved z ≤ 4096) × (ordered z ≤ 90112)
sized z = sizes z.args.plan.now z.requires.kept

-- the first events are there
there : (z : Start) → z.args.plan.now.paths.carts < length z.args.firsts.now
there z = firsts_there z.args.plan.now z.args.firsts.now z.requires.firsts_value

-- the order bounds that are put are all
orders : (z : Start) → bounds_kept z.args.plan.now.paths ≡ bounds_of z.args.plan.now.paths
orders z = let p = z.args.plan.now.paths in orders_there p.carts p.steps p.cells.now z.requires.kept

pub slice_bounds-write_starts-end : goal.slice_bounds-write_starts-end
slice_bounds-write_starts-end c = let t = there (goal.at.slice_bounds-write_starts-end c).Start in sym (length-take-le c.args.plan.now.paths.carts c.args.firsts.now (omega (arith, t)))

pub slice_bounds-write_finishes-end : goal.slice_bounds-write_finishes-end
slice_bounds-write_finishes-end c = let t = there (goal.at.slice_bounds-write_finishes-end c).Start in search rules

pub travel_of_all-requires : goal.travel_of_all-requires
travel_of_all-requires c = let s = sized (goal.at.travel_of_all-requires c).Start in record { sizes = s.0; room = omega (arith, s.1) }

pub bounds-firsts-carts : goal.bounds-firsts-carts
bounds-firsts-carts c = there (goal.at.bounds-firsts-carts c).Start

pub write_finishes-requires : goal.write_finishes-requires
write_finishes-requires c =
    let z = (goal.at.write_finishes-requires c).Start in
    let t = there z in
    let n : ℕ = c.args.plan.now.paths.carts in
    let size : n + 1 - 1 ≡ n = omega arith in
    let rest : n ≤ length (drop 1 c.args.firsts.now) = omega (arith, t, length-drop 1 c.args.firsts.now) in
    let same : take (n + 1 - 1) (drop 1 c.args.firsts.now) ≡ take n (drop 1 c.args.firsts.now) = ap (λ (m : ℕ). take m (drop 1 c.args.firsts.now)) size in
    λ i h.
    let l : i < n = omega (arith, h, ap length same, length-take-le n (drop 1 c.args.firsts.now) rest) in
    let place : 1 + i ≡ i + 1 = omega arith in
    subst (λ (m : ℕ). 0 < m) (sym (ap (λ (x : List ℕ). get_or x i 0) same ∙ get_or-take n (drop 1 c.args.firsts.now) i 0 l ∙ get_or-drop 1 c.args.firsts.now i 0 ∙ ap (λ (m : ℕ). get_or c.args.firsts.now m 0) place))
    (firsts_positive c.args.plan.now c.args.firsts.now c.requires.firsts_value i l)

-- counted by the finish
counted : (z : Start) → (m : ℕ) → m ≡ length (bounds_kept z.args.plan.now.paths)
    → (0 < get_or z.args.firsts.now z.args.plan.now.paths.carts 0) × (get_or z.args.firsts.now z.args.plan.now.paths.carts 0 - 1 + m + z.args.plan.now.paths.carts ≡ length (bounds (plan_in z.args.plan.now)))
counted z m e = bounds_by_finish z.args.plan.now z.args.firsts.now z.requires.firsts_value z.requires.kept m (e ∙ ap length (orders z))

pub overflow_sub-finish : goal.overflow_sub-finish
overflow_sub-finish c = omega (arith, (counted (goal.at.overflow_sub-finish c).Start _ c.order_bounds-orders.ensures.answer).0)

pub overflow_add-result : goal.overflow_add-result
overflow_add-result c =
    let z = (goal.at.overflow_add-result c).Start in
    let s = sized z in
    omega (arith, c.from.ensures, (counted z _ c.order_bounds-orders.ensures.answer).1, bounds_count c.args.plan.now, s.0.0, s.1, s.2)

pub overflow_add-result-2 : goal.overflow_add-result-2
overflow_add-result-2 c =
    let z = (goal.at.overflow_add-result-2 c).Start in
    let s = sized z in
    omega (arith, c.from.ensures, (counted z _ c.order_bounds-orders.ensures.answer).1, bounds_count c.args.plan.now, s.0.0, s.1, s.2)

pub returns : goal.returns
returns c =
    let z = (goal.at.returns c).Start in
    let n : ℕ = c.args.plan.now.paths.carts in
    let size : n + 1 - 1 ≡ n = omega arith in
    record {
      value = omega (arith, c.from.ensures, (counted z _ c.order_bounds-orders.ensures.answer).1);
      left = whole_put c.args.plan.now c.args.firsts.now c.requires.firsts_value c.args.out.now c.write_starts.new.out c.travel_of_all.new.out c.order_bounds-orders.new.out c.write_finishes.new.out
          c.write_starts.ensures c.travel_of_all.ensures (subst (Puts c.travel_of_all.new.out c.order_bounds-orders.new.out) (orders z) c.order_bounds-orders.ensures.left)
          (subst (λ (m : ℕ). Puts c.order_bounds-orders.new.out c.write_finishes.new.out (map (finish_before (get_or c.args.firsts.now n 0)) (take m (drop 1 c.args.firsts.now)))) size c.write_finishes.ensures);
    }

-- `limits::orders::put_later` meets its contract. The loop's invariant: the bounds to the last `left` visits are yet to be put, and the visit at hand is
-- of the remainder looked for. Assumes nothing.
use Rattle.std.specs.Prelude.{ℕ, ◌≡◌, ◌+◌, ◌*◌, ◌-◌, ◌%◌, ◌≤◌, ◌<◌, List, [], ◌∷◌, length, get_or}
use native.Mathlib.Omega.{arith}
use mathlib.Core.Path.{ap, sym, ◌∙◌, subst}
use Rattle.network.specs.Bounds.{Bound, no_earlier}
use Rattle.network.specs.declared.BoundArrays.{BoundArrays}
use Rattle.network.specs.BoundArrays.{Puts}
use Rattle.network.proofs.Putting.{Putting, putting_first, putting_more, putting_none, putting_all}
use Rattle.limits.specs.declared.row.Stop.{Stop}
use Rattle.limits.specs.Counts.{counts, stop_at, stops_in}
use Rattle.limits.specs.Row.{Entry, later_bounds, bounds_from, entry_at, placed, numbered, entry_in, row_in}
use Rattle.limits.proofs.Links.{walk_begins}
use Rattle.limits.proofs.Skips.{skip_fewer, skip_counts, skip_passes}
use Rattle.limits.proofs.OrderSteps.{bound_put}
use Rattle.limits.proofs.orders.put_later.Goals as goal
use Rattle.limits.proofs.orders.put_later.Goals.{After-at-x, After-at-y, After-next_after-left, then-is_counted, else-is_counted}

-- the visit is the v-th of the row
cart_low : (c : After-at-x) → c.at-x.result.cart ≤ c.args.v + 1
unfolding stop_at
cart_low c = rw (ap (λ (s : Stop). s.cart) c.at-x.ensures) (c.args.links.now.low c.args.v c.requires.v_bound)

pub entry_event-from-requires : goal.entry_event-from-requires
entry_event-from-requires c = (omega (arith, c.requires.v_bound, c.args.links.now.row.room), cart_low (goal.at.entry_event-from-requires c).After-at-x)

pub loop-left-init : goal.loop-left-init
unfolding entry_in
loop-left-init c =
    let a = c.args.links.now in
    let r = a.row in
    let v : Entry = numbered c.args.v c.at-x.result in
    let (l, q, w) = walk_begins r.numbers.now r.times.now r.places.now a.heads.now a.nexts.now r.n a.grouped.linked v c.from-left.result c.from-left.ensures in
    let same = w ∙ ap (λ (s : Stop). later_bounds (numbered c.args.v s) 0 (row_in r.numbers.now r.times.now r.places.now r.n 0)) c.at-x.ensures in
    record { within = l; here = q; putting = putting_first c.args.out.now _ _ same; count = omega (arith, ap (λ (bs : List Bound). length bs) same) }

-- so is each that is gone through
next_low : (c : After-at-y) → c.at-y.result.cart ≤ c.args.links.now.row.n - c.loop-left.left + 1
unfolding stop_at
next_low c =
    rw (ap (λ (s : Stop). s.cart) c.at-y.ensures)
    (c.args.links.now.low (c.args.links.now.row.n - c.loop-left.left) (omega (arith, c.loop-left-test.true, c.loop-left.invariant.within)))

pub entry_event-to-requires : goal.entry_event-to-requires
entry_event-to-requires c =
    (omega (arith, c.loop-left-test.true, c.args.links.now.row.room), next_low (goal.at.entry_event-to-requires c).After-at-y)

pub overflow_sub-to : goal.overflow_sub-to
overflow_sub-to c = omega (arith, c.entry_event-to.ensures, next_low (goal.at.overflow_sub-to c).After-at-y)

-- fewer visits are left, and the next is of the same remainder
goes : (c : After-next_after-left)
    → let r = c.args.links.now.row in
    let next = c.next_after-left.result in
    (next < c.loop-left.left) × (0 < next → get_or r.places.now (r.n - next) 0 % 1024 ≡ c.at-x.result.cell % 1024)
goes c =
    let a = c.args.links.now in
    let r = a.row in
    let l = c.loop-left in
    let t : 0 < l.left = c.loop-left-test.true in
    skip_fewer r.numbers.now r.times.now r.places.now a.heads.now a.nexts.now a.skips.now r.n a.grouped (numbered c.args.v c.at-x.result) l.left t l.invariant.within (l.invariant.here t)
    c.if-is_counted.last c.next_after-left.result c.next_after-left.ensures

pub loop-left-smaller : goal.loop-left-smaller
loop-left-smaller c = (goes (goal.at.loop-left-smaller c).After-next_after-left).0

pub loop-left-preserved : goal.loop-left-preserved
unfolding entry_at stop_at
loop-left-preserved c =
    let p = (goal.at.loop-left-preserved c).After-next_after-left in
    let a = c.args.links.now in
    let r = a.row in
    let l = c.loop-left in
    let v : Entry = numbered c.args.v c.at-x.result in
    let next : ℕ = c.next_after-left.result in
    let u : ℕ = r.n - l.left in
    let t : 0 < l.left = c.loop-left-test.true in
    let last : ℕ = c.if-is_counted.last in
    let rest : List Bound = later_bounds v last (row_in r.numbers.now r.times.now r.places.now next (r.n - next)) in
    let e : counts v.visit l.last (stop_at r.numbers.now r.times.now r.places.now u) ≡ c.is_counted.result = ap (counts v.visit l.last) (sym c.at-y.ensures) ∙ sym c.is_counted.ensures in
    let y : c.at-y.result.cart ≡ get_or r.numbers.now u 0 = ap (λ (s : Stop). s.cart) c.at-y.ensures in
    let from : c.entry_event-from.result + 1 ≡ v.event + 1 = ap (λ (x : ℕ). x + 1) c.entry_event-from.ensures in
    let to : c.entry_event-to.result - 1 ≡ 3 * u + 3 - 2 * get_or r.numbers.now u 0 - 1 = ap (λ (x : ℕ). x - 1) (c.entry_event-to.ensures ∙ ap (λ (x : ℕ). 3 * u + 3 - 2 * x) y) in
    let (less, same) = goes p in
    elim c.if-is_counted.branch [
      | then-is_counted w ↦
          let more = skip_counts r.numbers.now r.times.now r.places.now a.heads.now a.nexts.now a.skips.now r.n a.grouped v l.left t l.invariant.within (l.invariant.here t) last next p.next_after-left.ensures l.last (e ∙ w.if-is_counted.true) (w.last-is ∙ y) in
          record {
            within = omega (arith, less, l.invariant.within);
            here = same;
            putting = putting_more l.invariant.putting c.if-is_counted.out (no_earlier (v.event + 1) (3 * u + 3 - 2 * get_or r.numbers.now u 0 - 1) ∷ []) rest more
                (subst (Puts l.out c.if-is_counted.out) (bound_put _ _ _ _ from to) (subst (λ (o : BoundArrays). Puts l.out o _) (sym w.out-is) w.put.ensures));
            count = omega (arith, l.invariant.count, w.n-is, ap (λ (bs : List Bound). length bs) more);
          }
      | else-is_counted w ↦
          let none = skip_passes r.numbers.now r.times.now r.places.now a.heads.now a.nexts.now a.skips.now r.n a.grouped v l.left t l.invariant.within (l.invariant.here t) last next p.next_after-left.ensures l.last (e ∙ w.if-is_counted.false) w.last-is in
          record {
            within = omega (arith, less, l.invariant.within);
            here = same;
            putting = subst (λ (o : BoundArrays). Putting c.args.out.now o (bounds_from r.numbers.now r.times.now r.places.now r.n c.args.v) rest) (sym w.out-is)
                (putting_none l.invariant.putting rest none);
            count = omega (arith, l.invariant.count, w.n-is, ap (λ (bs : List Bound). length bs) none);
          }
    ]

-- none is left
none : (v : Entry) (last n m : ℕ) (ns ts cs : List ℕ) → m ≡ 0 → later_bounds v last (row_in ns ts cs m (n - m)) ≡ []
unfolding later_bounds row_in placed stops_in
none v last n m ns ts cs e = ap (λ (x : ℕ). later_bounds v last (row_in ns ts cs x (n - x))) e

pub returns-clause-value : goal.returns-clause-value
returns-clause-value c =
    let r = c.args.links.now.row in
    let l = c.loop-left in
    omega (
      arith,
      l.invariant.count,
      ap (λ (bs : List Bound). length bs) (none (numbered c.args.v c.at-x.result) l.last r.n l.left r.numbers.now r.times.now r.places.now (omega (arith, c.loop-left-test.false))),
    )

pub returns-clause-put : goal.returns-clause-put
returns-clause-put c =
    let r = c.args.links.now.row in
    let l = c.loop-left in
    putting_all l.invariant.putting (none (numbered c.args.v c.at-x.result) l.last r.n l.left r.numbers.now r.times.now r.places.now (omega (arith, c.loop-left-test.false)))

-- `limits::orders::put_orders` meets its contract. The loop's invariant: the bounds from visit `v` on are yet to be put. Assumes nothing.
use Rattle.std.specs.Prelude.{ℕ, ◌≡◌, ◌+◌, ◌-◌, ◌<◌, List, length}
use native.Mathlib.Omega.{arith}
use mathlib.Core.Path.{ap, sym, subst}
use Rattle.network.specs.Bounds.{Bound}
use Rattle.network.specs.declared.BoundArrays.{BoundArrays}
use Rattle.network.specs.BoundArrays.{Puts}
use Rattle.network.proofs.Putting.{Putting, putting_first, putting_more, putting_none, putting_all}
use Rattle.limits.specs.Row.{Entry, row_from, row_bounds, row_in, bounds_from}
use Rattle.limits.proofs.CountSteps.{counted_more, row_more, row_same, row_none}
use Rattle.limits.proofs.orders.put_orders.Goals as goal
use Rattle.limits.proofs.orders.put_orders.Goals.{then-links-v, else-links-v}

pub loop-v-init : goal.loop-v-init
unfolding row_bounds
loop-v-init c =
    let r = c.args.links.now.row in
    let all : List Entry = row_in r.numbers.now r.times.now r.places.now r.n 0 in
    let whole : r.n - 0 ≡ r.n = omega arith in
    let same : row_from all (row_in r.numbers.now r.times.now r.places.now (r.n - 0) 0) ≡ row_bounds all =
    ap (λ (m : ℕ). row_from all (row_in r.numbers.now r.times.now r.places.now m 0)) whole in
    record { putting = putting_first c.args.out.now (row_bounds all) _ same; count = omega (arith, ap (λ (bs : List Bound). length bs) same) }

pub put_later-n-requires-clause-few : goal.put_later-n-requires-clause-few
put_later-n-requires-clause-few c =
    let r = c.args.links.now.row in
    let all : List Entry = row_in r.numbers.now r.times.now r.places.now r.n 0 in
    omega (arith, c.requires, c.loop-v.invariant.count, counted_more r.numbers.now r.times.now r.places.now all r.n c.loop-v.v (omega (arith, c.loop-v-test.true)) c.if-links-v.true)

pub overflow_add-n : goal.overflow_add-n
overflow_add-n c =
    let r = c.args.links.now.row in
    let all : List Entry = row_in r.numbers.now r.times.now r.places.now r.n 0 in
    omega (arith, c.requires, c.loop-v.invariant.count, c.put_later-n.ensures.value, counted_more r.numbers.now r.times.now r.places.now all r.n c.loop-v.v (omega (arith, c.loop-v-test.true)) c.if-links-v.true)

pub loop-v-preserved : goal.loop-v-preserved
loop-v-preserved c =
    let r = c.args.links.now.row in
    let l = c.loop-v in
    let all : List Entry = row_in r.numbers.now r.times.now r.places.now r.n 0 in
    let some : List Bound = bounds_from r.numbers.now r.times.now r.places.now r.n l.v in
    let rest : List Bound = row_from all (row_in r.numbers.now r.times.now r.places.now (r.n - (l.v + 1)) (l.v + 1)) in
    let t : l.v + 1 < r.n = omega (arith, c.loop-v-test.true) in
    elim c.if-links-v.branch [
      | then-links-v w ↦
          let e = row_more r.numbers.now r.times.now r.places.now all r.n l.v t w.if-links-v.true in
          record {
            putting = putting_more l.invariant.putting c.if-links-v.out some rest e (subst (λ (o : BoundArrays). Puts l.out o some) (sym w.out-is) w.put_later-n.ensures.put);
            count = omega (arith, l.invariant.count, w.n-is, w.put_later-n.ensures.value, counted_more r.numbers.now r.times.now r.places.now all r.n l.v t w.if-links-v.true);
          }
      | else-links-v w ↦
          let e = row_same r.numbers.now r.times.now r.places.now all r.n l.v t w.if-links-v.false in
          record {
            putting = subst (λ (o : BoundArrays). Putting c.args.out.now o (row_bounds all) rest) (sym w.out-is) (putting_none l.invariant.putting rest e);
            count = omega (arith, l.invariant.count, w.n-is, ap (λ (bs : List Bound). length bs) e);
          }
    ]

pub returns-clause-value : goal.returns-clause-value
returns-clause-value c =
    let r = c.args.links.now.row in
    let l = c.loop-v in
    let all : List Entry = row_in r.numbers.now r.times.now r.places.now r.n 0 in
    omega (
      arith,
      l.invariant.count,
      ap (λ (bs : List Bound). length bs) (row_none r.numbers.now r.times.now r.places.now all r.n l.v (omega (arith, c.loop-v-test.false))),
    )

pub returns-clause-put : goal.returns-clause-put
returns-clause-put c =
    let r = c.args.links.now.row in
    let l = c.loop-v in
    let all : List Entry = row_in r.numbers.now r.times.now r.places.now r.n 0 in
    putting_all l.invariant.putting (row_none r.numbers.now r.times.now r.places.now all r.n l.v (omega (arith, c.loop-v-test.false)))

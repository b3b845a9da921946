-- `limits::count::orders_among` meets its contract. The loop's invariant: the bounds counted and those from visit `v` on are all. Assumes nothing.
use Rattle.std.specs.Prelude.{ℕ, ◌≡◌, ◌+◌, ◌-◌, ◌≤◌, ◌<◌, List, length}
use native.Mathlib.Omega.{arith}
use mathlib.Core.Path.{ap}
use Rattle.network.specs.Bounds.{Bound}
use Rattle.limits.specs.Counts.{later_carts, stop_at}
use Rattle.limits.specs.declared.row.Stop.{Stop}
use Rattle.limits.specs.Row.{Entry, row_from, row_bounds, entry_in, row_in, visits_in}
use Rattle.limits.proofs.CountSteps.{later_most, laters_count, row_counted, row_same, row_none, counted_more}
use Rattle.limits.proofs.count.orders_among.Goals as goal
use Rattle.limits.proofs.count.orders_among.Goals.{then-chain-v, else-chain-v}

pub loop-v-init : goal.loop-v-init
unfolding row_bounds
loop-v-init c =
    let r = c.args.chain.now.row in
    let all : List Entry = row_in r.numbers.now r.times.now r.places.now r.n 0 in
    let whole : r.n - 0 ≡ r.n = omega arith in record {
      few = omega arith;
      all = omega (arith, ap (λ (m : ℕ). length (row_from all (row_in r.numbers.now r.times.now r.places.now m 0))) whole, row_counted r.numbers.now r.times.now r.places.now r.n);
    }

pub overflow_add-sum : goal.overflow_add-sum
overflow_add-sum c =
    let r = c.args.chain.now.row in
    omega (arith, c.loop-v.invariant.few, c.others_later-sum.ensures, r.room, later_most r.numbers.now r.times.now r.places.now (stop_at r.numbers.now r.times.now r.places.now c.loop-v.v) 0 r.n 0)

pub loop-v-preserved : goal.loop-v-preserved
unfolding entry_in
loop-v-preserved c =
    let r = c.args.chain.now.row in
    let l = c.loop-v in
    let all : List Entry = row_in r.numbers.now r.times.now r.places.now r.n 0 in
    let v : Stop = stop_at r.numbers.now r.times.now r.places.now l.v in
    let t : l.v + 1 < r.n = omega (arith, c.loop-v-test.true) in
    let most : later_carts v 0 (visits_in r) ≤ r.n = later_most r.numbers.now r.times.now r.places.now v 0 r.n 0 in
    elim c.if-chain-v.branch [
      | then-chain-v w ↦ record {
        few = omega (arith, w.sum-is, w.others_later-sum.ensures, l.invariant.few, r.room, most);
        all = omega (
          arith,
          w.sum-is,
          w.others_later-sum.ensures,
          l.invariant.all,
          counted_more r.numbers.now r.times.now r.places.now all r.n l.v t w.if-chain-v.true,
          laters_count r.numbers.now r.times.now r.places.now (entry_in r.numbers.now r.times.now r.places.now l.v) 0 r.n 0,
        );
      }
      | else-chain-v w ↦ record {
        few = omega (arith, w.sum-is, l.invariant.few);
        all = omega (arith, w.sum-is, l.invariant.all, ap (λ (bs : List Bound). length bs) (row_same r.numbers.now r.times.now r.places.now all r.n l.v t w.if-chain-v.false));
      }
    ]

pub returns : goal.returns
returns c =
    let r = c.args.chain.now.row in
    let l = c.loop-v in
    let all : List Entry = row_in r.numbers.now r.times.now r.places.now r.n 0 in
    omega (arith, l.invariant.all, ap (λ (bs : List Bound). length bs) (row_none r.numbers.now r.times.now r.places.now all r.n l.v (omega (arith, c.loop-v-test.false))))

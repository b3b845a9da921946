-- `limits::orders::put_orders` meets its contract. The loop's invariant: the bounds from visit `v` on are yet to be put. Assumes nothing.
use Rattle.std.specs.Prelude.{◌≡◌, ◌+◌, ◌-◌, length}
use Rattle.network.proofs.Putting.{Putting}
use Rattle.limits.specs.Row.{row_from, row_bounds, row_in}
use Rattle.limits.proofs.orders.put_orders.Given as goal

abbrev pub invariant-loop-v : goal.invariant-loop-v
invariant-loop-v l =
    let r = l.links.row in
    let all = row_in r.numbers.now r.times.now r.places.now r.n 0 in
    let rest = row_from all (row_in r.numbers.now r.times.now r.places.now (r.n - l.v) l.v) in
    record {
      putting : Putting l.initial.out l.out (row_bounds all) rest;
      count : l.n + length rest ≡ length (row_bounds all);
    }

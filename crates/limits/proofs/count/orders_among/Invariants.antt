-- `limits::count::orders_among` meets its contract. The loop's invariant: the bounds counted and those from visit `v` on are all. Assumes nothing.
use Rattle.std.specs.Prelude.{◌≡◌, ◌+◌, ◌*◌, ◌-◌, ◌≤◌, length}
use Rattle.limits.specs.Counts.{orders_among}
use Rattle.limits.specs.Row.{row_from, row_in, visits_in}
use Rattle.limits.proofs.count.orders_among.Given as goal

abbrev pub invariant-loop-v : goal.invariant-loop-v
invariant-loop-v l =
    let r = l.chain.row in
    record {
      few : l.sum ≤ l.v * 1408;
      all : l.sum + length (row_from (row_in r.numbers.now r.times.now r.places.now r.n 0) (row_in r.numbers.now r.times.now r.places.now (r.n - l.v) l.v)) ≡ orders_among (visits_in r);
    }

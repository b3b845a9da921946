-- `limits::orders::put_later` meets its contract. The loop's invariant: the bounds to the last `left` visits are yet to be put, and the visit at hand is
-- of the remainder looked for. Assumes nothing.
use Rattle.std.specs.Prelude.{◌≡◌, ◌+◌, ◌-◌, ◌%◌, ◌≤◌, ◌<◌, length, get_or}
use Rattle.network.proofs.Putting.{Putting}
use Rattle.limits.specs.Row.{later_bounds, bounds_from, numbered, row_in}
use Rattle.limits.proofs.orders.put_later.Given as goal

abbrev pub invariant-loop-left : goal.invariant-loop-left
invariant-loop-left l =
    let r = l.row in
    let all = bounds_from r.numbers.now r.times.now r.places.now r.n l.v in
    let rest = later_bounds (numbered l.v l.x) l.last (row_in r.numbers.now r.times.now r.places.now l.left (r.n - l.left)) in
    record {
      within : l.left ≤ r.n;
      here : 0 < l.left → get_or r.places.now (r.n - l.left) 0 % 1024 ≡ l.x.cell % 1024;
      putting : Putting l.initial.out l.out all rest;
      count : l.n + length rest ≡ length all;
    }

abbrev pub decreases-loop-left : goal.decreases-loop-left
decreases-loop-left l = l.left

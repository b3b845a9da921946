-- `limits::count::others_later` meets its contract. The loop's invariant: the carts counted and those of the last `left` visits are all, and the
-- visit at hand is of the remainder looked for. Assumes nothing.
use Rattle.std.specs.Prelude.{◌≡◌, ◌+◌, ◌-◌, ◌%◌, ◌≤◌, ◌<◌, get_or}
use Rattle.limits.specs.Counts.{later_carts, stops_in}
use Rattle.limits.specs.Row.{visits_in}
use Rattle.limits.proofs.count.others_later.Given as goal

abbrev pub invariant-loop-left : goal.invariant-loop-left
invariant-loop-left l =
    let r = l.chain.row in
    record {
      within : l.left ≤ r.n;
      few : l.count + l.left ≤ r.n;
      here : 0 < l.left → get_or r.places.now (r.n - l.left) 0 % 1024 ≡ l.x.cell % 1024;
      all : l.count + later_carts l.x l.k (stops_in r.numbers.now r.times.now r.places.now l.left (r.n - l.left)) ≡ later_carts l.x 0 (visits_in r);
    }

abbrev pub decreases-loop-left : goal.decreases-loop-left
decreases-loop-left l = l.left

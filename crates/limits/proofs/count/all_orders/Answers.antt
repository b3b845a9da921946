-- `limits::count::all_orders` meets its contract: no visit is linked in arrays that were cleared, and the links are for counting. Assumes nothing.
use native.Mathlib.Omega.{arith}
use Rattle.std.proofs.Common.{rules}
use lib.ListN.{get_or-replicate}
use Rattle.limits.specs.Counts.{left_out}
use Rattle.limits.proofs.Chains.{chained}
use Rattle.limits.proofs.count.all_orders.Goals as goal

pub link-requires-clause-by_index : goal.link-requires-clause-by_index
link-requires-clause-by_index c = λ b h. get_or-replicate 1024 b 0 0 h

pub invariant_of-orders_among : goal.invariant_of-orders_among
invariant_of-orders_among c =
    let r = c.fill-row.result in
    record {
      sized = (c.link.auto.heads, omega (arith, c.fill-row.ensures.count, c.link.auto.nexts));
      chained = chained r.numbers.now r.times.now r.places.now r.n c.link.new.heads c.link.new.nexts (c.link.ensures (left_out r.numbers.now r.times.now r.places.now r.n) (λ u left t h k p. search rules));
    }

-- `limits::orders::put_all` meets its contract: the visits of all paths are put in a row and linked, and the bounds put from there. Assumes nothing.
use Rattle.std.specs.Prelude.{◌≡◌, ◌≤◌, false, List, length}
use native.Mathlib.Omega.{arith}
use Rattle.std.proofs.Common.{rules}
use mathlib.Core.Path.{ap, subst}
use lib.ListN.{get_or-replicate}
use Rattle.network.specs.Bounds.{Bound}
use Rattle.network.specs.BoundArrays.{Puts}
use Rattle.limits.specs.Counts.{Linked}
use Rattle.limits.specs.OfPaths.{bounds_of}
use Rattle.limits.specs.Row.{row_bounds, row_in}
use Rattle.limits.proofs.RowPlaces.{numbers_low, row_is}
use Rattle.limits.proofs.Skips.{next_low}
use Rattle.limits.proofs.OrderSteps.{orders_numbered}
use Rattle.limits.proofs.orders.put_all.Given.{Over}
use Rattle.limits.proofs.orders.put_all.Goals as goal
use Rattle.limits.proofs.orders.put_all.Goals.{After-fill-row, After-link}

pub link-requires-clause-by_index : goal.link-requires-clause-by_index
link-requires-clause-by_index g c = λ b h. get_or-replicate 1024 b 0 0 h

-- no visit is left out
linked : (g : Over) (c : After-link g) → let r = c.fill-row.result in Linked r.places.now c.link.new.heads c.link.new.nexts r.n r.n
linked g c = c.link.ensures (λ i m. false) (λ u left t h k p. search rules)

pub put_skips-requires-clause-by_index : goal.put_skips-requires-clause-by_index
put_skips-requires-clause-by_index g c = next_low _ _ _ _ (linked g (goal.at.put_skips-requires-clause-by_index g c).After-link)

pub invariant_of-links : goal.invariant_of-links
invariant_of-links g c =
    let d = c.args.kept.now.grid in
    let p = d.paths in
    let r = c.fill-row.result in
    record {
      sized = (c.link.auto.heads, omega (arith, c.fill-row.ensures.count, c.link.auto.nexts, c.requires), omega (arith, c.fill-row.ensures.count, c.put_skips.auto.skips, c.requires));
      grouped = record { linked = linked g (goal.at.invariant_of-links g c).After-link; skipped = c.put_skips.ensures };
      low = numbers_low r.numbers.now r.times.now r.places.now r.n p.carts p.steps p.cells.now d.few.1 d.few.3 c.fill-row.ensures.visits;
    }

-- the bounds of the row are those of the paths
same : (g : Over) (c : After-fill-row g)
    → let r = c.fill-row.result in row_bounds (row_in r.numbers.now r.times.now r.places.now r.n 0) ≡ bounds_of c.args.kept.now.grid.paths
same g c =
    let d = c.args.kept.now.grid in
    let p = d.paths in
    let r = c.fill-row.result in
    row_is r.numbers.now r.times.now r.places.now r.n p.carts p.steps p.cells.now d.few.1 d.few.3 c.fill-row.ensures.visits

pub put_orders-requires : goal.put_orders-requires
put_orders-requires g c =
    let k = c.args.kept.now in
    let d = k.grid in
    let p = d.paths in
    let l : length (bounds_of p) ≤ 90112 = orders_numbered p.carts p.steps p.cells.now d.few.0 (omega (arith, k.counted, k.within, d.few)) in
    omega (arith, l, ap (λ (bs : List Bound). length bs) (same g (goal.at.put_orders-requires g c).After-fill-row))

pub returns-clause-value : goal.returns-clause-value
returns-clause-value g c =
    omega (arith, c.put_orders.ensures.value, ap (λ (bs : List Bound). length bs) (same g (goal.at.returns-clause-value g c).After-fill-row))

pub returns-clause-put : goal.returns-clause-put
returns-clause-put g c =
    subst (Puts c.args.out.now c.put_orders.new.out) (same g (goal.at.returns-clause-put g c).After-fill-row) c.put_orders.ensures.put

-- `limits::count::few_orders` meets its contract: there are no more order bounds than moves give. Assumes nothing.
use borrow.Author.Tests.{le-leb}
use mathlib.Core.Path.{◌∙◌}
use Rattle.limits.proofs.Few.{few_enough}
use Rattle.limits.proofs.count.few_orders.Goals as goal

pub returns-then-kept-most : goal.returns-then-kept-most
returns-then-kept-most c =
    let k = c.args.kept.now in
    let p = k.grid.paths in
    le-leb _ _ c.if-kept-most.true ∙ few_enough p.carts p.steps p.cells.now k.moves c.args.most k.counted c.if-kept-most.true

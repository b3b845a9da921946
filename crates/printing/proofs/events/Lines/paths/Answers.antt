-- `printing::events::Lines::paths` meets its contract: one path after the other. Assumes nothing.
use Rattle.printing.proofs.CartSteps.{carts_last, path_few, carts_next}
use Rattle.printing.proofs.events.Lines.paths.Goals as goal

pub path-requires-clause-few : goal.path-requires-clause-few
path-requires-clause-few c = let a = c.args.paths in path_few a.cells.now a.carts a.steps c.loop-i.invariant c.loop-i-test.true c.requires.few

pub loop-i-preserved : goal.loop-i-preserved
loop-i-preserved c =
    let a = c.args.paths in
    carts_next a.cells.now a.carts a.steps c.loop-i.invariant c.loop-i-test.true c.requires.carts_bound.0 c.requires.carts_bound.1 c.path.ensures

pub returns : goal.returns
returns c = let a = c.args.paths in carts_last a.cells.now a.carts a.steps c.loop-i.invariant c.loop-i-test.false

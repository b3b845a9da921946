-- `printing::events::Lines::paths` meets its contract: one path after the other. Assumes nothing.
use Rattle.printing.proofs.CartSteps.{OnCarts}
use Rattle.printing.proofs.events.Lines.paths.Given as goal

abbrev pub invariant-loop-i : goal.invariant-loop-i
invariant-loop-i l = OnCarts l.paths.cells.now l.paths.carts l.paths.steps l.initial.self l.self l.i

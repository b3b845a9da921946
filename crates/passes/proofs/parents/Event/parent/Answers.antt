-- `passes::parents::Event::parent` meets its contract: a number is the code of an arc, or 0 for none.
-- Assumes nothing.
use Rattle.passes.proofs.Backward.{told}
use Rattle.passes.proofs.parents.Event.parent.Goals as goal

pub returns : goal.returns
returns c = told c.args.self.parents.now c.args.self.v c.checked_sub.result (rw c.from.ensures at c.checked_sub.ensures)

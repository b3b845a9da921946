-- `passes::arrays::Place::hi` meets its contract: a number is one more than hi, or 0 for none.
-- Assumes nothing.
use Rattle.passes.proofs.Networks.{hi_told}
use Rattle.passes.proofs.arrays.Place.hi.Goals as goal

pub returns : goal.returns
returns c = hi_told c.args.self.net.now c.args.self.i c.args.self.there c.checked_sub.result c.checked_sub.ensures

-- `passes::arrays::Place::from` meets its contract: the bound fits.
-- Assumes nothing.
use Rattle.passes.proofs.Networks.{fits}
use Rattle.passes.proofs.arrays.Place.from.Goals as goal

pub returns-clause-below : goal.returns-clause-below
returns-clause-below c = rw c.from.ensures (fits c.args.self.net.now c.args.self.i c.args.self.there).from_in

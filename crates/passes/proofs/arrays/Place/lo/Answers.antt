-- `passes::arrays::Place::lo` meets its contract: the bound fits.
-- Assumes nothing.
use Rattle.passes.proofs.Networks.{fits}
use Rattle.passes.proofs.arrays.Place.lo.Goals as goal

pub returns-clause-small : goal.returns-clause-small
returns-clause-small c = (fits c.args.self.net.now c.args.self.i c.args.self.there).lo_fits

-- `passes::arrays::Place::forward` meets its contract: the bound is there, and its lo is small.
-- Assumes nothing.
use mathlib.Core.Path.{refl}
use Rattle.passes.proofs.Networks.{forward_code}
use Rattle.passes.proofs.arrays.Place.forward.Goals as goal

pub returns-clause-of : goal.returns-clause-of
returns-clause-of c = record {
  code_is = refl;
  coded = forward_code c.args.self.net.now c.args.self.i c.args.self.there;
  from_in = c.from.ensures.below;
  to_in = c.to.ensures.below;
}

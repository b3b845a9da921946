-- `slice::log` meets its contract. Assumes nothing.
use Rattle.std.proofs.Common.{◌∙◌}
use Rattle.slice.proofs.Laid.{rest_of}
use Rattle.slice.proofs.log.Goals as goal

pub returns : goal.returns
returns c = record { carts = c.part.ensures; times = c.part-2.ensures ∙ rest_of c.args.plan.now 200_704 }

-- `passes::quick` meets its contract: what comes of the first sweeps is believed, or what comes of further ones.
-- Assumes nothing.
use Rattle.passes.specs.Marks.{finds_times}
use Rattle.passes.proofs.quick.Goals as goal

pub returns-in-Some-clause-found : goal.returns-in-Some-clause-found
returns-in-Some-clause-found c = finds_times c.in-Some.passes c.in-Some.ensures.settled

-- `passes::certificate::check_arc` meets its contract: an arc that is exact marks its end.
-- Assumes nothing.
use Rattle.std.proofs.Common.{rules}
use Rattle.passes.specs.Arcs.{arc_of}
use Rattle.passes.proofs.BoundChecks.{one_marked}
use Rattle.passes.proofs.certificate.check_arc.Goals as goal

pub returns-clause-marked : goal.returns-clause-marked
returns-clause-marked c = one_marked c.args.values.all.now c.args.marks.now (arc_of c.args.arc) (search rules)

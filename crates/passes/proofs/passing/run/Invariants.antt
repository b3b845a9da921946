-- `passes::passing::run` meets its contract: after k passes none of which agreed, it holds the sums and parents of k passes.
-- Assumes nothing.
use Rattle.passes.specs.Networks.{bounds_of}
use Rattle.passes.proofs.Running.{Round}
use Rattle.passes.proofs.passing.run.Given as goal

abbrev pub invariant-loop-k : goal.invariant-loop-k
invariant-loop-k l = Round (bounds_of l.net) l.net.events l.k l.raised l.old l.new l.parents

-- `passes::links::back` meets its contract: after j steps, it is j steps back.
-- Assumes nothing.
use mathlib.Core.Path.{◌≡◌}
use Rattle.walks.specs.Parents.{steps_back}
use Rattle.passes.proofs.Backward.{arcs, ps}
use Rattle.passes.proofs.links.back.Given as goal

abbrev pub invariant-loop-j : goal.invariant-loop-j
invariant-loop-j l = l.x ≡ steps_back (arcs l.event.parents.now) (ps l.event.parents.now) l._j l.event.v

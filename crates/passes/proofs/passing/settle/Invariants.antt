-- `passes::passing::settle` meets its contract: the places of `new` are copied one by one, and the last that differed is kept in mind.
-- Assumes nothing.
use Rattle.passes.proofs.Copying.{Copied}
use Rattle.passes.proofs.passing.settle.Given as goal

abbrev pub invariant-loop-i : goal.invariant-loop-i
invariant-loop-i l = Copied l.new l.initial.old l.i l.old l.changed

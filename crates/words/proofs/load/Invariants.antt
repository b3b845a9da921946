-- `words::load` meets its contract: the bytes are read one after the other, the last first. Assumes nothing.
use Rattle.words.proofs.Storing.{Said}
use Rattle.words.proofs.load.Given as goal

abbrev pub invariant-loop-i : goal.invariant-loop-i
invariant-loop-i l = Said l.s l.at l.k l.i l.x

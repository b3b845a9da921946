-- `hegtalim::commas` meets its contract: its blocks are there, and none adds more to the count than a byte holds. Assumes nothing.
use Prim.Native.Nat.{◌*◌, ◌≤◌}
use Rattle.hegtalim.proofs.commas.Given as goal

abbrev pub invariant-loop-i : goal.invariant-loop-i
invariant-loop-i l = (l.i ≤ l.blocks) × (l.n ≤ 255 * l.i)

-- `hegtalim::most_moves` meets its contract: it looks at bytes that are there, and at no more than 64 blocks. Assumes nothing.
use Prim.Native.Nat.{◌-◌, ◌≤◌}
use Rattle.hegtalim.proofs.most_moves.Given as goal

abbrev pub invariant-loop-blocks : goal.invariant-loop-blocks
invariant-loop-blocks l = 1 ≤ l.blocks

abbrev pub decreases-loop-blocks : goal.decreases-loop-blocks
decreases-loop-blocks l = 64 - l.blocks

-- The measure of the cycle of calls {time_from}: how far the moves are below 701.
use Prim.Native.Nat.{◌-◌}
use Rattle.hegtalim.proofs.+time_from.Given as goal

abbrev pub decreases-time_from : goal.decreases-time_from
decreases-time_from l = 701 - l.moves

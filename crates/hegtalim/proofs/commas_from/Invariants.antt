-- `hegtalim::commas_from` meets its contract: it counts no more than it reads. Assumes nothing.
use Prim.Native.Nat.{◌≤◌}
use mathlib.Core.Path.{◌≡◌}
use Rattle.hegtalim.proofs.commas_from.Given as goal

abbrev pub invariant-loop-b : goal.invariant-loop-b
invariant-loop-b l = (l.n ≤ l.b-index) × (l.b-index ≤ l.b-index-end) × (l.b-index-end ≡ 64)

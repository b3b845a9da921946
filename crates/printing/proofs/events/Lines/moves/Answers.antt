-- `printing::events::Lines::moves` meets its contract: three lines, one behind the other. Assumes nothing.
use Prim.Native.Nat.{◌+◌}
use native.Mathlib.Nat.{add_assoc}
use mathlib.Core.List.{◌++◌}
use Rattle.printing.specs.Lines.{point_line, move_lines}
use Rattle.printing.proofs.Puts.{prints_then}
use Rattle.printing.proofs.events.Lines.moves.Goals as goal

pub returns : goal.returns
unfolding move_lines
returns c =
    let a = c.args in
    let line = point_line a.cart a.to in
    simp add_assoc at (prints_then (point_line a.cart a.from) (λ time e. line time e ++ line time (e + 1)) c.point.ensures (prints_then line line c.point-2.ensures c.point-3.ensures))

-- `limits::grid::moves_of` meets its contract. The loop's invariant: the moves counted and those from step `s` on, after cell `c`, are the path's.
-- Assumes nothing.
use native.Mathlib.Omega.{arith}
use Rattle.limits.proofs.CountSteps.{moves_begin, moves_stay, moves_go, moves_end}
use Rattle.limits.proofs.grid.moves_of.Goals as goal
use Rattle.limits.proofs.grid.moves_of.Goals.{then-c-d, else-c-d}

pub loop-s-init : goal.loop-s-init
loop-s-init c = record { few = omega arith; all = omega (arith, moves_begin c.args.path.now c.requires.0) }

pub loop-s-preserved : goal.loop-s-preserved
loop-s-preserved c =
    let p = c.args.path.now in
    let l = c.loop-s in
    elim c.if-c-d.branch [
      | then-c-d w ↦ record { few = omega arith; all = omega (arith, moves_go p l.c l.s c.loop-s-test.true w.if-c-d.true) }
      | else-c-d w ↦ record { few = omega arith; all = omega (arith, moves_stay p l.c l.s c.loop-s-test.true w.if-c-d.false) }
    ]

pub returns : goal.returns
returns c = omega (arith, moves_end c.args.path.now c.loop-s.c c.loop-s.s c.loop-s-test.false)

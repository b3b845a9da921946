-- `passes::passing::settle` meets its contract: the places of `new` are copied one by one, and the last that differed is kept in mind.
-- Assumes nothing.
use native.Mathlib.Omega.{arith}
use mathlib.Core.Path.{◌≡◌, ap, sym, ◌∙◌}
use lib.IntN.{pos}
use lib.ListN.{get_or}
use mir.Syntax.{w64}
use mir.Val.{to_z, of_z}
use mir.ValLaws.{to_z-of_z}
use Rattle.passes.proofs.Copying.{one_moved, one_same}
use Rattle.passes.proofs.passing.settle.Goals as goal
use Rattle.passes.proofs.passing.settle.Goals.{then-old-i, else-old-i}

pub loop-i-preserved : goal.loop-i-preserved
loop-i-preserved c =
    let l = c.loop-i in
    let s = c.args.new.now in
    let d = c.args.old.now in
    let t = c.loop-i-test.true in
    elim c.if-old-i.branch [
      | then-old-i w ↦
          let y : to_z w64 (of_z w64 (get_or s l.i (pos 0))) ≡ get_or s l.i (pos 0) = to_z-of_z w64 (get_or s l.i (pos 0)) (record { sfits = omega arith }) in
          rw (w.old-is, w.changed-is, y) (one_moved s d l.i l.old l.changed (pos 0) t c.requires l.invariant (λ e. w.if-old-i.true (ap (of_z w64) e)))
      | else-old-i w ↦
          let x : to_z w64 (of_z w64 (get_or l.old l.i (pos 0))) ≡ get_or l.old l.i (pos 0) = to_z-of_z w64 (get_or l.old l.i (pos 0)) (record { sfits = omega arith }) in
          let y : to_z w64 (of_z w64 (get_or s l.i (pos 0))) ≡ get_or s l.i (pos 0) = to_z-of_z w64 (get_or s l.i (pos 0)) (record { sfits = omega arith }) in
          rw (w.old-is, w.changed-is) (one_same s d l.i l.old l.changed (pos 0) t c.requires l.invariant (sym x ∙ ap (to_z w64) w.if-old-i.false ∙ y))
    ]

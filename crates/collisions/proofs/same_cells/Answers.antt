-- `collisions::same_cells` meets its contract. The loops' invariants: nothing was found at the steps passed, nor at this step among the carts
-- passed, nor for this cart against those passed. Assumes nothing.
use Prim.Native.Nat.{◌+◌, ◌<◌}
use native.Mathlib.Numerals.{unary_clauses}
use native.Mathlib.Omega.{arith}
use mathlib.Core.Path.{refl, sym, ◌∙◌}
use borrow.Author.Tests.{eq-eqb, ne_eqb}
use lib.Dec.{eqb}
use Rattle.floor.specs.Paths.{same_cell, steps, first_same_cell}
use Rattle.collisions.specs.Meetings.{paths_in}
use Rattle.collisions.proofs.Searches.{cells_placed, other_passed, record_passed, record_found, records_past, step_passed, step_found, steps_over, steps_most, steps_all}
use Rattle.collisions.proofs.same_cells.Goals as goal
use Rattle.collisions.proofs.same_cells.Goals.{In-loop-i, In-loop-k}

pub steps-init : goal.steps-init
unfolding first_same_cell
steps-init c = (refl, simp unary_clauses)

pub loop-i-init : goal.loop-i-init
unfolding same_cell
loop-i-init c = (c.steps.invariant.0, refl)

pub loop-k-preserved : goal.loop-k-preserved
loop-k-preserved c =
    let a = c.args.paths in
    let v = cells_placed a.carts a.steps a.cells.now c.steps.s (omega arith) in (
      c.loop-k.invariant.0,
      c.loop-k.invariant.1 ∙ other_passed eqb v c.loop-i.i c.loop-k.k (omega arith) (omega arith)
          (ne_eqb _ _ (λ q. c.if-cells-k.false (sym q))),
    )

pub loop-i-preserved : goal.loop-i-preserved
loop-i-preserved c =
    let a = c.args.paths in
    let v = cells_placed a.carts a.steps a.cells.now c.steps.s (omega arith) in
    (c.loop-k.invariant.0, c.loop-i.invariant.1 ∙ record_passed eqb v c.loop-i.i c.loop-k.k (omega arith) (omega arith) c.loop-k.invariant.1)

pub steps-preserved : goal.steps-preserved
steps-preserved c =
    let a = c.args.paths in
    let n = steps (paths_in a.carts a.steps a.cells.now) in
    let v = cells_placed a.carts a.steps a.cells.now c.steps.s (omega arith) in (
      c.loop-i.invariant.0,
      c.steps.invariant.1 ∙ step_passed _ c.steps.s n
          (c.loop-i.invariant.1 ∙ records_past eqb v c.loop-i.i (omega arith)),
    )

pub returns-after-steps : goal.returns-after-steps
returns-after-steps c =
    let a = c.args.paths in
    let n = steps (paths_in a.carts a.steps a.cells.now) in
    c.steps.invariant.0
    ∙ sym (c.steps.invariant.1 ∙ steps_over _ c.steps.s n (omega (arith, steps_most a.carts a.steps a.cells.now)))

pub returns-then-cells-k : goal.returns-then-cells-k
returns-then-cells-k c =
    let a = c.args.paths in
    let n = steps (paths_in a.carts a.steps a.cells.now) in
    let v = cells_placed a.carts a.steps a.cells.now c.steps.s (omega arith) in
    let met = eq-eqb _ _ (sym c.if-cells-k.true) in
    let here = record_found eqb v c.loop-i.i c.loop-k.k (omega arith) (omega arith) c.loop-k.invariant.1 met in
    let within : c.steps.s < n = omega (arith, steps_all a.carts a.steps a.cells.now (omega arith) (omega arith)) in
    sym (c.steps.invariant.1 ∙ step_found _ c.steps.s n (c.loop-i.i + 1) within (c.loop-i.invariant.1 ∙ here))

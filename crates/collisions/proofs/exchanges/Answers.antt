-- `collisions::exchanges` meets its contract. The loops' invariants are those of `same_cells`, for the moves to a step.
-- Assumes nothing.
use Prim.Native.Nat.{ℕ, ◌+◌, ◌*◌, ◌-◌, ◌<◌}
use native.Mathlib.Numerals.{unary_clauses}
use native.Mathlib.Omega.{arith}
use mathlib.Core.Path.{refl, ap, sym, ◌∙◌}
use mathlib.Core.List.{List}
use lib.ListN.{take, drop, get_or}
use Rattle.floor.specs.Paths.{collides, Move, exchanged, exchange, steps, first_exchange}
use Rattle.collisions.specs.Meetings.{paths_in}
use Rattle.collisions.proofs.Searches.{moves_at, moves_placed, moves_meet, moves_pass, stays_alone, other_passed, record_passed, record_found, records_past, step_to_passed, step_found, steps_over, steps_most, steps_all}
use Rattle.collisions.proofs.exchanges.Goals as goal
use Rattle.collisions.proofs.exchanges.Goals.{then-a-b, else-a-b, else-cells-k-via-then-cells-k+else-cells-k-2, else-cells-k-via-else-cells-k}
use Rattle.collisions.proofs.exchanges.Goals.{In-loop-i, In-loop-k}

pub steps-init : goal.steps-init
unfolding first_exchange
steps-init c = (refl, simp unary_clauses)

pub loop-i-init : goal.loop-i-init
unfolding exchange
loop-i-init c = (c.steps.invariant.0, refl)

pub loop-k-init : goal.loop-k-init
loop-k-init c =
    let a = c.args.paths in
    let i = c.loop-i.i in
    let s = c.steps.s in
    let x : Move = record { before = get_or a.cells.now (i * a.steps + s - 1) 0; after = get_or a.cells.now (i * a.steps + s) 0 } in
    let those : List Move = take i (moves_at a.carts a.steps a.cells.now (s - 1)) in (
      c.loop-i.invariant.0,
      elim c.if-a-b.branch [
        | then-a-b u ↦ stays_alone a.carts a.steps a.cells.now c.requires.0 c.requires.1 s i (omega arith) (omega arith) (omega arith) u.if-a-b.true
            ∙ ap (λ (k : ℕ). collides exchanged x (drop k those)) (sym u.first-is)
        | else-a-b u ↦ ap (λ (k : ℕ). collides exchanged x (drop k those)) (sym u.first-is)
      ],
    )

pub loop-k-preserved : goal.loop-k-preserved
loop-k-preserved c =
    let a = c.args.paths in
    let v = moves_placed a.carts a.steps a.cells.now c.steps.s (omega arith) (omega arith) in (
      c.loop-k.invariant.0,
      c.loop-k.invariant.1 ∙ other_passed exchanged v c.loop-i.i c.loop-k.k (omega arith) (omega arith)
          (moves_pass _ _ _ _ (λ p q. elim c.else-cells-k.branch [ else-cells-k-via-then-cells-k+else-cells-k-2 u ↦ u.if-cells-k-2.false q | else-cells-k-via-else-cells-k u ↦ u.if-cells-k.false p ])),
    )

pub loop-i-preserved : goal.loop-i-preserved
loop-i-preserved c =
    let a = c.args.paths in
    let v = moves_placed a.carts a.steps a.cells.now c.steps.s (omega arith) (omega arith) in
    (c.loop-k.invariant.0, c.loop-i.invariant.1 ∙ record_passed exchanged v c.loop-i.i c.loop-k.k (omega arith) (omega arith) c.loop-k.invariant.1)

pub steps-preserved : goal.steps-preserved
steps-preserved c =
    let a = c.args.paths in
    let n = steps (paths_in a.carts a.steps a.cells.now) - 1 in
    let v = moves_placed a.carts a.steps a.cells.now c.steps.s (omega arith) (omega arith) in (
      c.loop-i.invariant.0,
      c.steps.invariant.1 ∙ step_to_passed _ c.steps.s n (omega arith)
          (c.loop-i.invariant.1 ∙ records_past exchanged v c.loop-i.i (omega arith)),
    )

pub returns-after-steps : goal.returns-after-steps
returns-after-steps c =
    let a = c.args.paths in
    let n = steps (paths_in a.carts a.steps a.cells.now) - 1 in
    c.steps.invariant.0
    ∙ sym (c.steps.invariant.1 ∙ steps_over _ (c.steps.s - 1) n (omega (arith, steps_most a.carts a.steps a.cells.now)))

pub returns-then-cells-k-2 : goal.returns-then-cells-k-2
returns-then-cells-k-2 c =
    let a = c.args.paths in
    let n = steps (paths_in a.carts a.steps a.cells.now) - 1 in
    let v = moves_placed a.carts a.steps a.cells.now c.steps.s (omega arith) (omega arith) in
    let met = moves_meet _ _ _ _ c.if-cells-k.true c.if-cells-k-2.true in
    let here = record_found exchanged v c.loop-i.i c.loop-k.k (omega arith) (omega arith) c.loop-k.invariant.1 met in
    let within : c.steps.s - 1 < n = omega (arith, steps_all a.carts a.steps a.cells.now (omega arith) (omega arith)) in
    sym (c.steps.invariant.1 ∙ step_found _ (c.steps.s - 1) n (c.loop-i.i + 1) within (c.loop-i.invariant.1 ∙ here))

-- `limits::put_firsts` meets its contract. The loop's invariant: the numbers written and those of the paths from the i-th on are all. Assumes nothing.
use Rattle.std.specs.Prelude.{◌+◌, ◌*◌, ◌≤◌, drop}
use native.Mathlib.Omega.{arith}
use mathlib.Core.Path.{◌≡◌, ◌∙◌}
use Rattle.limits.proofs.CountSteps.{moves_next}
use Rattle.limits.proofs.Firsts.{first_written, finish_written, firsts_written}
use Rattle.limits.proofs.put_firsts.Goals as goal
use Rattle.limits.proofs.put_firsts.Goals.{After-moves_of}

-- the i-th path has no more moves than all
few : (c : After-moves_of) → c.loop-i.e + 3 * c.moves_of.result ≤ 4096
few c =
    let k = c.args.kept.now in
    let p = k.grid.paths in
    omega (arith, c.moves_of.ensures, c.loop-i.invariant.count, k.counted, k.within, moves_next p.carts c.loop-i.i p.steps p.cells.now c.loop-i-test.true)

pub overflow_mul-e : goal.overflow_mul-e
overflow_mul-e c = omega (arith, few (goal.at.overflow_mul-e c).After-moves_of)

pub overflow_add-e : goal.overflow_add-e
overflow_add-e c = omega (arith, few (goal.at.overflow_add-e c).After-moves_of)

pub overflow_add-e-in-loop-i : goal.overflow_add-e-in-loop-i
overflow_add-e-in-loop-i c = omega (arith, few (goal.at.overflow_add-e-in-loop-i c).After-moves_of)

pub loop-i-preserved : goal.loop-i-preserved
loop-i-preserved c =
    let g = c.args.kept.now.grid in
    let p = g.paths in
    let l = c.loop-i in record {
      count = omega (arith, c.moves_of.ensures, l.invariant.count, moves_next p.carts l.i p.steps p.cells.now c.loop-i-test.true);
      written = first_written p.carts l.i p.steps p.cells.now c.loop-i-test.true g.few.1 g.few.3 l.e c.moves_of.result c.moves_of.ensures l.firsts ∙ l.invariant.written;
    }

pub returns : goal.returns
returns c =
    let p = c.args.kept.now.grid.paths in
    let l = c.loop-i in
    let all : l.i ≡ p.carts = omega arith in
    finish_written p.carts l.i p.steps l.e (drop (l.i * p.steps) p.cells.now) l.firsts all
    ∙ l.invariant.written
    ∙ firsts_written p.carts p.steps p.cells.now c.args.firsts.now c.requires

-- `tables::on_roads::off_roads` meets its contract. The loop's invariant: the paths passed over keep to the roads.
-- Assumes nothing.
use Prim.Native.Nat.{◌+◌, ◌*◌, ◌≤◌}
use native.Mathlib.Nat.{add-mul, one-mul}
use native.Mathlib.Omega.{arith}
use mathlib.Core.Path.{ap, sym, ◌∙◌}
use Rattle.tables.proofs.Searches.{path_fits, path_on, path_off, paths_past}
use mathlib.Core.Bool.{not}
use Rattle.tables.proofs.on_roads.off_roads.Goals as goal
use Rattle.tables.proofs.on_roads.off_roads.Goals.{In-loop-i}

-- this path's cells are in the array
this_fits : (c : In-loop-i) → let p = c.args.paths in c.loop-i.i * p.steps + p.steps ≤ p.carts * p.steps
this_fits c = let p = c.args.paths in path_fits c.loop-i.i p.carts p.steps c.loop-i-test.true

pub returns-then-not-keeps_to_roads : goal.returns-then-not-keeps_to_roads
returns-then-not-keeps_to_roads c =
    let p = c.args.paths in
    let fits = this_fits (goal.at.returns-then-not-keeps_to_roads c).In-loop-i in
    sym (c.loop-i.invariant ∙ path_off _ p.carts p.steps c.loop-i.i (c.loop-i.i * p.steps) p.cells.now (omega (arith, fits)) c.keeps_to_roads.ensures (ap not c.if-not-keeps_to_roads.true))

pub loop-i-preserved : goal.loop-i-preserved
loop-i-preserved c =
    let p = c.args.paths in
    let fits = this_fits (goal.at.loop-i-preserved c).In-loop-i in
    c.loop-i.invariant
    ∙ rw (add-mul c.loop-i.i 1 p.steps, one-mul) (path_on _ p.carts p.steps c.loop-i.i (c.loop-i.i * p.steps) p.cells.now (omega (arith, fits)) c.keeps_to_roads.ensures (ap not c.if-not-keeps_to_roads.false))

pub returns : goal.returns
returns c =
    let p = c.args.paths in
    sym (c.loop-i.invariant ∙ paths_past _ p.carts p.steps c.loop-i.i (c.loop-i.i * p.steps) p.cells.now c.loop-i-test.false)

-- `limits::first_events` meets its contract: there is no room, the limit is not kept, or the numbers are written. Assumes nothing.
use mathlib.Core.Path.{ap, ◌∙◌}
use Rattle.words.specs.Words.{written}
use Rattle.collisions.specs.declared.Paths.{Paths}
use Rattle.limits.specs.Orders.{first_events}
use Rattle.limits.specs.OfPaths.{plan_of}
use Rattle.limits.proofs.Firsts.{firsts_over, firsts_room, firsts_fit}
use Rattle.limits.proofs.first_events.Goals as goal

pub returns-then-firsts-paths : goal.returns-then-firsts-paths
returns-then-firsts-paths c =
    let p = c.args.paths in firsts_room p.carts p.steps p.cells.now c.args.firsts.now c.if-firsts-paths.true

pub returns-in-Some : goal.returns-in-Some
returns-in-Some c =
    let p = c.args.paths in
    let (same, keeps) = c.in-Some.ensures in
    firsts_fit p.carts p.steps p.cells.now c.args.firsts.now keeps c.if-firsts-paths.false c.put_firsts.new.firsts
    (c.put_firsts.ensures ∙ ap (λ (q : Paths). written (first_events (plan_of q)) c.args.firsts.now) same)

pub returns-in-None : goal.returns-in-None
returns-in-None c = let p = c.args.paths in firsts_over p.carts p.steps p.cells.now c.args.firsts.now c.in-None.ensures

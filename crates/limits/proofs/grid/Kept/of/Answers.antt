-- `limits::grid::Kept::of` meets its contract: the events are counted by the moves. Assumes nothing.
use Rattle.std.specs.Prelude.{◌≡◌, true, false}
use mathlib.Core.Path.{subst}
use Rattle.collisions.specs.declared.Paths.{Paths}
use Rattle.limits.specs.OfPaths.{keep_events}
use Rattle.limits.proofs.Firsts.{events_within, events_over}
use Rattle.limits.proofs.grid.Kept.of.Goals as goal

pub returns-then-grid-moves-le4096 : goal.returns-then-grid-moves-le4096
returns-then-grid-moves-le4096 c =
    let g = c.in_ok-grid.grid in
    let p = g.paths in
    let same : p ≡ c.args.paths = c.in_ok-grid.ensures in (
      same,
      subst (λ (q : Paths). keep_events q ≡ true) same
          (events_within p.carts p.steps p.cells.now g.few c.moves-moves.result c.moves-moves.ensures.value c.if-grid-moves-le4096.true),
    )

pub returns : goal.returns
returns c =
    let g = c.in_ok-grid.grid in
    let p = g.paths in
    subst (λ (q : Paths). keep_events q ≡ false) (c.in_ok-grid.ensures)
    (events_over p.carts p.steps p.cells.now g.few c.moves-moves.result c.moves-moves.ensures.value c.if-grid-moves-le4096.false)

-- `limits::within_limits` meets its contract: there is no step, the limit of events is not kept, or the order bounds are few. Assumes nothing.
use Rattle.std.specs.Prelude.{◌≡◌, ◌*◌, ◌-◌, leb, Bool, false, true, Option, None, Some, MatchOption}
use mathlib.Core.Path.{ap, sym, ◌∙◌}
use Rattle.std.proofs.Common.{rules}
use Rattle.collisions.specs.declared.Paths.{Paths}
use Rattle.limits.specs.declared.grid.Kept.{Kept}
use Rattle.limits.specs.OfPaths.{keep_limits, keep_events, orders_of}
use Rattle.limits.proofs.LimitSteps.{no_steps, orders_asked}
use Rattle.limits.proofs.Firsts.{limits_off}
use Rattle.limits.proofs.within_limits.Goals as goal

pub returns-then-paths-eq0 : goal.returns-then-paths-eq0
returns-then-paths-eq0 c = let p = c.args.paths in no_steps p.carts p.steps p.cells.now c.if-paths-eq0.true

-- where the limit of events is not kept, and where it is
judged : (p : Paths) → (p.steps ≡ 0 → ⊥) → (o : Option Kept) (r : Bool) → MatchOption o (keep_events p ≡ false) (λ k. (k.grid.paths ≡ p) × (keep_events p ≡ true))
    → MatchOption o (r ≡ false) (λ k. r ≡ leb (orders_of k.grid.paths) (8192 - 2 * p.carts - 3 * k.moves)) → r ≡ keep_limits p
judged p s None r off e = e ∙ limits_off p.carts p.steps p.cells.now s off
judged p s (Some k) r (same, keeps) e =
    let g = k.grid in
    e ∙ ap (λ (q : Paths). leb (orders_of g.paths) (8192 - 2 * q.carts - 3 * k.moves)) (sym same)
    ∙ orders_asked g.paths.carts g.paths.steps g.paths.cells.now g.few.0 g.few.2 g.few.3 g.few.1 k.moves k.counted k.within
    ∙ ap keep_limits same

pub returns : goal.returns
returns c = judged c.args.paths c.if-paths-eq0.false c.of.result c.is_some_and.result c.of.ensures (search rules)

-- `limits::order_bounds` meets its contract: a cart is alone, the limit of events is not kept, or the bounds are put, of few visits or of many.
-- Assumes nothing.
use Rattle.std.specs.Prelude.{ℕ, ◌≡◌, true, length}
use mathlib.Core.Path.{ap, ◌∙◌, subst}
use Rattle.collisions.specs.declared.Paths.{Paths}
use Rattle.network.specs.declared.BoundArrays.{BoundArrays}
use Rattle.network.specs.BoundArrays.{Puts}
use Rattle.limits.specs.OfPaths.{bounds_of, bounds_kept, keep_events}
use Rattle.limits.proofs.OrderSteps.{orders_alone, orders_over, orders_fit}
use Rattle.limits.proofs.order_bounds.Goals as goal

pub returns-then-paths-lt2 : goal.returns-then-paths-lt2
returns-then-paths-lt2 c = let p = c.args.paths in orders_alone p.carts p.steps p.cells.now c.args.out.now c.if-paths-lt2.true

-- the bounds of paths that are kept
put : (p q : Paths) → q ≡ p → keep_events p ≡ true → (out out' : BoundArrays) (m : ℕ) → m ≡ length (bounds_of q) → Puts out out' (bounds_of q)
    → record { answer : m ≡ length (bounds_kept p); left : Puts out out' (bounds_kept p) }
put p q same keeps out out' m em e =
    orders_fit p.carts p.steps p.cells.now out keeps m out' (em ∙ ap (λ (x : Paths). length (bounds_of x)) same) (subst (λ (x : Paths). Puts out out' (bounds_of x)) same e)

pub returns-in-Some : goal.returns-in-Some
returns-in-Some c =
    let (same, keeps) = c.in-Some.ensures in
    let e = c.put_all.ensures in
    put c.args.paths c.in-Some.kept.grid.paths same keeps c.args.out.now c.put_all.new.out c.put_all.result e.value e.put

pub returns-in-Some-2 : goal.returns-in-Some-2
returns-in-Some-2 c =
    let (same, keeps) = c.in-Some.ensures in
    let e = c.put_all-in-Some-2.ensures in
    put c.args.paths c.in-Some.kept.grid.paths same keeps c.args.out.now c.put_all-in-Some-2.new.out c.put_all-in-Some-2.result e.value e.put

pub returns-in-None : goal.returns-in-None
returns-in-None c = let p = c.args.paths in orders_over p.carts p.steps p.cells.now c.args.out.now c.in-None.ensures

-- `hegtalim::judge_tables` meets its contract. Assumes nothing.
use Rattle.std.specs.Prelude.{Err}
use Rattle.std.proofs.Common.{rules}
use mathlib.Core.Path.{◌≡◌, refl, ap, sym, ◌∙◌}
use Rattle.tables.specs.declared.ReadError.{ReadError}
use Prim.Native.Nat.{ℕ}
use mathlib.Core.List.{List}
use lib.Dec.{lit≤}
use Rattle.limits.specs.Limits.{paths_within}
use Rattle.hegtalim.proofs.Loading.{judged_error, judged_held, judged_over}
use Rattle.hegtalim.proofs.judge_tables.Goals as goal

-- the same paths
same : {n m w k : ℕ} {s t : List ℕ} → n ≡ m → w ≡ k → s ≡ t → paths_within n w s ≡ paths_within m k t
same e f g = rw (e, f, g) refl

pub returns-in_err-size : goal.returns-in_err-size
returns-in_err-size c =
    let e : c.from_residual.result ≡ Err c.in_err-size.field-0.0 = search rules in
    e ∙ judged_error _ _ (sym c.in_err-size.was ∙ c.read_cells.ensures.answer)

pub returns-then-within_limits : goal.returns-then-within_limits
returns-then-within_limits c =
    judged_held _ _ (sym c.in_ok-size.was ∙ c.read_cells.ensures.answer) 8192 (lit≤ tt) _ c.read_cells.ensures.left _ (c.within_limits.ensures ∙ same c.paths.ensures.carts c.paths.ensures.steps c.paths.ensures.cells) c.if-within_limits.true

pub returns : goal.returns
returns c =
    ap (λ r. Err (ReadError.Refused r)) c.refuses.ensures ∙ judged_over _ _ (sym c.in_ok-size.was ∙ c.read_cells.ensures.answer) 8192 (lit≤ tt) _ c.read_cells.ensures.left _ (c.within_limits.ensures ∙ same c.paths.ensures.carts c.paths.ensures.steps c.paths.ensures.cells) c.if-within_limits.false

-- `slice::accepts_log` meets its contract: the limits are passed, or the log is looked at. Assumes nothing.
use Rattle.std.proofs.Common.{◌≡◌, ◌∙◌, ◌&&◌, Bool, List, ℕ, ap, ap₂, sym, take, drop}
use Rattle.collisions.specs.declared.Paths.{Paths}
use Rattle.limits.specs.Limits.{paths_within}
use Rattle.book.specs.Log.{log_book, is_book}
use Rattle.slice.specs.HeldPlan.{log_kept}
use Rattle.slice.proofs.accepts_log.Goals as goal

-- what is said of paths is said of their numbers
numbers : (x : Paths) (n w : ℕ) (s : List ℕ) → x.cells.now ≡ s → x.carts ≡ n → x.steps ≡ w → (f : ℕ → ℕ → List ℕ → Bool) → f x.carts x.steps x.cells.now ≡ f n w s
numbers x n w s a b c f = ap₂ (λ (i j : ℕ). f i j x.cells.now) b c ∙ ap (f n w) a

pub returns-then-within_limits : goal.returns-then-within_limits
unfolding log_kept
returns-then-within_limits c =
    let n = c.args.read in
    let e = c.paths-paths.ensures in
    let l : List ℕ = take n.reports (drop 196_608 c.args.plan.now) in
    let d : List ℕ = drop 200_704 c.args.plan.now in
    let p = c.paths-paths.result in
    c.accepts.ensures
    ∙ ap₂ {C = Bool} (λ (x y : List ℕ). is_book (log_book p.carts p.steps p.cells.now x y)) c.log.ensures.carts c.log.ensures.times
    ∙ sym (ap (λ (t : Bool). t && is_book (log_book p.carts p.steps p.cells.now l d)) (sym c.within_limits.ensures ∙ c.if-within_limits.true))
    ∙ numbers p _ _ _ e.cells e.carts e.steps (λ (i j : ℕ) (x : List ℕ). paths_within i j x && is_book (log_book i j x l d))

pub returns-else-within_limits : goal.returns-else-within_limits
unfolding log_kept
returns-else-within_limits c =
    let n = c.args.read in
    let e = c.paths-paths.ensures in
    let l : List ℕ = take n.reports (drop 196_608 c.args.plan.now) in
    let d : List ℕ = drop 200_704 c.args.plan.now in
    let p = c.paths-paths.result in
    c.if-within_limits.false
    ∙ sym (ap (λ (t : Bool). t && is_book (log_book p.carts p.steps p.cells.now l d)) (sym c.within_limits.ensures ∙ c.if-within_limits.false))
    ∙ numbers p _ _ _ e.cells e.carts e.steps (λ (i j : ℕ) (x : List ℕ). paths_within i j x && is_book (log_book i j x l d))

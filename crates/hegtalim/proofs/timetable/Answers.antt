-- `hegtalim::timetable` meets its contract: a slice is too short, or another that is lent, or the plan is timed. Assumes nothing.
use Rattle.std.specs.Prelude.{◌≤◌, None, Err, Result, List, length}
use Rattle.std.proofs.Common.{rules}
use Prim.Native.Nat.{ℕ}
use mathlib.Core.Path.{◌≡◌, sym, subst, ◌∙◌}
use Rattle.passes.specs.Lending.{lent_of}
use Rattle.hegtalim.specs.declared.TimeError.{TimeError}
use Rattle.slice.specs.PlanSlice.{plan_need}
use Rattle.hegtalim.proofs.TimedPlans.{plan_short, lent_short}
use Rattle.hegtalim.proofs.timetable.Goals as goal

pub returns-in_err-plan-clause-timed : goal.returns-in_err-plan-clause-timed
returns-in_err-plan-clause-timed c =
    let none : c.new.result ≡ None = search rules in
    let e : ◌≡◌ {A = Result ℕ TimeError} c.from_residual.result (Err TimeError.TooShort) = search rules in
    rw e (plan_short c.args.plan.now (lent_of c.args.lent.now) (c.new.ensures.short none))

pub returns-then-not-is_long_enough-clause-timed : goal.returns-then-not-is_long_enough-clause-timed
returns-then-not-is_long_enough-clause-timed c =
    let same : c.in_ok-plan.plan.bytes.now ≡ c.args.plan.now = search rules in
    lent_short _ _ (subst (λ (s : List ℕ). plan_need ≤ length s) same c.in_ok-plan.plan.long) (sym c.is_long_enough.ensures ∙ c.if-not-is_long_enough.true)

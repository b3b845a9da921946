-- `bounds::write_held` meets its contract: the slice is too short, no plan is held and the arrays are cleared, or its bounds are written. Assumes nothing.
use Rattle.std.proofs.Common.{rules, ◌≡◌, None, Err, ◌∙◌, sym}
use Rattle.std.specs.Prelude.{Result}
use Rattle.slice.specs.declared.HoldError.{HoldError}
use Rattle.bounds.specs.declared.Bounding.{Bounding}
use Rattle.bounds.proofs.Outcome.{short_plan, cleared_plan, written_plan}
use Rattle.bounds.proofs.write_held.Goals as goal
use Rattle.bounds.proofs.write_held.Goals.{In_ok-plan}

pub returns-in_err-plan : goal.returns-in_err-plan
returns-in_err-plan c =
    let none : c.new.result ≡ None = search rules in
    let is : ◌≡◌ {A = Result Bounding HoldError} c.from_residual.result (Err HoldError.TooShort) = search rules in
    let e = short_plan c.args.plan.now c.args.ends.now c.args.ranges.now (c.new.ensures.short none) in record { answer = is ∙ e.answer; left = e.left; left_ranges = e.left_ranges }

-- the slice that is long enough
same : (c : In_ok-plan) → c.in_ok-plan.plan.bytes.now ≡ c.args.plan.now
same c = c.new.ensures.there c.in_ok-plan.plan (search rules)

pub returns-then-is_err : goal.returns-then-is_err
returns-then-is_err c =
    let p = c.in_ok-plan.plan in
    rw (← same (goal.at.returns-then-is_err c).In_ok-plan) (cleared_plan p.bytes.now p.long c.write_laid-x.result _ _ c.write_laid-x.new.ends c.write_laid-x.new.ranges c.write_laid-x.ensures.answer c.write_laid-x.ensures.left
    (sym c.is_err.ensures.value ∙ c.if-is_err.true) _ _ _ _ (search rules) (search rules) (c.fill.ensures.after (λ y e. e)) (c.fill-then-is_err.ensures.after (λ y e. e)))

pub returns-else-is_err : goal.returns-else-is_err
returns-else-is_err c =
    let p = c.in_ok-plan.plan in
    rw (← same (goal.at.returns-else-is_err c).In_ok-plan) (written_plan p.bytes.now p.long c.write_laid-x.result _ _ c.write_laid-x.new.ends c.write_laid-x.new.ranges c.write_laid-x.ensures.answer c.write_laid-x.ensures.left
    (sym c.is_err.ensures.value ∙ c.if-is_err.false) _ _ (search rules) (search rules))

-- `hegtalim::time_in` meets its contract: no plan is held, there is no room, or times or a chain are found. Assumes nothing.
use Rattle.std.specs.Prelude.{Some, Err}
use Rattle.std.proofs.Common.{rules}
use mathlib.Core.Path.{◌≡◌, ap, sym, subst, ◌∙◌}
use Rattle.schedule.specs.Lent.{Lent}
use Rattle.passes.specs.Lending.{lent_of}
use Rattle.hegtalim.specs.Errors.{not_timed}
use Rattle.hegtalim.specs.Answers.{Timed}
use Rattle.hegtalim.specs.Outcomes.{Timetabled}
use Rattle.hegtalim.specs.Working.{done}
use Rattle.hegtalim.proofs.Timing.{told}
use Rattle.hegtalim.proofs.TimedPlans.{needs_there, lent_short, none_held, found}
use Rattle.hegtalim.proofs.time_in.Goals as goal

pub returns-then-not-is_long_enough-clause-worked : goal.returns-then-not-is_long_enough-clause-worked
returns-then-not-is_long_enough-clause-worked c = done _ _ (lent_short _ _ c.args.plan.long (sym c.is_long_enough.ensures ∙ c.if-not-is_long_enough.true))

pub returns-in_err-n-clause-worked : goal.returns-in_err-n-clause-worked
returns-in_err-n-clause-worked c =
    let a = c.args in
    let l : Lent = lent_of a.lent.now in
    let e : c.from_residual.result ≡ Err (not_timed c.in_err-n.field-0.0) = search rules in
    done _ _ (subst (λ (x : Timed). Timetabled a.plan.bytes.now l x l) (sym e)
    (none_held a.plan.bytes.now l (needs_there a.plan.bytes.now l c.args.plan.long (sym c.is_long_enough.ensures ∙ c.if-not-is_long_enough.false)) c.write_held.result c.write_held.ensures.answer _ c.in_err-n.was))

-- what is found of the bounds that were written
pub returns-in-None-clause-worked : goal.returns-in-None-clause-worked
returns-in-None-clause-worked c =
    let a = c.args in
    let l : Lent = lent_of a.lent.now in
    found a.plan.bytes.now l (needs_there a.plan.bytes.now l c.args.plan.long (sym c.is_long_enough.ensures ∙ c.if-not-is_long_enough.false)) c.write_held.result c.write_held.ensures.answer _ _ _ _ c.write_held.ensures.left c.write_held.ensures.left_ranges _ c.in_ok-n.was
    c.solve.result _ c.solve.ensures.solving _ (ap told c.in-None.is)

pub returns-in-Some-Times-clause-worked : goal.returns-in-Some-Times-clause-worked
returns-in-Some-Times-clause-worked c =
    let a = c.args in
    let l : Lent = lent_of a.lent.now in
    let at = c.in-Some-Times in
    found a.plan.bytes.now l (needs_there a.plan.bytes.now l c.args.plan.long (sym c.is_long_enough.ensures ∙ c.if-not-is_long_enough.false)) c.write_held.result c.write_held.ensures.answer _ _ _ _ c.write_held.ensures.left c.write_held.ensures.left_ranges _ c.in_ok-n.was
    c.solve.result _ c.solve.ensures.solving _ (ap told (at.is ∙ ap Some at.field-0-is))

pub returns-in-Some-Cycle-clause-worked : goal.returns-in-Some-Cycle-clause-worked
returns-in-Some-Cycle-clause-worked c =
    let a = c.args in
    let l : Lent = lent_of a.lent.now in
    let at = c.in-Some-Cycle in
    found a.plan.bytes.now l (needs_there a.plan.bytes.now l c.args.plan.long (sym c.is_long_enough.ensures ∙ c.if-not-is_long_enough.false)) c.write_held.result c.write_held.ensures.answer _ _ _ _ c.write_held.ensures.left c.write_held.ensures.left_ranges _ c.in_ok-n.was
    c.solve.result _ c.solve.ensures.solving _ (ap told (at.is ∙ ap Some at.field-0-is))

-- `hegtalim::report` meets its contract: the slice is too short, holds no plan, or its book answers. Assumes nothing.
use Rattle.std.specs.Prelude.{Err}
use Rattle.std.proofs.Common.{rules}
use Rattle.std.proofs.lemmas.Result.{err_from_is_err_and}
use mathlib.Core.Path.{◌≡◌, ap, ◌∙◌}
use Rattle.tables.specs.Lending.{arrays_of}
use Rattle.hegtalim.specs.Errors.{not_held}
use Rattle.hegtalim.proofs.Reporting.{none_held, turned_down, taken}
use Rattle.hegtalim.proofs.report.Goals as goal

pub returns-in_err-held : goal.returns-in_err-held
returns-in_err-held c =
    let a = c.args in
    let e : c.from_residual.result ≡ Err (not_held c.in_err-held.field-0.0) = search rules in
    let (x, y) = none_held a.plan.now a.cart a.time c.read_plan.result c.read_plan.ensures.answer _ c.in_err-held.was in
    record { answer = e ∙ x; left = y }

pub returns-in_err-check_report : goal.returns-in_err-check_report
returns-in_err-check_report c =
    let a = c.args in
    let at = arrays_of c.read_plan.new.arrays in
    let (_, e, k) = err_from_is_err_and c.from_residual-in_err-check_report.result c.from_residual-in_err-check_report.ensures.1 in
    let (x, y) = turned_down a.plan.now a.cart a.time c.read_plan.result c.read_plan.ensures.answer at c.read_plan.ensures.left _ c.in_ok-held.was
    _ _ c.log.ensures.carts c.log.ensures.times c.paths-paths.result (c.paths-paths.ensures.cells ∙ search rules) c.paths-paths.ensures.carts c.paths-paths.ensures.steps _ c.check_report.ensures _ c.in_err-check_report.was in
    record { answer = e ∙ ap Err k ∙ x; left = y }

pub returns : goal.returns
returns c =
    let a = c.args in
    let at = arrays_of c.read_plan.new.arrays in
    let (x, y) = taken a.plan.now a.cart a.time c.read_plan.result c.read_plan.ensures.answer at c.read_plan.ensures.left _ c.in_ok-held.was
    _ _ c.log.ensures.carts c.log.ensures.times c.paths-paths.result (c.paths-paths.ensures.cells ∙ search rules) c.paths-paths.ensures.carts c.paths-paths.ensures.steps _ c.check_report.ensures c.in_ok-check_report.was _ c.put_entry.ensures in
    record { answer = x; left = y }

-- `book::check_report` meets its contract: there is no book, or its counts and its clock say it. Assumes nothing.
use mathlib.Core.Path.{◌∙◌}
use Rattle.schedule.specs.Book.{◌at◌}
use Rattle.limits.specs.OfPaths.{plan_of}
use Rattle.book.proofs.Fitting.{none_checked, book_checked}
use Rattle.book.proofs.check_report.Goals as goal

pub returns-in_default : goal.returns-in_default
returns-in_default c = let a = c.args in none_checked (plan_of a.paths) _ (a.cart at a.time) c.in_default.ensures

pub returns : goal.returns
returns c =
    let a = c.args in
    let m = c.in-Some.marker in
    c.check.ensures ∙ book_checked a.paths a.log m.carts m.firsts m.counts m.clock c.in-Some.ensures a.cart a.time

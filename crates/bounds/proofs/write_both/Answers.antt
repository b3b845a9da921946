-- `bounds::write_both` meets its contract: the plan's own bounds are written, and behind them those that its log adds. Assumes nothing.
use Rattle.std.proofs.Common.{◌≡◌, ◌∙◌, ap₂, List, ℕ}
use Rattle.book.specs.Log.{log_book, book_of}
use Rattle.slice.specs.HeldPlan.{log_of}
use Rattle.bounds.proofs.Written.{own_unfit, rest_few, rest_written}
use Rattle.bounds.proofs.write_both.Goals as goal
use Rattle.bounds.proofs.write_both.Goals.{After-log}

-- the book of the log in the slice
book_is : (c : After-log) → book_of c.args.numbers.now.paths c.log.result ≡ log_of c.args.plan.now c.args.reports c.args.numbers.now.paths
unfolding log_of
book_is c =
    let p = c.args.numbers.now.paths in
    ap₂ (λ (x y : List ℕ). log_book p.carts p.steps p.cells.now x y) c.log.ensures.carts c.log.ensures.times

pub write_rest-requires : goal.write_rest-requires
write_rest-requires c =
    let a = c.args in
    rw (book_is (goal.at.write_rest-requires c).After-log)
    (rest_few a.plan.now a.numbers.now a.reports c.requires c.write_bounds.result a.out.now c.write_bounds.new.out c.write_bounds.ensures.answer c.write_bounds.ensures.left c.in_ok-own.own c.in_ok-own.was)

pub returns-in_err-own : goal.returns-in_err-own
returns-in_err-own c =
    let a = c.args in
    let (x, y) = own_unfit a.plan.now a.numbers.now a.reports c.requires c.write_bounds.result a.out.now c.write_bounds.new.out c.write_bounds.ensures.answer c.write_bounds.ensures.left c.in_err-own.was in
    record { answer = c.from_residual.ensures ∙ x; left = y }

pub returns : goal.returns
returns c =
    let a = c.args in
    let b = book_is (goal.at.returns c).After-log in
    let e = c.write_rest.ensures in
    let (x, y) = rest_written a.plan.now a.numbers.now a.reports c.requires c.write_bounds.result a.out.now c.write_bounds.new.out c.write_bounds.ensures.answer c.write_bounds.ensures.left c.in_ok-own.own c.in_ok-own.was
    c.write_rest.result c.write_rest.new.out (rw (← b) e.answer) (rw (← b) e.left) in
    record { answer = x; left = y }

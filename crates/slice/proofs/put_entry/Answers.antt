-- `slice::put_entry` meets its contract: there is no room for the entry, or it is stored. Assumes nothing.
use Rattle.schedule.specs.Book.{◌at◌}
use Rattle.slice.proofs.Entries.{entry_short, entry_past, entry_put}
use Rattle.slice.proofs.put_entry.Goals as goal

pub returns-then-plan-lt-PLAN_BYTES : goal.returns-then-plan-lt-PLAN_BYTES
returns-then-plan-lt-PLAN_BYTES c = let a = c.args in entry_short a.plan.now a.n (a.cart at a.time) c.if-plan-lt-PLAN_BYTES.true

pub returns-then-n-ge-MOST_REPORTS : goal.returns-then-n-ge-MOST_REPORTS
returns-then-n-ge-MOST_REPORTS c = let a = c.args in entry_past a.plan.now a.n (a.cart at a.time) c.if-n-ge-MOST_REPORTS.true

pub returns : goal.returns
returns c =
    let a = c.args in
    entry_put a.plan.now _ a.n (a.cart at a.time) c.if-plan-lt-PLAN_BYTES.false c.if-n-ge-MOST_REPORTS.false c.put.ensures

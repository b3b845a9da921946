-- `slice::read_found` meets its contract: the slice is laid out otherwise and gives no plan, or its parts are read. Assumes nothing.
use Rattle.std.proofs.Common.{rules, ◌≡◌, ◌∙◌, None, Err}
use Rattle.tables.proofs.TablesRead.{same_self}
use Rattle.slice.specs.declared.HoldError.{HoldError}
use Rattle.slice.specs.Holding.{layout, Answer}
use Rattle.slice.proofs.Holds.{broken_laid}
use Rattle.slice.proofs.Indexing.{index_unread}
use Rattle.slice.proofs.read_found.Goals as goal

pub returns-in_err-layout : goal.returns-in_err-layout
returns-in_err-layout c =
    let none : None ≡ layout c.args.plan.bytes.now = search rules in
    let is : ◌≡◌ {A = Answer} c.from_residual.result (Err HoldError.NoPlan) = search rules in
    let (x, y) = broken_laid c.args.plan.bytes.now _ _ none in
    record { answer = is ∙ x; left = y; same = same_self _; index = rw is (index_unread _ _ _) }

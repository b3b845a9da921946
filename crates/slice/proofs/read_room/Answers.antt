-- `slice::read_room` meets its contract, on all input. Assumes nothing.
use Rattle.std.proofs.Common.{rules, ◌≡◌, ◌∙◌, None, Err, sym, true, ◌&&◌, length}
use mathlib.Core.Logic.{inl, inr}
use lib.Dec.{leb}
use Rattle.tables.specs.Lending.{arrays_of}
use Rattle.tables.specs.Reading.{room}
use Rattle.tables.proofs.TablesRead.{same_self, same_on, zeros_as}
use Rattle.slice.specs.declared.HoldError.{HoldError}
use Rattle.slice.specs.Holding.{Answer}
use Rattle.slice.proofs.Holds.{either_short, all_long, an_error, an_answer, laid_none, laid_there}
use Rattle.slice.proofs.Indexing.{index_unread, index_none}
use Rattle.slice.proofs.read_room.Goals as goal
use Rattle.slice.proofs.read_room.Goals.{In_ok-plan, After-read_found-found}

pub returns-in_err-plan : goal.returns-in_err-plan
returns-in_err-plan c =
    let none : c.new.result ≡ None = search rules in
    let is : ◌≡◌ {A = Answer} c.from_residual.result (Err HoldError.TooShort) = search rules in
    let (x, y) = either_short c.args.plan.now (arrays_of c.args.arrays.now) (inl (c.new.ensures.short none)) in
    record { answer = is ∙ x; left = y; same = same_self _; index = rw is (index_unread _ _ _) }

pub returns-then-not-has_room : goal.returns-then-not-has_room
returns-then-not-has_room c =
    let (x, y) = either_short c.args.plan.now (arrays_of c.args.arrays.now) (inr (sym c.has_room.ensures ∙ c.if-not-has_room.true)) in
    record { answer = x; left = y; same = same_self _; index = index_unread _ _ _ }

-- the slice that is long enough
same : (c : In_ok-plan) → c.in_ok-plan.plan.bytes.now ≡ c.args.plan.now
same c = c.new.ensures.there c.in_ok-plan.plan (search rules)

-- there is room
has : (o : After-read_found-found) → (leb 233_472 (length o.in_ok-plan.plan.bytes.now) && room (arrays_of o.args.arrays.now)) ≡ true
has o = all_long o.in_ok-plan.plan.bytes.now (arrays_of o.args.arrays.now) o.in_ok-plan.plan.long (sym o.has_room.ensures ∙ o.if-not-has_room.false)

pub returns-then-is_err : goal.returns-then-is_err
returns-then-is_err c =
    let r = c.read_found-found.ensures in
    let (why, q) = an_error c.read_found-found.result _ c.is_err.ensures.value c.if-is_err.true in
    let (x, y) = laid_none c.in_ok-plan.plan.bytes.now (arrays_of c.args.arrays.now) (has (goal.at.returns-then-is_err c).After-read_found-found) _ why r.answer q _
    (c.clear.ensures.left ∙ zeros_as _ _ r.same.as_long) in
    rw (← same (goal.at.returns-then-is_err c).In_ok-plan) (record { answer = x; left = y; same = same_on _ _ _ r.same c.clear.ensures.same; index = index_none _ why _ _ _ _ q r.index })

pub returns-else-is_err : goal.returns-else-is_err
returns-else-is_err c =
    let r = c.read_found-found.ensures in
    let (n, q) = an_answer c.read_found-found.result _ c.is_err.ensures.value c.if-is_err.false in
    let (x, y) = laid_there c.in_ok-plan.plan.bytes.now (arrays_of c.args.arrays.now) (has (goal.at.returns-else-is_err c).After-read_found-found) _ _ (r.answer, r.left) n q in
    rw (← same (goal.at.returns-else-is_err c).In_ok-plan) (record { answer = x; left = y; same = r.same; index = r.index })

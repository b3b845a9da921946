-- `slice::read_plan` meets its contract, on all input: what is laid out is not there, passes the limits, has a log that is refused, or is held. Assumes nothing.
use Rattle.std.proofs.Common.{rules, ◌≡◌, ◌∙◌, Err}
use Rattle.tables.specs.Lending.{arrays_of}
use Rattle.slice.specs.Holding.{Answer}
use Rattle.slice.proofs.Holds.{plan_unread, plan_held, plan_not_held}
use Rattle.tables.proofs.TablesRead.{same_on, zeros_as}
use Rattle.slice.proofs.read_plan.Goals as goal

pub returns-then-accepts_log : goal.returns-then-accepts_log
returns-then-accepts_log c =
    let r = c.read_room.ensures in
    let (x, y) = plan_held c.args.plan.now (arrays_of c.args.arrays.now) _ _ (r.answer, r.left) _ c.in_ok-h.was _ c.accepts_log.ensures c.if-accepts_log.true in
    record { answer = x; left = y; same = r.same }

pub returns-in_err-h : goal.returns-in_err-h
returns-in_err-h c =
    let r = c.read_room.ensures in
    let is : ◌≡◌ {A = Answer} c.from_residual.result (Err c.in_err-h.field-0.0) = search rules in
    let (x, y) = plan_unread c.args.plan.now (arrays_of c.args.arrays.now) _ _ (r.answer, r.left) _ c.in_err-h.was in
    record { answer = is ∙ x; left = y; same = r.same }

pub returns : goal.returns
returns c =
    let r = c.read_room.ensures in
    let (x, y) = plan_not_held c.args.plan.now (arrays_of c.args.arrays.now) _ _ (r.answer, r.left) _ c.in_ok-h.was _ c.accepts_log.ensures c.if-accepts_log.false _
    (c.clear.ensures.left ∙ zeros_as _ _ r.same.as_long) in
    record { answer = x; left = y; same = same_on _ _ _ r.same c.clear.ensures.same }

-- `tables::carts::read_table` meets its contract, case by case. Assumes nothing.
use native.Mathlib.Omega.{arith}
use Rattle.std.proofs.Common.{rules, Err}
use mathlib.Core.Path.{◌≡◌, ap, ◌∙◌, sym}
use Rattle.rfc4180.specs.Text.{bytes}
use Rattle.rfc4180.specs.Records.{records}
use Rattle.tables.specs.Reading.{BeginsWith}
use Rattle.tables.proofs.CartRecords.{read_over, read_other, read_none, read_some, read_refused}
use mathlib.Core.Bool.{not}
use Rattle.tables.proofs.carts.read_table.Goals as goal
use Rattle.tables.proofs.carts.read_table.Goals.{After-begins_with}

-- what the first line says
line : (c : After-begins_with) → BeginsWith (bytes "fastest,slowest") (records c.args.table.now) c.begins_with.result (records c.begins_with.new.rows.rest.now)
unfolding bytes
line c = c.begins_with.ensures

pub returns-then-table-gt65536 : goal.returns-then-table-gt65536
returns-then-table-gt65536 c =
    let a = c.args in
    let (the-answer, the-left) = read_over a.table.now _ _ (omega (arith, c.if-table-gt65536.true)) in
    record { answer = ap Err c.refuses.ensures ∙ the-answer; left = the-left }

pub returns-then-not-begins_with : goal.returns-then-not-begins_with
returns-then-not-begins_with c =
    let (the-answer, the-left) = read_other c.args.table.now _ _ c.if-table-gt65536.false _ _ (line (goal.at.returns-then-not-begins_with c).After-begins_with) (ap not c.if-not-begins_with.true) in
    record { answer = ap Err c.refuses-then-not-begins_with.ensures ∙ the-answer; left = the-left }

pub returns-then-n-eq0 : goal.returns-then-n-eq0
returns-then-n-eq0 c =
    let (the-answer, the-left) = read_none c.args.table.now _ _ c.if-table-gt65536.false _ _ (line (goal.at.returns-then-n-eq0 c).After-begins_with) (ap not c.if-not-begins_with.false) (c.carts_from.ensures.answer, c.carts_from.ensures.left) _ c.in_ok-n.was c.if-n-eq0.true in
    record { answer = ap Err c.refuses-then-n-eq0.ensures ∙ the-answer; left = the-left }

pub returns : goal.returns
returns c =
    let (the-answer, the-left) = read_some c.args.table.now _ _ c.if-table-gt65536.false _ _ (line (goal.at.returns c).After-begins_with) (ap not c.if-not-begins_with.false) (c.carts_from.ensures.answer, c.carts_from.ensures.left) _ c.in_ok-n.was c.if-n-eq0.false in
    record { answer = the-answer; left = the-left }

pub returns-in_err-n : goal.returns-in_err-n
returns-in_err-n c =
    let (the-answer, the-left) = read_refused c.args.table.now _ _ c.if-table-gt65536.false _ _ (line (goal.at.returns-in_err-n c).After-begins_with) (ap not c.if-not-begins_with.false) (c.carts_from.ensures.answer, c.carts_from.ensures.left) _ c.in_err-n.was in
    let e : c.from_residual.result ≡ Err c.in_err-n.field-0.0 = search rules in
    record { answer = e ∙ sym c.in_err-n.was ∙ the-answer; left = the-left }

-- `tables::paths::read_table` meets its contract. Assumes nothing.
use Rattle.std.proofs.Common.{rules, Err, ◌≡◌, ◌∙◌, sym, ap}
use Rattle.tables.proofs.PathTurns.{table_long, table_other, table_all, table_refused}
use Rattle.tables.proofs.paths.read_table.Goals as goal

pub returns-then-table-gt65536 : goal.returns-then-table-gt65536
returns-then-table-gt65536 c =
    let (the-answer, the-left) = table_long _ _ _ _ c.if-table-gt65536.true in
    record { answer = ap Err c.refuses.ensures ∙ the-answer; left = the-left }

pub returns-then-n-carts : goal.returns-then-n-carts
returns-then-n-carts c =
    let (the-answer, the-left) = table_other _ _ _ _ c.if-table-gt65536.false _ (c.paths_from.ensures.answer, c.paths_from.ensures.left) _ _ c.in_ok-n.was c.if-n-carts.true in
    record { answer = ap Err c.refuses-then-n-carts.ensures ∙ the-answer; left = the-left }

pub returns : goal.returns
returns c =
    let (the-answer, the-left) = table_all _ _ _ _ c.if-table-gt65536.false _ (c.paths_from.ensures.answer, c.paths_from.ensures.left) _ _ c.in_ok-n.was c.if-n-carts.false in
    record { answer = the-answer; left = the-left }

pub returns-in_err-n : goal.returns-in_err-n
returns-in_err-n c =
    let (the-answer, the-left) = table_refused _ _ _ _ c.if-table-gt65536.false _ (c.paths_from.ensures.answer, c.paths_from.ensures.left) _ c.in_err-n.was in
    let e : c.from_residual.result ≡ Err c.in_err-n.field-0.0 = search rules in
    record { answer = e ∙ sym c.in_err-n.was ∙ the-answer; left = the-left }

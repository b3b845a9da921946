-- `tables::carts::read_speeds` meets its contract, case by case. Assumes nothing.
use native.Mathlib.Omega.{arith}
use Rattle.std.proofs.Common.{rules}
use mathlib.Core.Path.{◌∙◌}
use Rattle.tables.proofs.CartRecords.{speeds_one, speeds_many, speeds_none, speeds_alone, speeds_half, speeds_both}
use Rattle.tables.proofs.carts.read_speeds.Goals as goal

pub returns-then-row-a : goal.returns-then-row-a
returns-then-row-a c = speeds_one _ _ c.field-first.ensures c.if-row-a.true

pub returns-then-a-second : goal.returns-then-a-second
returns-then-a-second c =
    speeds_many _ _ c.field-first.ensures _ c.field-second.ensures c.if-row-a.false (omega (arith, c.if-a-second.true))

pub returns-in_err-fastest : goal.returns-in_err-fastest
returns-in_err-fastest c =
    c.from_residual.ensures ∙ speeds_none _ _ c.field-first.ensures _ c.field-second.ensures c.if-row-a.false c.if-a-second.false
    c.in_err-fastest.ensures

pub returns-then-is_empty : goal.returns-then-is_empty
returns-then-is_empty c =
    speeds_alone _ _ c.field-first.ensures _ c.field-second.ensures c.if-row-a.false c.if-a-second.false
    _ c.in_ok-fastest.ensures (search rules)

pub returns-in_err-slowest : goal.returns-in_err-slowest
returns-in_err-slowest c =
    c.from_residual-in_err-slowest.ensures ∙ speeds_half _ _ c.field-first.ensures _ c.field-second.ensures c.if-row-a.false c.if-a-second.false
    _ c.in_ok-fastest.ensures (search rules) c.in_err-slowest.ensures

pub returns : goal.returns
returns c =
    speeds_both _ _ c.field-first.ensures _ c.field-second.ensures c.if-row-a.false c.if-a-second.false
    _ c.in_ok-fastest.ensures (search rules) _ c.in_ok-slowest.ensures

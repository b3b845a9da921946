-- `hegtalim::load` meets its contract, on all input. Assumes nothing.
use Rattle.std.specs.Prelude.{Err}
use Rattle.std.proofs.Common.{rules}
use Prim.Native.Nat.{ℕ}
use mathlib.Core.Path.{◌≡◌, ap, sym, ◌∙◌}
use mathlib.Core.List.{[]}
use lib.ListN.{length, replicate, length-replicate}
use Rattle.floor.specs.Tables.{Tables}
use Rattle.tables.specs.Lending.{tables_of}
use Rattle.slice.specs.PlanSlice.{plan_slice}
use Rattle.slice.proofs.Slice.{judged_fit}
use Rattle.hegtalim.proofs.Loading.{held_said, loads_short, loads_error, loads_held}
use Rattle.hegtalim.proofs.load.Goals as goal

pub returns-then-plan-lt-PLAN_BYTES : goal.returns-then-plan-lt-PLAN_BYTES
returns-then-plan-lt-PLAN_BYTES c =
    let a = c.args in
    let (the-answer, the-left) = loads_short (tables_of a.tables) a.plan.now c.if-plan-lt-PLAN_BYTES.true in
    record { answer = the-answer; left = the-left }

pub returns-in_err-judge_tables : goal.returns-in_err-judge_tables
returns-in_err-judge_tables c =
    let a = c.args in
    let zeros : c.fill.new.self ≡ replicate (length a.plan.now) 0 = search rules in
    let e : c.from_residual.result ≡ Err c.in_err-judge_tables.field-0.0 = search rules in
    let (the-answer, the-left) = loads_error (tables_of a.tables) a.plan.now c.if-plan-lt-PLAN_BYTES.false _ (sym c.in_err-judge_tables.was ∙ c.judge_tables.ensures) _ zeros in
    record { answer = e ∙ the-answer; left = the-left }

pub store_tables-requires-clause-roads_len_bound : goal.store_tables-requires-clause-roads_len_bound
store_tables-requires-clause-roads_len_bound c =
    let (p, e) = held_said (tables_of c.args.tables) (sym c.in_ok-judge_tables.was ∙ c.judge_tables.ensures) in
    let fit = judged_fit _ p e in
    (fit.roads_short, fit.carts_short, fit.paths_short)

pub returns : goal.returns
returns c =
    let a = c.args in
    let ts : Tables = tables_of a.tables in
    let zeros : c.fill.new.self ≡ replicate (length a.plan.now) 0 = search rules in
    let long : length c.fill.new.self ≡ length a.plan.now = ap length zeros ∙ length-replicate (length a.plan.now) 0 in
    let (the-answer, the-left) = loads_held ts a.plan.now c.if-plan-lt-PLAN_BYTES.false (sym c.in_ok-judge_tables.was ∙ c.judge_tables.ensures) _ (c.store_tables.ensures ∙ ap (λ (n : ℕ). plan_slice n ts []) long) in
    record { answer = the-answer; left = the-left }

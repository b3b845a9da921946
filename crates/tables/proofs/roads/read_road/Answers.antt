-- `tables::roads::read_road` meets its contract, case by case. Assumes nothing.
use Rattle.std.proofs.Common.{rules, ◌≡◌, ◌∙◌, Some, None, Err, option_map}
use Rattle.std.specs.Prelude.{Result}
use Rattle.floor.specs.declared.Reason.{Reason}
use Rattle.floor.specs.declared.Reason.TheVariants.{Layout}
use Rattle.floor.specs.declared.Road.{Road}
use Rattle.rfc4180.specs.Records.{fields}
use Rattle.rfc4180.specs.Number.{numbers}
use Rattle.rfc4180.specs.Answers.{counted}
use Rattle.rfc4180.proofs.Reading.{answered_none}
use Rattle.tables.proofs.RoadRecords.{read_malformed, read_other, read_out, read_in}
use mathlib.Core.Bool.{not}
use mathlib.Core.Path.{ap}
use Rattle.tables.proofs.roads.read_road.Goals as goal
use Rattle.tables.proofs.roads.read_road.Goals.{In_ok-numbers}

-- the numbers that the record has
there : (c : In_ok-numbers) → Some c.in_ok-numbers.numbers ≡ option_map counted (numbers (fields c.args.row.now))
there c = search rules

pub returns-in_err-numbers : goal.returns-in_err-numbers
returns-in_err-numbers c =
    let none : None ≡ option_map counted (numbers (fields c.args.row.now)) = search rules in
    let is : ◌≡◌ {A = Result Road Reason} c.from_residual.result (Err Layout) = search rules in
    is ∙ read_malformed _ (answered_none _ none)

pub returns-then-numbers-ne4 : goal.returns-then-numbers-ne4
returns-then-numbers-ne4 c =
    read_other _ _ _ _ (there (goal.at.returns-then-numbers-ne4 c).In_ok-numbers) c.read_numbers.ensures.left c.if-numbers-ne4.true

pub returns-then-not-in_ranges : goal.returns-then-not-in_ranges
returns-then-not-in_ranges c =
    read_out _ _ _ _ (there (goal.at.returns-then-not-in_ranges c).In_ok-numbers) c.read_numbers.ensures.left c.if-numbers-ne4.false c.in_ranges.ensures (ap not c.if-not-in_ranges.true)

pub returns : goal.returns
returns c =
    read_in _ _ _ _ (there (goal.at.returns c).In_ok-numbers) c.read_numbers.ensures.left c.if-numbers-ne4.false c.in_ranges.ensures (ap not c.if-not-in_ranges.false)

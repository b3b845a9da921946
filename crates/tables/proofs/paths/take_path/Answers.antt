-- `tables::paths::take_path` meets its contract. Assumes nothing.
use Rattle.std.proofs.Common.{rules, ◌≡◌, ◌∙◌, Some, None, Err, option_map}
use mathlib.Core.Logic.{◌⊎◌, inl, inr}
use Rattle.floor.specs.declared.Reason.TheVariants.{Layout}
use Rattle.rfc4180.specs.Records.{fields}
use Rattle.rfc4180.specs.Number.{numbers}
use Rattle.rfc4180.specs.Answers.{counted}
use Rattle.tables.specs.Reading.{PathTaken}
use Rattle.tables.proofs.PathRecords.{take_malformed, take_other, take_range, take_long, take_over, take_kept}
use Rattle.tables.proofs.paths.take_path.Goals as goal
use Rattle.tables.proofs.paths.take_path.Goals.{In_ok-numbers, Joined-else-n-ne0, else-n-ne0-via-then-n-ne0+else-m-w, else-n-ne0-via-else-n-ne0}

-- the numbers that the record has
there : (c : In_ok-numbers) → Some c.in_ok-numbers.numbers ≡ option_map counted (numbers (fields c.args.row.now))
there c = search rules

-- no path before, or as many cells as in those
as_many : (c : Joined-else-n-ne0) → let a = c.args in (a.n ≡ 0) ⊎ (c.in_ok-numbers.numbers.count ≡ a.w)
as_many c = elim c.else-n-ne0.branch [ else-n-ne0-via-then-n-ne0+else-m-w y ↦ inr y.if-m-w.false | else-n-ne0-via-else-n-ne0 y ↦ inl y.if-n-ne0.false ]

pub returns-in_err-numbers : goal.returns-in_err-numbers
returns-in_err-numbers c =
    let none : None ≡ option_map counted (numbers (fields c.args.row.now)) = search rules in
    let is : ◌≡◌ {A = PathTaken} c.from_residual.result (Err Layout) = search rules in
    let (the-answer, the-left) = take_malformed c.args.n _ _ _ c.requires.1 none _ in
    record { answer = is ∙ the-answer; left = the-left }

pub returns-then-m-w : goal.returns-then-m-w
returns-then-m-w c =
    let (the-answer, the-left) = take_other c.args.n _ _ _ c.requires.1 c.in_ok-numbers.numbers.count c.in_ok-numbers.numbers.greatest (there (goal.at.returns-then-m-w c).In_ok-numbers) c.if-n-ne0.true c.if-m-w.true _ in
    record { answer = the-answer; left = the-left }

pub returns-then-numbers-gt65534 : goal.returns-then-numbers-gt65534
returns-then-numbers-gt65534 c =
    let (the-answer, the-left) = take_range c.args.n _ _ _ c.requires.1 c.in_ok-numbers.numbers.count c.in_ok-numbers.numbers.greatest (there (goal.at.returns-then-numbers-gt65534 c).In_ok-numbers) (as_many (goal.at.returns-then-numbers-gt65534 c).Joined-else-n-ne0) c.if-numbers-gt65534.true _ in
    record { answer = the-answer; left = the-left }

pub returns-then-m-gt1024 : goal.returns-then-m-gt1024
returns-then-m-gt1024 c =
    let (the-answer, the-left) = take_long c.args.n _ _ _ c.requires.1 c.in_ok-numbers.numbers.count c.in_ok-numbers.numbers.greatest (there (goal.at.returns-then-m-gt1024 c).In_ok-numbers) (as_many (goal.at.returns-then-m-gt1024 c).Joined-else-n-ne0) c.if-numbers-gt65534.false c.if-m-gt1024.true _ in
    record { answer = the-answer; left = the-left }

pub returns-then-base-m-gt8192 : goal.returns-then-base-m-gt8192
returns-then-base-m-gt8192 c =
    let (the-answer, the-left) = take_over c.args.n _ _ _ c.requires.1 c.in_ok-numbers.numbers.count c.in_ok-numbers.numbers.greatest (there (goal.at.returns-then-base-m-gt8192 c).In_ok-numbers) (as_many (goal.at.returns-then-base-m-gt8192 c).Joined-else-n-ne0) c.if-numbers-gt65534.false c.if-m-gt1024.false c.if-base-m-gt8192.true _ in
    record { answer = the-answer; left = the-left }

pub returns : goal.returns
returns c =
    let (the-answer, the-left) = take_kept c.args.n _ _ _ c.requires.1 c.in_ok-numbers.numbers.count c.in_ok-numbers.numbers.greatest (there (goal.at.returns c).In_ok-numbers) (as_many (goal.at.returns c).Joined-else-n-ne0) c.if-numbers-gt65534.false c.if-m-gt1024.false c.if-base-m-gt8192.false _ c.read_numbers.ensures.left in
    record { answer = the-answer; left = the-left }

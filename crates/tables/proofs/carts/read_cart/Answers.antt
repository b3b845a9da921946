-- `tables::carts::read_cart` meets its contract, case by case. Assumes nothing.
use Rattle.std.proofs.Common.{rules, ◌≡◌, ◌∙◌, Some, None, Err, Result}
use Rattle.floor.specs.declared.Cart.{Cart}
use Rattle.floor.specs.declared.Reason.{Reason}
use Rattle.floor.specs.declared.Reason.TheVariants.{Layout}
use Rattle.rfc4180.specs.Records.{fields}
use Rattle.tables.specs.Reading.{speeds_of}
use Rattle.tables.proofs.CartRecords.{take_malformed, take_range, take_over, take_kept}
use Rattle.tables.proofs.carts.read_cart.Goals as goal
use Rattle.tables.proofs.carts.read_cart.Goals.{In_ok-cart}

-- the speeds that the record has
there : (c : In_ok-cart) → Some c.in_ok-cart.cart ≡ speeds_of (fields c.args.row.now)
there c = search rules

pub returns-in_err-cart : goal.returns-in_err-cart
returns-in_err-cart c before count =
    let none : None ≡ speeds_of (fields c.args.row.now) = search rules in
    let is : ◌≡◌ {A = Result Cart Reason} c.from_residual.result (Err Layout) = search rules in
    is ∙ take_malformed c.args.n _ before count none

pub returns-then-not-in_ranges : goal.returns-then-not-in_ranges
returns-then-not-in_ranges c before count =
    take_range c.args.n _ before count _ (there (goal.at.returns-then-not-in_ranges c).In_ok-cart) c.in_ranges.ensures c.if-not-in_ranges.true

pub returns-then-n-ge64 : goal.returns-then-n-ge64
returns-then-n-ge64 c before count =
    take_over c.args.n _ before count _ (there (goal.at.returns-then-n-ge64 c).In_ok-cart) c.in_ranges.ensures c.if-not-in_ranges.false c.if-n-ge64.true

pub returns : goal.returns
returns c before count =
    take_kept c.args.n _ before count _ (there (goal.at.returns c).In_ok-cart) c.in_ranges.ensures c.if-not-in_ranges.false c.if-n-ge64.false

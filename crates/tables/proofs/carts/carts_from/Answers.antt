-- `tables::carts::carts_from` meets its contract. The loop's invariant: the carts taken stand in the array, and the records that are left say what the whole does.
-- Assumes nothing.
use Rattle.std.proofs.Common.{rules, arith, Err, Ok, ◌≡◌, refl, sym, ap, ◌∙◌, ◌+◌, ◌*◌, set}
use Rattle.std.proofs.Math.ListN.{length-set}
use Rattle.floor.specs.declared.Table.TheVariants.{Carts}
use Rattle.floor.specs.Carts.{cart}
use Rattle.tables.specs.Arrays.{cart_numbers}
use Rattle.tables.specs.Reading.{said}
use Rattle.tables.proofs.Turns.{first_turn, last_turn, refused_why}
use Rattle.tables.proofs.CartRecords.{cart_refused, cart_small, cart_fits, cart_kept}
use Rattle.tables.proofs.carts.carts_from.Goals as goal
use Rattle.tables.proofs.carts.carts_from.Goals.{In_ok-cart}

pub loop-row-init : goal.loop-row-init
loop-row-init c = rw c.into_iter-row-iterator.ensures.into_iter_gives (omega arith, refl, first_turn cart cart_numbers _ _ c.requires.1)

-- the cart that the record says
there : (c : In_ok-cart) → Ok c.in_ok-cart.cart ≡ said (cart c.loop-row.invariant.2.before c.in-Some.row.now)
there c =
    let taken : c.read_cart.result ≡ Ok c.in_ok-cart.cart = search rules in
    let u = c.loop-row.invariant.2 in
    sym taken ∙ c.read_cart.ensures u.before u.count

pub returns-in_err-cart : goal.returns-in_err-cart
returns-in_err-cart c =
    let u = c.loop-row.invariant.2 in
    let (why, e, q) = refused_why _ c.read_cart.result c.map_err.result c.map_err.ensures.cases _ c.in_err-cart.was in
    let f : c.in_err-cart.field-0.0 ≡ record { reason = why; table = Carts; row = c.loop-row.n + 1 } = search rules in
    let is : c.from_residual.result ≡ Err c.in_err-cart.field-0.0 = search rules in
    let (the-answer, the-left) = cart_refused _ _ _ _ c.loop-row.n u _ _ c.in-Some.ensures.steps why _ (sym e ∙ c.read_cart.ensures u.before u.count) in
    record { answer = is ∙ ap Err f ∙ the-answer; left = the-left }

pub returns : goal.returns
returns c =
    let (the-answer, the-left) = last_turn cart cart_numbers _ _ _ _ c.loop-row.n c.loop-row.invariant.2 c.in-None.ensures.steps.0 in
    record { answer = the-answer; left = the-left }

pub overflow_cast-carts : goal.overflow_cast-carts
overflow_cast-carts c = omega (arith, (cart_small _ _ _ (there (goal.at.overflow_cast-carts c).In_ok-cart)).0)

pub bounds-carts-n : goal.bounds-carts-n
bounds-carts-n c =
    omega (arith, cart_fits _ _ _ _ _ c.loop-row.invariant.2 _ _ c.in-Some.ensures.steps _ (there (goal.at.bounds-carts-n c).In_ok-cart), c.loop-row.invariant.1, c.requires.0)

pub overflow_cast-carts-in-loop-row : goal.overflow_cast-carts-in-loop-row
overflow_cast-carts-in-loop-row c = omega (arith, c.unwrap_or.ensures, (cart_small _ _ _ (there (goal.at.overflow_cast-carts-in-loop-row c).In_ok-cart)).1)

pub bounds-carts-n-in-loop-row : goal.bounds-carts-n-in-loop-row
bounds-carts-n-in-loop-row c =
    let few = cart_fits _ _ _ _ _ c.loop-row.invariant.2 _ _ c.in-Some.ensures.steps _ (there (goal.at.bounds-carts-n-in-loop-row c).In_ok-cart) in
    simp length-set (omega (arith, few, c.loop-row.invariant.1, c.requires.0))

pub loop-row-preserved : goal.loop-row-preserved
loop-row-preserved c =
    let l = c.loop-row in
    let e = there (goal.at.loop-row-preserved c).In_ok-cart in
    let again = cart_kept _ _ _ _ l.n l.invariant.2 _ _ c.in-Some.ensures.steps _ c.requires.0 e in
    let slowest = ap (set (set l.carts (2 * l.n) c.in_ok-cart.cart.fastest) (2 * l.n + 1)) c.unwrap_or.ensures in
    let few = cart_fits _ _ _ _ l.n l.invariant.2 _ _ c.in-Some.ensures.steps _ e in (
      omega (arith, few),
      length-set _ _ _ ∙ length-set _ _ _ ∙ l.invariant.1,
      rw slowest again,
    )

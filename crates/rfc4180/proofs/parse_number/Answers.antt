-- `rfc4180::parse_number` meets its contract: the digits from here on, after those that make v, give what all of them give.
-- Assumes nothing.
use Rattle.std.proofs.Common.{◌∙◌, sym, arith, lit<}
use Rattle.rfc4180.proofs.Digits.{decimal_low, decimal_high, decimal_more, decimal_end, number_nil, number_long, number_zero, number_zeros, number_digits, ten_suc}
use Rattle.rfc4180.proofs.parse_number.Goals as goal
use Rattle.rfc4180.proofs.parse_number.Goals.{then-n-eq0-via-then-n-eq0, then-n-eq0-via-else-n-eq0+then-n-gt10, then-d-lt48-via-then-d-lt48, then-d-lt48-via-else-d-lt48+then-d-gt57}

pub returns-then-n-eq0 : goal.returns-then-n-eq0
returns-then-n-eq0 c =
    elim c.then-n-eq0.branch
    [ then-n-eq0-via-then-n-eq0 w ↦ sym (number_nil _ w.if-n-eq0.true) | then-n-eq0-via-else-n-eq0+then-n-gt10 w ↦ sym (number_long _ w.if-n-gt10.true) ]

pub returns-then-n-eq1 : goal.returns-then-n-eq1
returns-then-n-eq1 c = sym (number_zero _ c.if-digits-eq48.true c.if-n-eq1.true)

pub returns-else-n-eq1 : goal.returns-else-n-eq1
returns-else-n-eq1 c = sym (number_zeros _ c.if-digits-eq48.true (omega arith))

pub loop-d-init : goal.loop-d-init
loop-d-init c = (lit< tt, number_digits _ (omega arith) (omega arith) c.if-digits-eq48.false)

pub returns-then-d-lt48 : goal.returns-then-d-lt48
returns-then-d-lt48 c =
    let l = c.loop-d in
    elim c.then-d-lt48.branch [
      | then-d-lt48-via-then-d-lt48 w ↦ sym (l.invariant.1 ∙ decimal_low _ l.d-index l.v c.loop-d-test.true w.if-d-lt48.true)
      | then-d-lt48-via-else-d-lt48+then-d-gt57 w ↦ sym (l.invariant.1 ∙ decimal_high _ l.d-index l.v c.loop-d-test.true w.if-d-lt48.false w.if-d-gt57.true)
    ]

pub loop-d-preserved : goal.loop-d-preserved
loop-d-preserved c =
    let l = c.loop-d in (
      omega (arith, ten_suc l.d-index),
      rw c.from.ensures (l.invariant.1 ∙ decimal_more _ l.d-index l.v c.loop-d-test.true c.if-d-lt48.false c.if-d-gt57.false),
    )

pub returns : goal.returns
returns c = sym (c.loop-d.invariant.1 ∙ decimal_end _ _ _ c.loop-d-test.false)

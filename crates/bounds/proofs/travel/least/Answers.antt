-- `bounds::travel::least` meets its contract: it is the quotient rounded up, and 0 where there is no divisor. Assumes nothing.
use Rattle.std.proofs.Common.{ℕ, ◌∙◌, ◌*◌, ◌/◌, ◌%◌, ◌+◌, min, ◌<◌, ap₂, arith}
use Rattle.network.specs.Bounds.{least_time}
use Rattle.bounds.proofs.Moves.{least_none, least_some}
use Rattle.bounds.proofs.travel.least.Goals as goal

pub returns-then-speeds-eq0 : goal.returns-then-speeds-eq0
unfolding least_time
returns-then-speeds-eq0 c = least_none (1000 * c.args.part) c.args.speeds.fastest c.if-speeds-eq0.true

pub returns : goal.returns
unfolding least_time
returns c =
    let some : 0 < c.args.speeds.fastest = omega arith in
    c.div_ceil.ensures ∙ ap₂ (λ (n d : ℕ). 1000 * n / d + min 1 (1000 * n % d)) c.from.ensures c.from-2.ensures ∙ least_some (1000 * c.args.part) c.args.speeds.fastest some

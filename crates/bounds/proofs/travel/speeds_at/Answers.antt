-- `bounds::travel::speeds_at` meets its contract: 0 is none. Assumes nothing.
use Rattle.std.proofs.Common.{ℕ, ◌∙◌, ◌*◌, ap, Option, get_or}
use Rattle.bounds.specs.Writing.{cart_at}
use Rattle.bounds.proofs.Moves.{speed_is}
use Rattle.bounds.proofs.travel.speeds_at.Goals as goal

pub returns : goal.returns
unfolding cart_at
returns c =
    ap (λ (s : Option ℕ). record { fastest = get_or c.args.speeds.now (2 * c.args.i) 0; slowest = s })
    (c.then_some.ensures ∙ speed_is _)

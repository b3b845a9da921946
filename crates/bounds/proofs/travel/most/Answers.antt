-- `bounds::travel::most` meets its contract: the quotient, if there is a divisor. Assumes nothing.
use Rattle.std.proofs.Common.{ℕ, ◌∙◌, ◌*◌, ◌/◌, ◌<◌, refl, ap, ap₂, sym, arith}
use Rattle.std.proofs.Math.Nat.{div-le_self}
use Rattle.std.specs.Prelude.{Option, Some}
use Rattle.network.specs.Bounds.{most_time}
use Rattle.network.specs.BoundArrays.{hi_kept}
use Rattle.network.proofs.Putting.{kept_hi}
use Rattle.bounds.proofs.travel.most.Goals as goal

pub returns-in_err-slowest : goal.returns-in_err-slowest
unfolding most_time hi_kept
returns-in_err-slowest c = record {
  value = c.from_residual.ensures ∙ sym (ap (λ (s : Option ℕ). most_time (record { length = c.args.part; slowest = s })) c.in_err-slowest.was);
  kept = rw c.from_residual.ensures refl;
}

pub returns : goal.returns
unfolding most_time
returns c =
    let small : 1000 * c.from.result / c.from-2.result < 18_446_744_073_709_551_615 = omega (arith, div-le_self (1000 * c.from.result) c.from-2.result, c.from.ensures) in
    record {
      value = ap₂ {C = Option ℕ} (λ (n d : ℕ). Some (1000 * n / d)) c.from.ensures c.from-2.ensures
          ∙ sym (ap (λ (s : Option ℕ). most_time (record { length = c.args.part; slowest = s })) c.in_ok-slowest.was);
      kept = kept_hi _ small;
    }

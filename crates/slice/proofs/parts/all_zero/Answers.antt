-- `slice::parts::all_zero` meets its contract: the greatest byte is zero where all are. Assumes nothing.
use Rattle.std.proofs.Common.{rules, ◌≡◌, ◌∙◌, ap, max, eqb, ℕ}
use Rattle.std.specs.List.{fold}
use Rattle.slice.proofs.Laid.{greatest_none}
use Rattle.slice.proofs.parts.all_zero.Goals as goal

pub returns : goal.returns
returns c =
    let most : c.fold.result ≡ fold max 0 c.args.s.now = search rules in
    ap (λ (n : ℕ). eqb n 0) most ∙ greatest_none 0 c.args.s.now

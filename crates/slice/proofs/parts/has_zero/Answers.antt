-- `slice::parts::has_zero` meets its contract: the least byte is zero where one is. Assumes nothing.
use Rattle.std.proofs.Common.{rules, ◌≡◌, ap, min, eqb, ℕ}
use Rattle.std.specs.List.{fold}
use Rattle.slice.proofs.parts.has_zero.Goals as goal

pub returns : goal.returns
returns c =
    let least : c.fold.result ≡ fold min 255 c.args.block.now = search rules in
    ap (λ (n : ℕ). eqb n 0) least

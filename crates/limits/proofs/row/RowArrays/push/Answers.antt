-- `limits::row::RowArrays::push` meets its contract: the visit stands behind the others. Assumes nothing.
use Rattle.std.specs.Prelude.{ℕ}
use native.Mathlib.Numerals.{add-one}
use native.Mathlib.Omega.{arith}
use mathlib.Core.Path.{ap, ◌∙◌}
use lib.ListN.{set}
use Rattle.limits.specs.Counts.{stops_in}
use Rattle.limits.proofs.CountSteps.{stops_behind}
use Rattle.limits.proofs.row.RowArrays.push.Goals as goal

pub returns-clause-visits : goal.returns-clause-visits
returns-clause-visits c =
    let r = c.args.self.now in
    let v = c.args.visit in
    ap (λ (m : ℕ). stops_in (set r.numbers.now r.n v.cart) (set r.times.now r.n v.step) (set r.places.now r.n v.cell) m 0) (add-one r.n)
    ∙ stops_behind r.numbers.now r.times.now r.places.now r.n (omega arith) (omega arith) (omega arith) v.cart v.step v.cell r.n 0 (omega arith)

-- `bounds::write_starts` meets its contract: the bounds of the carts left are yet to be put. Assumes nothing.
use Rattle.std.proofs.Common.{refl, subst, sym, ap, ◌∷◌, [], ℕ, get_or}
use Rattle.network.specs.Bounds.{Bound}
use Rattle.network.specs.BoundArrays.{Puts}
use Rattle.network.proofs.Putting.{putting_first, putting_more}
use Rattle.bounds.specs.Writing.{start_to}
use Rattle.bounds.proofs.Whole.{row_next, start_is}
use Rattle.bounds.proofs.write_starts.Goals as goal

pub loop-first-init : goal.loop-first-init
loop-first-init c = putting_first _ _ _ refl

pub loop-first-preserved : goal.loop-first-preserved
loop-first-preserved c =
    let l = c.loop-first in
    let e : ℕ = get_or c.args.firsts.now l.first-index 0 in
    putting_more l.invariant c.put.new.self (start_to e ∷ []) _ (row_next start_to c.args.firsts.now l.first-index c.loop-first-test.true)
    (subst (Puts l.out c.put.new.self) (ap (λ (b : Bound). b ∷ []) (sym (start_is e))) c.put.ensures)

-- `bounds::write_finishes` meets its contract: the bounds of the carts left are yet to be put. Assumes nothing.
use Rattle.std.proofs.Common.{refl, subst, sym, ap, ◌∷◌, [], ℕ, get_or}
use Rattle.network.specs.Bounds.{Bound}
use Rattle.network.specs.BoundArrays.{Puts}
use Rattle.network.proofs.Putting.{putting_first, putting_more}
use Rattle.bounds.specs.Writing.{finish_before}
use Rattle.bounds.proofs.Whole.{row_next, finish_is}
use Rattle.bounds.proofs.write_finishes.Goals as goal

pub loop-next-init : goal.loop-next-init
loop-next-init c = putting_first _ _ _ refl

pub loop-next-preserved : goal.loop-next-preserved
loop-next-preserved c =
    let l = c.loop-next in
    let e : ℕ = get_or c.args.nexts.now l.next-index 0 in
    let f : ℕ = c.args.finish in
    putting_more l.invariant c.put.new.self (finish_before f e ∷ []) _ (row_next (finish_before f) c.args.nexts.now l.next-index c.loop-next-test.true)
    (subst (Puts l.out c.put.new.self) (ap (λ (b : Bound). b ∷ []) (sym (finish_is f e))) c.put.ensures)

-- `book::writing::put_waiting` meets its contract: one bound after the other is put. Assumes nothing.
use Rattle.std.specs.Prelude.{◌+◌, ◌-◌, [], ◌∷◌}
use mathlib.Core.Path.{refl, subst}
use Rattle.network.specs.Bounds.{Bound}
use Rattle.network.specs.BoundArrays.{Puts}
use Rattle.network.proofs.Putting.{putting_first, putting_more, putting_all}
use Rattle.schedule.specs.Added.{clock_bound}
use Rattle.book.specs.Writing.{waiting_from}
use Rattle.book.proofs.Reported.{waiting_next, waiting_none, clock_put}
use Rattle.book.proofs.writing.put_waiting.Goals as goal

pub loop-event-init : goal.loop-event-init
loop-event-init c = putting_first c.args.out.now _ _ refl

pub loop-event-preserved : goal.loop-event-preserved
loop-event-preserved c =
    let l = c.loop-event in
    let a = c.args in
    putting_more l.invariant c.put.new.self (clock_bound a.clock l.event ∷ []) (waiting_from a.clock (l.event + 1) (a.next - (l.event + 1)))
    (waiting_next a.clock l.event a.next c.loop-event-test.true)
    (subst (λ (b : Bound). Puts l.out c.put.new.self (b ∷ [])) (clock_put a.clock l.event) c.put.ensures)

pub returns : goal.returns
returns c = let l = c.loop-event in putting_all l.invariant (waiting_none c.args.clock l.event c.args.next c.loop-event-test.false)

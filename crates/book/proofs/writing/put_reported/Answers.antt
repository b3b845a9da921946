-- `book::writing::put_reported` meets its contract: one report after the other is put, if it is of the cart. Assumes nothing.
use Rattle.std.specs.Prelude.{◌≡◌, ◌+◌, List, [], ◌∷◌, length, Some}
use native.Mathlib.Omega.{arith}
use mathlib.Core.Path.{ap, sym, ◌∙◌, subst}
use Rattle.network.specs.Bounds.{Bound}
use Rattle.network.specs.BoundArrays.{Puts, bound_of}
use Rattle.network.proofs.Putting.{puts_none, putting_all}
use Rattle.book.specs.Writing.{one_reported}
use Rattle.book.proofs.Reported.{first_reporting, next_reporting, last_reporting, here_most, one_put, one_full, one_other, report_put}
use Rattle.book.proofs.writing.put_reported.Goals as goal
use Rattle.book.proofs.writing.put_reported.Goals.{then-from-points+then-event-points, else-from-points, else-from-points-via-then-from-points+else-event-points, else-from-points-via-else-from-points}

pub loop-i-init : goal.loop-i-init
loop-i-init c = let p = c.args.points in first_reporting c.args.reports.log.carts.now c.args.reports.log.times.now p.cart p.first p.next c.args.out.now (c.args.reports.timely p.cart)

pub loop-i-preserved : goal.loop-i-preserved
loop-i-preserved c =
    let p = c.args.points in
    let l = c.loop-i in
    let cs = c.args.reports.log.carts.now in
    let ts = c.args.reports.log.times.now in
    let one : List Bound = one_reported cs ts l.i p.cart l.event p.next in
    let next = next_reporting cs ts p.cart p.first p.next c.args.out.now l.out l.event l.i l.invariant c.loop-i-test.true in
    let passed = λ (z : one ≡ []). next l.out (puts_none l.out one z) l.event (omega (arith, ap length z)) in
    elim c.if-from-points.branch [
      | then-from-points+then-event-points w ↦
          let mine = sym c.from.ensures ∙ w.if-from-points.true in
          let time = w.get64-time.result in
          let q : one ≡ bound_of (record { from = 0; to = l.event; lo = time; hi = Some time }) ∷ [] =
          one_put cs ts p.cart l.i c.loop-i-test.true l.event p.next mine w.if-event-points.true time w.get64-time.ensures
          ∙ ap (λ (b : Bound). b ∷ []) (sym (report_put l.event time (omega (arith, w.get64-time.ensures, here_most cs ts p.cart l.i c.loop-i-test.true l.invariant.in_range mine)))) in
          rw (w.out-is, w.event-is) (next w.put.new.self (subst (Puts l.out w.put.new.self) (sym q) w.put.ensures) (l.event + 1) (omega (arith, ap length q)))
      | else-from-points w ↦ elim w.else-from-points.branch [
        | else-from-points-via-then-from-points+else-event-points v ↦ rw (w.out-is, w.event-is) (passed (one_full cs ts p.cart l.i c.loop-i-test.true l.event p.next v.if-event-points.false))
        | else-from-points-via-else-from-points v ↦ rw (w.out-is, w.event-is) (passed (one_other cs ts p.cart l.i c.loop-i-test.true l.event p.next (λ e. v.if-from-points.false (c.from.ensures ∙ e))))
      ]
    ]

pub returns : goal.returns
returns c =
    let p = c.args.points in
    let l = c.loop-i in
    let none = last_reporting c.args.reports.log.carts.now c.args.reports.log.times.now p.cart p.first p.next c.args.out.now l.out l.event l.i l.invariant c.loop-i-test.false in
    record { answer = omega (arith, l.invariant.count, ap length none); left = putting_all l.invariant.putting none }

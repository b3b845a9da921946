-- `passes::looping::led_back` meets its contract: each event on the way is led, or nothing is said.
-- Assumes nothing.
use native.Mathlib.Omega.{arith}
use mathlib.Core.Path.{refl, sym, ◌∙◌}
use Rattle.walks.specs.Parents.{repeated}
use Rattle.passes.proofs.Backward.{parent_of, back_low, back_more}
use Rattle.passes.proofs.Loops.{led_here, led_more}
use Rattle.passes.proofs.looping.led_back.Goals as goal

pub loop-j-init : goal.loop-j-init
unfolding repeated
loop-j-init c = (refl, λ i h. absurd (omega arith))

pub invariant_of-parent : goal.invariant_of-parent
invariant_of-parent c =
    record { there = back_low c.args.event.parents.now c.args.event.v c.args.event.there c.loop-j._j c.loop-j.x c.loop-j.invariant.0 }

pub loop-j-preserved : goal.loop-j-preserved
loop-j-preserved c =
    let p = c.args.event.parents.now in
    let net = p.net.now in
    let l = c.loop-j in
    let q = parent_of p l.x c.in_ok-c.c c.in_ok-c.ensures.0 in (
      c.start_of-x.ensures ∙ back_more p c.args.event.v c.args.event.there l._j l.x l.invariant.0 c.in_ok-c.c c.in_ok-c.ensures.0,
      led_more net.bounds net.ends.now net.ranges.now p.codes.now c.args.event.v l._j l.x l.invariant.0 l.invariant.1
          (led_here net.bounds net.ends.now net.ranges.now p.codes.now net.events l.x c.in_ok-c.c q (sym c.end_of.ensures ∙ c.if-end_of-x.false)),
    )

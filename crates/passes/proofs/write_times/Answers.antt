-- `passes::write_times` meets its contract: the times are written one behind the other.
-- Assumes nothing.
use native.Mathlib.Omega.{arith}
use mathlib.Core.Path.{ap, ◌∙◌}
use lib.ListN.{get_or}
use lib.IntN.{ℤ, pos}
use mir.Syntax.{w64}
use mir.ValLaws.{to_z-of_z}
use Rattle.schedule.specs.Timetable.{time}
use Rattle.passes.specs.Marks.{sum_at}
use Rattle.passes.proofs.Timing.{none_timed, next_timed, all_timed}
use Rattle.passes.proofs.write_times.Goals as goal

pub loop-i-init : goal.loop-i-init
loop-i-init c = none_timed c.args.sums.now c.args.times.now

pub loop-i-preserved : goal.loop-i-preserved
loop-i-preserved c =
    let z : ℤ = get_or c.args.sums.now c.loop-i.i (pos 0) in
    let seen = to_z-of_z w64 z (record { sfits = omega arith }) in
    next_timed c.loop-i.invariant c.loop-i-test.true c.requires (pos 0) c.time_of.result c.put.new.s
    (c.time_of.ensures ∙ ap (λ (y : ℤ). time (sum_at y)) seen) c.put.ensures c.put.auto.s

pub returns : goal.returns
returns c = all_timed c.loop-i.invariant c.loop-i-test.false

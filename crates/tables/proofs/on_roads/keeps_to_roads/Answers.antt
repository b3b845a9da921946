-- `tables::on_roads::keeps_to_roads` meets its contract. The loop's invariant: the path keeps to the roads if it does over the steps left.
-- Assumes nothing.
use Rattle.std.proofs.Common.{rules}
use Rattle.std.specs.Slice.Iter.{windows_rest}
use mathlib.Core.Bool.{not}
use mathlib.Core.Path.{ap, sym, ◌∙◌}
use Rattle.tables.proofs.Searches.{Stepped, step_off, step_on, step_stays, steps_past}
use Rattle.tables.proofs.on_roads.keeps_to_roads.Goals as goal
use Rattle.tables.proofs.on_roads.keeps_to_roads.Goals.{In-Some, else-step-via-then-step+else-not-join, else-step-via-else-step}

-- two cells next to each other
stepped : (c : In-Some) → Stepped (windows_rest c.loop-step.step-iterator) c.in-Some.step.now (windows_rest c.next.new.self)
stepped c = search rules

pub returns-then-not-join : goal.returns-then-not-join
returns-then-not-join c =
    sym (c.loop-step.invariant.left ∙ step_off _ (stepped (goal.at.returns-then-not-join c).In-Some) c.if-step.true c.join.ensures (ap not c.if-not-join.true))

pub loop-step-preserved : goal.loop-step-preserved
loop-step-preserved c =
    let next = stepped (goal.at.loop-step-preserved c).In-Some in
    record {
      pairs = search rules;
      left = c.loop-step.invariant.left ∙ elim c.else-step.branch [
        | else-step-via-then-step+else-not-join w ↦ step_on _ next w.join.ensures (ap not w.if-not-join.false)
        | else-step-via-else-step w ↦ step_stays _ next w.if-step.false
      ];
    }

pub returns : goal.returns
returns c = sym (c.loop-step.invariant.left ∙ steps_past _ _ (search rules))

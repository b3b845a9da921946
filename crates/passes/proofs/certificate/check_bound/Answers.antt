-- `passes::certificate::check_bound` meets its contract: one arc is checked, or two.
-- Assumes nothing.
use mathlib.Core.List.{[], ◌∷◌}
use mathlib.Core.Path.{◌≡◌}
use mathlib.Core.Bool.{true}
use Rattle.schedule.specs.Timetable.{forward}
use Rattle.passes.specs.Networks.{bound_of}
use Rattle.passes.specs.Values.{Allowed, Marks}
use Rattle.passes.specs.Arcs.{arc_of}
use Rattle.passes.proofs.BoundChecks.{one_allowed, both_allowed, both_marked, marks_forward}
use Rattle.passes.proofs.certificate.check_bound.Goals as goal
use Rattle.passes.proofs.certificate.check_bound.Goals.{After-check_arc}

-- what the check forward says
onward : (c : After-check_arc)
    → let b = bound_of c.args.bound.net.now c.args.bound.i in
    (c.check_arc.result ≡ true → Allowed (forward b ∷ []) c.args.values.all.now) × Marks (forward b ∷ []) c.args.values.all.now c.args.marks.now c.check_arc.new.marks
onward c =
    let v = c.args.values.all.now in
    let k = c.check_arc in
    let a = arc_of c.forward-arc.result in
    let said : (k.result ≡ true → Allowed (a ∷ []) v) × Marks (a ∷ []) v c.args.marks.now k.new.marks =
    (λ e. one_allowed v a (k.ensures.allowed e), k.ensures.marked) in
    rw c.forward-arc.ensures.is at said

pub returns-then-not-check_arc-clause-marked : goal.returns-then-not-check_arc-clause-marked
returns-then-not-check_arc-clause-marked c =
    marks_forward c.args.values.all.now c.args.marks.now c.check_arc.new.marks (bound_of c.args.bound.net.now c.args.bound.i)
    (onward (goal.at.returns-then-not-check_arc-clause-marked c).After-check_arc).1

pub returns-in-None : goal.returns-in-None
returns-in-None c =
    let f = onward (goal.at.returns-in-None c).After-check_arc in
    rw c.in-None.ensures (record { allowed = λ e. f.0 c.if-not-check_arc.false; marked = f.1 })

pub returns-in-Some : goal.returns-in-Some
returns-in-Some c =
    let v = c.args.values.all.now in
    let f = onward (goal.at.returns-in-Some c).After-check_arc in
    let g = c.check_arc-in-Some in
    let on = forward (bound_of c.args.bound.net.now c.args.bound.i) in
    let back = arc_of c.in-Some.back in
    rw c.in-Some.ensures.0 (record {
      allowed = λ e. both_allowed v on back (f.0 c.if-not-check_arc.false) (one_allowed v back (g.ensures.allowed e));
      marked = both_marked v c.args.marks.now c.check_arc.new.marks g.new.marks on back f.1 g.ensures.marked;
    })

-- `passes::looping::led_back` meets its contract: each event on the way is led, or nothing is said.
-- Assumes nothing.
use Prim.Native.Nat.{ℕ, ◌<◌}
use mathlib.Core.Path.{◌≡◌}
use Rattle.walks.specs.Parents.{steps_back}
use Rattle.passes.specs.Marks.{Led}
use Rattle.passes.proofs.Backward.{arcs, ps}
use Rattle.passes.proofs.looping.led_back.Given as goal

abbrev pub invariant-loop-j : goal.invariant-loop-j
invariant-loop-j l =
    (l.x ≡ steps_back (arcs l.event.parents.now) (ps l.event.parents.now) l._j l.event.v)
    × ((i : ℕ) → i < l._j → Led (arcs l.event.parents.now) (ps l.event.parents.now) (steps_back (arcs l.event.parents.now) (ps l.event.parents.now) i l.event.v))

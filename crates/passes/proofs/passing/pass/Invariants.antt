-- `passes::passing::pass` meets its contract: after i bounds their arcs are followed.
-- Assumes nothing.
use mathlib.Core.List.{flat_map}
use lib.ListN.{take}
use Rattle.schedule.specs.Timetable.{ways}
use Rattle.passes.specs.Marks.{Followed}
use Rattle.passes.specs.Networks.{bounds_of}
use Rattle.passes.proofs.passing.pass.Given as goal

abbrev pub invariant-loop-i : goal.invariant-loop-i
invariant-loop-i l = Followed (bounds_of l.old.net.now) (flat_map ways (take l.i (bounds_of l.old.net.now))) 0 l.old.all.now l.initial.new l.new l.initial.parents l.parents

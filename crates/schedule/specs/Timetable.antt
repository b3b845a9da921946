-- The answer of a timetable where times exist (document 01, "Reports and timetable").
-- Assumes nothing.
use Rattle.std.specs.Prelude.{ℕ, ℤ, pos, negsuc, neg_ℤ, Option, None, Some}
use mathlib.Core.List.{List, [], ◌∷◌, map, flat_map}
use Rattle.floor.specs.Plan.{Plan}
use Rattle.network.specs.Events.{event_count}
use Rattle.network.specs.Bounds.{Bound}
use Rattle.walks.specs.Walks.{Arc}
use Rattle.walks.specs.Passes.{Settled, settled}
use Rattle.schedule.specs.Book.{Book}
use Rattle.schedule.specs.Added.{all_bounds}

-- "Following a bound … forward adds lo"
unfoldable pub forward : Bound → Arc
forward b = record { from = b.from; to = b.to; adds = pos b.lo }

-- "backward subtracts hi, and hi none is not followed"
unfoldable pub backward : Bound → Option ℕ → List Arc
backward b None = []
backward b (Some h) = record { from = b.to; to = b.from; adds = neg_ℤ (pos h) } ∷ []

-- a bound followed either way
unfoldable pub ways : Bound → List Arc
ways b = forward b ∷ backward b b.hi

-- every bound of a plan and its book, followed either way
unfoldable pub arcs : Plan → Book → List Arc
arcs p b = flat_map ways (all_bounds p b)

-- the time of an event: its greatest sum; 0 stands in where there is none or it is below 0 (docs/DECISIONS.md, "Sums that are no times")
unfoldable pub time : Option ℤ → ℕ
time None = 0
time (Some (pos n)) = n
time (Some (negsuc n)) = 0

-- "The answer is a time for every event and the number of passes"
pub record Timetable : Type 0 where
  pub times : List ℕ
  pub passes : ℕ

-- the times of the sums that have settled
unfoldable pub timetable_of : Option Settled → Option Timetable
timetable_of None = None
timetable_of (Some s) = Some (record { times = map time s.sums; passes = s.passes })

-- the timetable of a plan and its book; none: "13: no times exist"
unfoldable pub timetable : Plan → Book → Option Timetable
timetable p b = timetable_of (settled (arcs p b) (event_count p))

-- Names every definition of this module, for a proof that computes with them all.
unfoldable pub open_timetable : Unit {0}
unfolding forward backward ways arcs time timetable_of timetable
open_timetable = tt

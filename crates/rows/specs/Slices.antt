-- One cart, path A B, in plan slices of their real size: what is held, and what a timetable answers.
-- Assumes nothing.
use Rattle.std.specs.Prelude.{ℕ, List, [], ◌∷◌, replicate, None}
use Rattle.floor.specs.Plan.{Plan}
use Rattle.floor.specs.Examples.{a_to_b}
use Rattle.schedule.specs.Book.{Report, ◌at◌, Book}
use Rattle.schedule.specs.Timetable.{Timetable}
use Rattle.slice.specs.PlanSlice.{plan_need, plan_slice, Held}
use Rattle.schedule.specs.Lent.{Lent, times_need, chain_bounds_need, chain_directions_need}

-- the plan slice with this log
unfoldable pub slice : List Report → List ℕ
slice log = plan_slice plan_need (a_to_b "250000,") log

-- "One cart, 250,000, path A B"
unfoldable pub plan : Plan
plan =
    record {
      roads = record { from = 0; to = 1; length = 1_000_000; margin = 250_000 } ∷ [];
      carts = record { fastest = 250_000; slowest = None } ∷ [];
      paths = (0 ∷ 1 ∷ []) ∷ [];
    }

-- the plan held with this log, which comes to this book
unfoldable pub holds : List Report → Book → Held
holds log b = record { tables = a_to_b "250000,"; log = log; plan = plan; book = b }

-- two reports: the second time does not fit two bytes
unfoldable pub two_reports : List Report
two_reports = (1 at 500) ∷ (1 at 70_000) ∷ []

-- no report, and the book
unfoldable pub held_at_first : Held
held_at_first = holds [] (record { clock = 0; passed = (0 ∷ []) ∷ [] })

-- two reports, and the book
unfoldable pub held_later : Held
held_later = holds two_reports (record { clock = 70_000; passed = (0 ∷ 500 ∷ 70_000 ∷ []) ∷ [] })

-- slices lent to a timetable, each at its need
unfoldable pub lent : Lent
lent = record { times = replicate times_need 9; chain_bounds = replicate chain_bounds_need 9; chain_directions = replicate chain_directions_need 9 }

-- the times that the program prints
unfoldable pub times : Timetable
times = record { times = 0 ∷ 0 ∷ 1000 ∷ 3000 ∷ 4000 ∷ 4000 ∷ []; passes = 5 }

-- Names every definition of this module, for a proof that computes with them all.
unfoldable pub open_slices : Unit {0}
unfolding slice plan holds two_reports held_at_first held_later lent times
open_slices = tt

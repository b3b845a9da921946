-- A timetable in a form that computes quickly. Assumes nothing.
use Rattle.std.specs.Prelude.{Option}
use mathlib.Core.Path.{◌≡◌, ap}
use Rattle.floor.specs.Plan.{Plan}
use Rattle.network.specs.Events.{event_count}
use Rattle.walks.proofs.Quick.{quick, quick_is}
use Rattle.schedule.specs.Book.{Book}
use Rattle.schedule.specs.Timetable.{Timetable, timetable_of, arcs, timetable}

unfoldable pub quick_timetable : Plan → Book → Option Timetable
quick_timetable p b = timetable_of (quick (arcs p b) (event_count p))

pub quick_timetable_is : (p : Plan) (b : Book) → quick_timetable p b ≡ timetable p b
unfolding quick_timetable timetable
quick_timetable_is p b = ap timetable_of (quick_is (arcs p b) (event_count p))

-- Levels of events: every bound of an accepted plan goes from a lower level to a higher one (`proofs.Levels`), so that none runs backwards.
-- Assumes nothing.
use Rattle.std.specs.Prelude.{ℕ, ◌+◌, ◌*◌, get_or}
use Rattle.floor.specs.Plan.{Plan}
use Rattle.floor.specs.Paths.{steps}
use Rattle.network.specs.Events.{Kind, approach, entry, leave, Point, Event, start, finish, passing, events}

-- of the points of a visit, which comes first
unfoldable pub kind_level : Kind → ℕ
kind_level approach = 0
kind_level entry = 1
kind_level leave = 2

-- by the step at which the visit begins
unfoldable pub point_level : Point → ℕ
point_level q = 3 * q.step + kind_level q.kind

-- below all points the start, above all of them the finish: every step is below the number of steps
unfoldable pub level : Plan → Event → ℕ
level p start = 0
level p finish = 3 * steps p.paths
level p (passing cart q) = point_level q

-- of the event with this number
unfoldable pub level_of : Plan → ℕ → ℕ
level_of p e = level p (get_or (events p) e start)

-- Names every definition of this module, for a proof that computes with them all.
unfoldable pub open_levels : Unit {0}
unfolding kind_level point_level level level_of
open_levels = tt

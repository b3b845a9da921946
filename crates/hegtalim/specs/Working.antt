-- A timetable worked out in two arrays, which may be too short for its bounds.
-- Assumes nothing.
use Rattle.std.specs.Prelude.{ℕ, ◌<◌, List, ◌⊎◌, Err}
use Rattle.schedule.specs.Lent.{Lent}
use Rattle.hegtalim.specs.declared.TimeError.{TimeError}
use Rattle.hegtalim.specs.Answers.{Timed}
use Rattle.hegtalim.specs.Outcomes.{Timetabled}

-- with arrays of so many numbers for the ends and the ranges of bounds: the outcome, or no room there, and nothing written to the slices lent. Two
-- numbers for each of 8,192 bounds and 4,096 events are enough for any plan
pub data Worked (ends ranges : ℕ) (s : List ℕ) (l : Lent) : Timed → Lent → Type 0 where
  done : (x : Timed) (l' : Lent) → Timetabled s l x l' → Worked ends ranges s l x l'
  no_room : (ends < 24_576) ⊎ (ranges < 24_576) → Worked ends ranges s l (Err TimeError.TooShort) l

-- What a plan slice holds is read back from it, one byte changed and it holds nothing, and a timetable answers by what is held.
-- Assumes nothing.
use Rattle.std.specs.Prelude.{None, Some, Ok, Err}
use mathlib.Core.Path.{◌≡◌, refl}
use mathlib.Core.List.{[]}
use lib.ListN.{set}
use Rattle.hegtalim.specs.declared.TimeError.{TimeError}
use Rattle.slice.specs.PlanSlice.{held}
use Rattle.schedule.specs.Lent.{times_written, chain_written}
use Rattle.hegtalim.specs.Outcomes.{Timetabled, timed, no_times}
use Rattle.hegtalim.specs.Open.{open_hegtalim}
use Rattle.rows.specs.Starred.{open_starred, too_early}
use Rattle.rows.specs.Slices.{open_slices, slice, two_reports, held_at_first, held_later, lent, times}

at_first : held (slice []) ≡ Some held_at_first
unfolding open_hegtalim open_slices
at_first = refl

later : held (slice two_reports) ≡ Some held_later
unfolding open_hegtalim open_slices
later = refl

-- the last place of the need, which is one of the log's times
changed : held (set (slice []) 233_471 1) ≡ None
unfolding open_hegtalim open_slices
changed = refl

-- five passes, and the events' places written
times_answered : Timetabled (slice []) lent (Ok 5) (times_written times lent)
unfolding open_hegtalim open_slices
times_answered = timed refl held_at_first at_first times refl

-- the report at 500 against a lo of 1,000: three items, written to the front of the chain slices
chain_answered : Timetabled (slice two_reports) lent (Err (TimeError.NoTimes 3)) (chain_written too_early lent)
unfolding open_hegtalim open_slices open_starred
chain_answered = no_times refl held_later later refl too_early tt

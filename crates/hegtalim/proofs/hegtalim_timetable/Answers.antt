-- `hegtalim::hegtalim_timetable` is `timetable`, its answer as one number, on all input. Assumes nothing.
use Rattle.hegtalim.proofs.TimedNumbers.{timed_small}
use Rattle.hegtalim.proofs.hegtalim_timetable.Goals as goal

pub number-requires : goal.number-requires
number-requires c = timed_small _ _ _ _ c.timetable.ensures.timed _ c.from.ensures

-- What is printed is in the front of the slice.
use Rattle.std.proofs.Common.{sym, length-take-le}
use Rattle.printing.proofs.Outcomes.{answer_fits}
use Rattle.timetable.proofs.print_tables.Goals as goal

pub slice_bounds-out-end : goal.slice_bounds-out-end
slice_bounds-out-end g c = answer_fits _ _ _ _ (c.in-Some.ensures.answer, c.in-Some.ensures.left)

pub slice_bounds-write_all-end : goal.slice_bounds-write_all-end
slice_bounds-write_all-end g c = sym (length-take-le _ _ (answer_fits _ _ _ _ (c.in-Some.ensures.answer, c.in-Some.ensures.left)))

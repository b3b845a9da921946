-- Why a call is turned down, by why the part of the program that it asked did so.
-- Assumes nothing.
use Rattle.slice.specs.declared.HoldError.{HoldError}
use Rattle.book.specs.declared.ReportError.{ReportError as BookError}
use Rattle.hegtalim.specs.declared.ReportError.{ReportError}
use Rattle.hegtalim.specs.declared.TimeError.{TimeError}

-- a report, by the reader of the slice, and by the book
unfoldable pub not_held : HoldError → ReportError
not_held HoldError.TooShort = ReportError.TooShort
not_held HoldError.NoPlan = ReportError.NoPlan

unfoldable pub not_taken : BookError → ReportError
not_taken (BookError.NoPoint timely) = ReportError.NoPoint
not_taken BookError.BadTime = ReportError.BadTime

-- a timetable, by the reader of the slice
unfoldable pub not_timed : HoldError → TimeError
not_timed HoldError.TooShort = TimeError.TooShort
not_timed HoldError.NoPlan = TimeError.NoPlan

-- Names every definition of this module, for a proof that computes with them all.
unfoldable pub open_errors : Unit {0}
unfolding not_held not_taken not_timed
open_errors = tt

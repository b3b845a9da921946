-- The answers' numbers (document 01, "Turned down because of the input" and "… of the state").
-- Assumes nothing.
use Rattle.std.specs.Prelude.{ℕ, ◌+◌, ◌*◌, ◌^◌, Result, Ok, Err}
use Rattle.floor.specs.Refusal.{reason_number, table_number}
use Rattle.tables.specs.declared.ReadError.{ReadError as LoadError}
use Rattle.hegtalim.specs.declared.ReportError.{ReportError}
use Rattle.hegtalim.specs.declared.TimeError.{TimeError}
use Rattle.hegtalim.specs.declared.answer.Answer.{Answer}

-- "table and record 0"
unfoldable pub plain : ℕ → Answer
plain n = record { refusal = n; table = 0; value = 0 }

-- a load's
abbrev pub Loaded : Type 0
Loaded = Result (Unit {0}) LoadError

unfoldable pub loaded_answer : Loaded → Answer
loaded_answer (Ok tt) = plain 0
loaded_answer (Err LoadError.TooShort) = plain 14
loaded_answer (Err (LoadError.Refused r)) = record { refusal = reason_number r.reason; table = table_number r.table; value = r.row }

-- a report's
abbrev pub Reported : Type 0
Reported = Result (Unit {0}) ReportError

unfoldable pub reported_answer : Reported → Answer
reported_answer (Ok tt) = plain 0
reported_answer (Err ReportError.TooShort) = plain 14
reported_answer (Err ReportError.NoPlan) = plain 10  -- "no plan held"
reported_answer (Err ReportError.NoPoint) = plain 11  -- "no such cart, or its last event has been passed"
reported_answer (Err ReportError.BadTime) = plain 12  -- "a time below the clock or over 10^12"

-- a timetable's: the number of passes, or why there are no times
abbrev pub Timed : Type 0
Timed = Result ℕ TimeError

unfoldable pub timed_answer : Timed → Answer
timed_answer (Ok k) = record { refusal = 0; table = 0; value = k }
timed_answer (Err TimeError.TooShort) = plain 14
timed_answer (Err TimeError.NoPlan) = plain 10
timed_answer (Err (TimeError.NoTimes n)) = record { refusal = 13; table = 0; value = n }  -- "its length given in the answer"

-- the one number that a C function returns: the refusal in the low byte, the table in the next, the value from bit 32 up
unfoldable pub c_number : Answer → ℕ
c_number a = a.refusal + 256 * a.table + 2 ^ 32 * a.value

-- Names every definition of this module, for a proof that computes with them all.
unfoldable pub open_answers : Unit {0}
unfolding plain loaded_answer reported_answer timed_answer c_number
open_answers = tt

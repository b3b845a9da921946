-- What is printed for three tables: the times of their plan, or the refusal.
-- Assumes nothing.
use Rattle.std.specs.Prelude.{ℕ, ◌*◌, true, false, List, leb, length, get_or, Option, None, Some, Err, Ok}
use Rattle.words.specs.Words.{written}
use Rattle.floor.specs.Refusal.{Judged, reason_number, table_number}
use Rattle.floor.specs.Plan.{Plan}
use Rattle.floor.specs.Tables.{Tables}
use Rattle.network.specs.Judge.{judge}
use Rattle.schedule.specs.Book.{first_book}
use Rattle.schedule.specs.Timetable.{Timetable, timetable}
use Rattle.printing.specs.Text.{times_text, refusal_text}

-- "prints the times": of a plan before any report; "13: no times exist"
unfoldable pub timed_output : Plan → Option Timetable → List ℕ
timed_output p None = refusal_text 13 0 0
timed_output p (Some t) = times_text p (λ (e : ℕ). get_or t.times e 0)

-- "A refusal gives its number, the table … and the record"
unfoldable pub judged_output : Judged Plan → List ℕ
judged_output (Err r) = refusal_text (reason_number r.reason) (table_number r.table) r.row
judged_output (Ok p) = timed_output p (timetable p (first_book p))

-- "The timetable program reads roads.csv, carts.csv and paths.csv and prints the times."
unfoldable pub output : Tables → List ℕ
output ts = judged_output (judge ts)

-- what an output slice needs: a first line and one for each event, 85 places each, four numbers of up to 20 digits, three commas, CR LF
abbrev pub output_need : ℕ
output_need = 85 * 4097

-- an answer, and what the output slice then holds
pub record Printing : Type 0 where
  pub answer : Option ℕ
  pub out : List ℕ

-- the output in the front of its slice; one that is too short stays as it came
unfoldable pub print : Tables → List ℕ → Printing
print ts out =
    elim (leb output_need (length out)) [
      | false ↦ record { answer = None; out = out }
      | true ↦ record { answer = Some (length (output ts)); out = written (output ts) out }
    ]

-- Names every definition of this module, for a proof that computes with them all.
unfoldable pub open_output : Unit {0}
unfolding timed_output judged_output output print
open_output = tt

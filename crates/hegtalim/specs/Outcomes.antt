-- What each call answers and leaves in the slices lent to it, on all input (document 01, "Turned down because of the input" and "… of the state").
-- Assumes nothing.
use Rattle.std.specs.Prelude.{ℕ, ◌≡◌, Bool, true, false, ◌&&◌, cond, List, [], ◌∷◌, ◌++◌, T, leb, length, replicate, Option, None, Some, Err, Ok}
use Rattle.floor.specs.Refusal.{Judged}
use Rattle.floor.specs.Plan.{Plan}
use Rattle.floor.specs.Tables.{Tables}
use Rattle.network.specs.Judge.{judge}
use Rattle.schedule.specs.Book.{Report, Book, has_next, in_time, acceptable}
use Rattle.schedule.specs.Timetable.{Timetable, timetable}
use Rattle.schedule.specs.Chain.{Item, is_chain}
use Rattle.schedule.specs.Lent.{Lent, long_enough, times_written, chain_written}
use Rattle.tables.specs.declared.ReadError.{ReadError as LoadError}
use Rattle.hegtalim.specs.Answers.{Loaded}
use Rattle.hegtalim.specs.declared.ReportError.{ReportError}
use Rattle.hegtalim.specs.Answers.{Reported}
use Rattle.hegtalim.specs.declared.TimeError.{TimeError}
use Rattle.hegtalim.specs.Answers.{Timed}
use Rattle.hegtalim.specs.Answers.{timed_answer, c_number}
use Rattle.slice.specs.PlanSlice.{plan_need, plan_slice, Held, held}

-- ---- load

-- an answer, and what the plan slice then holds
pub record Load : Type 0 where
  pub answer : Loaded
  pub plan : List ℕ

-- "A refused load, 14 excepted, leaves no plan held and every slice lent for writing zero. After an accepted one, unused places are zero."
unfoldable pub load_judged : Tables → ℕ → Judged Plan → Load
load_judged ts n (Err r) = record { answer = Err (LoadError.Refused r); plan = replicate n 0 }
load_judged ts n (Ok p) = record { answer = (Ok tt); plan = plan_slice n ts [] }

-- "14: a lent slice shorter than the limits above need (tables excepted"; "First of all."
unfoldable pub load : Tables → List ℕ → Load
load ts plan =
    elim (leb plan_need (length plan)) [
      | false ↦ record { answer = (Err LoadError.TooShort); plan = plan }
      | true ↦ load_judged ts (length plan) (judge ts)
    ]

-- ---- report

-- an answer, and what the plan slice then holds
pub record Reporting : Type 0 where
  pub answer : Reported
  pub plan : List ℕ

-- "if its cart isn't there or has passed all its points, it is an 11. Else, if its time is below the clock or over 10^12, it is a 12. … Any other is accepted"
unfoldable pub book_answer : Plan → Book → Report → Reported
book_answer p b r = cond (has_next p b r) (cond (in_time b r) (Ok tt) (Err ReportError.BadTime)) (Err ReportError.NoPoint)

-- "14 and 10 to 12 change nothing at all"; an accepted report is one entry more in the log
unfoldable pub report_held : List ℕ → Report → Option Held → Reporting
report_held s r None = record { answer = (Err ReportError.NoPlan); plan = s }
report_held s r (Some h) =
    record {
      answer = book_answer h.plan h.book r;
      plan = elim (acceptable h.plan h.book r) [ true ↦ plan_slice (length s) h.tables (h.log ++ (r ∷ [])) | false ↦ s ];
    }

-- "Order: 14, 10, 11, 12"
unfoldable pub report : List ℕ → Report → Reporting
report s r =
    elim (leb plan_need (length s)) [
      | false ↦ record { answer = (Err ReportError.TooShort); plan = s }
      | true ↦ report_held s r (held s)
    ]

-- ---- timetable

-- the plan slice and its own slices meet their needs
unfoldable pub meets_needs : List ℕ → Lent → Bool
meets_needs s l = leb plan_need (length s) && long_enough l

-- "Order: 14, 10, …, 13": a timetable that gets the plan slice s, which it cannot write, and these slices, its answer, and the slices as it leaves
-- them. Which chain comes back is free, and nothing else
pub data Timetabled (s : List ℕ) (l : Lent) : Timed → Lent → Type 0 where
  too_short : meets_needs s l ≡ false → Timetabled s l (Err TimeError.TooShort) l
  no_plan : meets_needs s l ≡ true → held s ≡ None → Timetabled s l (Err TimeError.NoPlan) l
  timed : meets_needs s l ≡ true → (h : Held) → held s ≡ Some h
      → (t : Timetable) → timetable h.plan h.book ≡ Some t
      → Timetabled s l (Ok t.passes) (times_written t l)
  no_times : meets_needs s l ≡ true → (h : Held) → held s ≡ Some h
      → timetable h.plan h.book ≡ None
      → (is : List Item) → T (is_chain h.plan h.book is)
      → Timetabled s l (Err (TimeError.NoTimes (length is))) (chain_written is l)

-- the same, with the one number that a C function returns for the answer
pub record TimetabledNumber (s : List ℕ) (l : Lent) (number : ℕ) (l' : Lent) : Type 0 where
  pub answer : Timed
  pub outcome : Timetabled s l answer l'
  pub number_is : number ≡ c_number (timed_answer answer)

-- Names every definition of this module, for a proof that computes with them all.
unfoldable pub open_outcomes : Unit {0}
unfolding load_judged load book_answer report_held report meets_needs
open_outcomes = tt

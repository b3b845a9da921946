-- A row: three tables, the reports made on the plan, and what document 01 says of it, against what the definitions say.
-- Assumes nothing.
use Rattle.std.specs.Prelude.{ℕ, suc, cond, List, [], ◌∷◌, map, nat_abs, length, get_or, Option, None, Some, Err, Ok}
use Rattle.floor.specs.Plan.{Plan}
use Rattle.floor.specs.Tables.{Tables}
use Rattle.network.specs.Events.{event_count}
use Rattle.network.specs.Bounds.{bounds}
use Rattle.network.specs.Judge.{judge}
use Rattle.schedule.specs.Book.{Report, Book, first_book, book_after}
use Rattle.schedule.specs.Timetable.{Timetable, timetable}
use Rattle.schedule.specs.Added.{numbered_bounds}
use Rattle.schedule.specs.Chain.{Item, Leg, legs, cost, is_chain}
use Rattle.tables.specs.declared.ReadError.{ReadError as LoadError}
use Rattle.hegtalim.specs.declared.answer.Answer.{Answer}
use Rattle.hegtalim.specs.Answers.{plain, loaded_answer, reported_answer}
use Rattle.hegtalim.specs.Outcomes.{book_answer}

-- what may be asked of a plan: the load's refusal (0: accepted), its table and its record; the number of events and of bounds; the refusal of the last
-- report (0: taken); whether no times exist (13, else 0); the passes; the time of an event; whether a list of items is a chain (1)
-- or not (0); what items cost, added, without the sign
pub data Question : Type 0 where
  load table_refused record_refused events bounded last_report timed passes : Question
  time_of : ℕ → Question
  chain cost_of : List Item → Question

-- a question, and the document's answer
pub record Fact : Type 0 where
  pub asks : Question
  pub says : ℕ

-- tables, the reports made on their plan, and what is said of it
pub record Row : Type 0 where
  pub tables : Tables
  pub reports : List Report
  pub facts : List Fact

-- the book and the last answer after some reports
pub record Progress : Type 0 where
  pub book : Book
  pub answer : Answer

-- the progress after some reports more
unfoldable pub after : Plan → Progress → List Report → Progress
after p g [] = g
after p g (r ∷ rs) =
    after p (record { book = book_after p g.book r; answer = reported_answer (book_answer p g.book r) }) rs

-- the refusal of a timetable
unfoldable pub is_timed : Option Timetable → ℕ
is_timed None = 13
is_timed (Some t) = 0

-- its passes
unfoldable pub passes_of : Option Timetable → ℕ
passes_of None = 0
passes_of (Some t) = t.passes

-- its time for event e
unfoldable pub time_at : ℕ → Option Timetable → ℕ
time_at e None = 0
time_at e (Some t) = get_or t.times e 0

-- what legs cost, without the sign
unfoldable pub size : Option (List Leg) → ℕ
size None = 0
size (Some ls) = nat_abs (cost ls)

-- what the definitions answer of an accepted plan, with its progress and its timetable
unfoldable pub reply : Plan → Progress → Option Timetable → Question → ℕ
reply p g t load = 0
reply p g t table_refused = 0
reply p g t record_refused = 0
reply p g t events = event_count p
reply p g t bounded = length (bounds p)
reply p g t last_report = g.answer.refusal
reply p g t timed = is_timed t
reply p g t passes = passes_of t
reply p g t (time_of e) = time_at e t
reply p g t (chain is) = cond (is_chain p g.book is) 1 0
reply p g t (cost_of is) = size (legs (numbered_bounds p g.book) is)

-- and of a refused one: nothing but the refusal can be asked
unfoldable pub refused_reply : Answer → Question → ℕ
refused_reply a load = a.refusal
refused_reply a table_refused = a.table
refused_reply a record_refused = a.value
refused_reply a events = 0
refused_reply a bounded = 0
refused_reply a last_report = 0
refused_reply a timed = 0
refused_reply a passes = 0
refused_reply a (time_of e) = 0
refused_reply a (chain is) = 0
refused_reply a (cost_of is) = 0

-- by the timetable given
unfoldable pub replies : (Plan → Book → Option Timetable) → Row → List ℕ
replies table_of r =
    elim (judge r.tables) [
      | Err why ↦ map (λ (f : Fact). refused_reply (loaded_answer (Err (LoadError.Refused why))) f.asks) r.facts
      | Ok p ↦
          let g : Progress = after p (record { book = first_book p; answer = plain 0 }) r.reports in
          let t : Option Timetable = table_of p g.book in
          map (λ (f : Fact). reply p g t f.asks) r.facts
    ]

-- the answers that follow from the definitions
unfoldable pub follows : Row → List ℕ
follows = replies timetable

-- the answers that the document gives
unfoldable pub stated : Row → List ℕ
stated r = map (λ (f : Fact). f.says) r.facts

infix 20 ◌is◌
abbrev pub ◌is◌ : Question → ℕ → Fact
q is n = record { asks = q; says = n }

-- events from e on have these times
unfoldable pub times_from : ℕ → List ℕ → List Fact
times_from e [] = []
times_from e (t ∷ ts) = (time_of e is t) ∷ times_from (suc e) ts

-- Names every definition of this module, for a proof that computes with them all.
unfoldable pub open_row : Unit {0}
unfolding after is_timed passes_of time_at size reply refused_reply replies follows stated times_from
open_row = tt

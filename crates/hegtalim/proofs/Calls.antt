-- What an accepted load leaves, and what a report does to a slice that holds a plan. Assumes nothing.
use Rattle.std.specs.Prelude.{Option, None, Some, Err, Ok}
use Prim.Native.Nat.{ℕ, ◌≤◌}
use mathlib.Core.Path.{◌≡◌, refl, ap, sym, ◌∙◌, subst}
use mathlib.Core.Bool.{Bool, true, false, ◌&&◌, cond}
use mathlib.Core.List.{List, [], ◌∷◌, ◌++◌}
use lib.Dec.{T, leb, leb→le, le→leb}
use lib.ListN.{length}
use Rattle.laws.proofs.Tests.{passes}
use Rattle.floor.specs.Refusal.{Judged}
use Rattle.floor.specs.Plan.{Plan}
use Rattle.floor.specs.Tables.{Tables}
use Rattle.network.specs.Judge.{judge}
use Rattle.schedule.specs.Book.{Report, Book, first_book, replay, has_next, in_time, acceptable}
use Rattle.tables.specs.declared.ReadError.{ReadError as LoadError}
use Rattle.hegtalim.specs.Answers.{Loaded}
use Rattle.hegtalim.specs.declared.ReportError.{ReportError}
use Rattle.hegtalim.specs.Answers.{Reported}
use Rattle.slice.specs.PlanSlice.{plan_need, plan_slice, Held, held}
use Rattle.hegtalim.specs.Outcomes.{Load, load_judged, load, Reporting, book_answer, report_held, report}
use Rattle.slice.proofs.Slice.{held_slice, slice_length}

-- ---- load

-- whether a load is accepted
abbrev is_held : Loaded → Bool
is_held (Ok tt) = true
is_held (Err LoadError.TooShort) = false
is_held (Err (LoadError.Refused r)) = false

-- a load into a slice that is long enough goes by how the tables are judged
pub load_on : (ts : Tables) (before : List ℕ) (j : Judged Plan) → plan_need ≤ length before → judge ts ≡ j → load ts before ≡ load_judged ts (length before) j
unfolding load
load_on ts before j h e =
    ap (λ (t : Bool). elim t [ false ↦ record { answer = (Err LoadError.TooShort); plan = before } | true ↦ load_judged ts (length before) (judge ts) ])
    (passes (leb plan_need (length before)) (le→leb plan_need (length before) h))
    ∙ ap (load_judged ts (length before)) e

-- that of accepted tables
pub load_accepted : (ts : Tables) (before : List ℕ) (p : Plan) → plan_need ≤ length before → judge ts ≡ Ok p
    → load ts before ≡ record { answer = (Ok tt); plan = plan_slice (length before) ts [] }
unfolding load_judged
load_accepted ts before p h e = load_on ts before (Ok p) h e

-- only that is accepted
pub load_held : (ts : Tables) (before : List ℕ) → (load ts before).answer ≡ (Ok tt)
    → (p : Plan) × (plan_need ≤ length before) × (judge ts ≡ Ok p)
unfolding load load_judged
load_held ts before e = by (leb plan_need (length before)) refl (judge ts) refl e
  where
    by : (t : Bool) → leb plan_need (length before) ≡ t → (j : Judged Plan) → judge ts ≡ j
        → (elim t as (λ _. Load) [ false ↦ record { answer = (Err LoadError.TooShort); plan = before } | true ↦ load_judged ts (length before) j ]).answer ≡ (Ok tt)
        → (p : Plan) × (plan_need ≤ length before) × (judge ts ≡ Ok p)
    by false q j ej e = absurd (subst T (sym (ap is_held e)) tt)
    by true q (Err r) ej e = absurd (subst T (sym (ap is_held e)) tt)
    by true q (Ok p) ej e = (p, leb→le plan_need (length before) (subst T (sym q) tt), ej)

-- ---- report

-- whether a report is accepted
abbrev is_taken : Reported → Bool
is_taken (Ok tt) = true
is_taken (Err ReportError.TooShort) = false
is_taken (Err ReportError.NoPlan) = false
is_taken (Err ReportError.NoPoint) = false
is_taken (Err ReportError.BadTime) = false

-- a report to a slice that is long enough goes by what it holds
pub report_on : (s : List ℕ) (r : Report) (o : Option Held) → plan_need ≤ length s → held s ≡ o → report s r ≡ report_held s r o
unfolding report
report_on s r o h e =
    ap (λ (t : Bool). elim t [ false ↦ record { answer = (Err ReportError.TooShort); plan = s } | true ↦ report_held s r (held s) ])
    (passes (leb plan_need (length s)) (le→leb plan_need (length s) h))
    ∙ ap (report_held s r) e

-- the book accepts an acceptable report
pub answered_taken : (p : Plan) (b : Book) (r : Report) → acceptable p b r ≡ true → book_answer p b r ≡ (Ok tt)
unfolding acceptable book_answer
answered_taken p b r e = by (has_next p b r) (in_time b r) e
  where
    by : (t u : Bool) → (t && u) ≡ true → ◌≡◌ {A = Reported} (cond t (cond u (Ok tt) (Err ReportError.BadTime)) (Err ReportError.NoPoint)) (Ok tt)
    by true true e = refl
    by true false e = absurd (subst T (sym e) tt)
    by false u e = absurd (subst T (sym e) tt)

-- and to no other
pub taken_acceptable : (p : Plan) (b : Book) (r : Report) → book_answer p b r ≡ (Ok tt) → acceptable p b r ≡ true
unfolding acceptable book_answer
taken_acceptable p b r e = by (has_next p b r) (in_time b r) e
  where
    by : (t u : Bool) → ◌≡◌ {A = Reported} (cond t (cond u (Ok tt) (Err ReportError.BadTime)) (Err ReportError.NoPoint)) (Ok tt) → (t && u) ≡ true
    by true true e = refl
    by true false e = absurd (subst T (sym (ap is_taken e)) tt)
    by false u e = absurd (subst T (sym (ap is_taken e)) tt)

-- a report to a slice that holds accepted tables and a log that is replayed: the book answers, and an acceptable one is one entry more in the log
pub report_slice : (n : ℕ) (ts : Tables) (p : Plan) (log : List Report) (b : Book) (r : Report) → plan_need ≤ n → judge ts ≡ Ok p
    → replay p (first_book p) log ≡ Some b
    → report (plan_slice n ts log) r
    ≡ record {
      answer = book_answer p b r;
      plan = elim (acceptable p b r) [ true ↦ plan_slice n ts (log ++ (r ∷ [])) | false ↦ plan_slice n ts log ];
    }
unfolding report_held
report_slice n ts p log b r h ej er =
    let s : List ℕ = plan_slice n ts log in
    let e : length s ≡ n = slice_length n ts p log b h ej er in
    report_on s r (Some (record { tables = ts; log = log; plan = p; book = b })) (subst (λ (x : ℕ). plan_need ≤ x) (sym e) h) (held_slice n ts p log b h ej er)
    ∙ ap (λ (x : ℕ). record { answer = book_answer p b r; plan = elim (acceptable p b r) [ true ↦ plan_slice x ts (log ++ (r ∷ [])) | false ↦ s ] }) e

-- a report that is accepted: the slice holds a plan, the report is acceptable, and it is one entry more in the log
pub report_taken : (s : List ℕ) (r : Report) → (report s r).answer ≡ (Ok tt)
    → (h : Held) × (held s ≡ Some h) × (acceptable h.plan h.book r ≡ true)
    × ((report s r).plan ≡ plan_slice (length s) h.tables (h.log ++ (r ∷ [])))
unfolding report report_held
report_taken s r e = by (leb plan_need (length s)) (held s) refl e
  where
    by : (t : Bool) (o : Option Held) → held s ≡ o
        → (elim t as (λ _. Reporting) [ false ↦ record { answer = (Err ReportError.TooShort); plan = s } | true ↦ report_held s r o ]).answer ≡ (Ok tt)
        → (h : Held) × (held s ≡ Some h) × (acceptable h.plan h.book r ≡ true)
        × ((elim t as (λ _. Reporting) [ false ↦ record { answer = (Err ReportError.TooShort); plan = s } | true ↦ report_held s r o ]).plan ≡ plan_slice (length s) h.tables (h.log ++ (r ∷ [])))
    by false o q e = absurd (subst T (sym (ap is_taken e)) tt)
    by true None q e = absurd (subst T (sym (ap is_taken e)) tt)
    by true (Some h) q e =
        let a : acceptable h.plan h.book r ≡ true = taken_acceptable h.plan h.book r e in
        (h, q, a, ap (λ (t : Bool). elim t [ true ↦ plan_slice (length s) h.tables (h.log ++ (r ∷ [])) | false ↦ s ]) a)

-- What is printed for three tables, by what a load and a timetable say of them. Assumes nothing.
use Rattle.std.specs.Prelude.{Option, None, Some, Err, Ok}
use Prim.Native.Nat.{ℕ, ◌≤◌, ◌<◌}
use native.Mathlib.Omega.{arith}
use mathlib.Core.Path.{◌≡◌, refl, ap, sym, ◌∙◌, subst}
use mathlib.Core.Bool.{Bool, true, false}
use mathlib.Core.List.{List, []}
use lib.Dec.{leb}
use lib.ListN.{length, drop, get_or, length-append}
use borrow.Author.Tests.{le-leb, lt-leb}
use Rattle.words.specs.Words.{written}
use Rattle.floor.specs.Refusal.{Judged, reason_number, table_number}
use Rattle.floor.specs.Plan.{Plan}
use Rattle.floor.specs.Tables.{Tables}
use Rattle.network.specs.Judge.{judge}
use Rattle.network.specs.Events.{event_count}
use Rattle.network.proofs.Judged.{judged}
use Rattle.rfc4180.specs.Text.{bytes}
use Rattle.floor.specs.declared.Refusal.{Refusal}
use Rattle.printing.proofs.Digits.{field_most, ending_most}
use Rattle.printing.proofs.Texts.{refusal_whole}
use Rattle.printing.proofs.Timings.{none_text}
use Rattle.printing.proofs.EventTexts.{text_most}
use Rattle.schedule.specs.Book.{first_book, replay}
use Rattle.schedule.specs.Timetable.{Timetable, timetable}
use Rattle.slice.specs.PlanSlice.{plan_slice, Held, held}
use Rattle.slice.proofs.Slice.{held_slice}
use Rattle.tables.specs.declared.ReadError.{ReadError as LoadError}
use Rattle.hegtalim.specs.Answers.{Loaded}
use Rattle.hegtalim.specs.Outcomes.{Load, load_judged, load}
use Rattle.hegtalim.proofs.Calls.{load_on, load_accepted, load_held}
use Rattle.printing.specs.Text.{refusal_text}
use Rattle.printing.specs.Output.{timed_output, judged_output, output, output_need, Printing, print}

-- ---- what is answered and left

-- a slice that is too short stays as it came
pub print_short : (ts : Tables) (out : List ℕ) → length out < 348_245 → print ts out ≡ record { answer = None; out = out }
unfolding print
print_short ts out h =
    ap (λ (b : Bool). elim b as (λ _. Printing) [ false ↦ record { answer = None; out = out } | true ↦ record { answer = Some (length (output ts)); out = written (output ts) out } ]) (lt-leb 348_245 (length out) h)

-- the output is put
pub print_whole : (ts : Tables) (out : List ℕ) → 348_245 ≤ length out → print ts out ≡ record { answer = Some (length (output ts)); out = written (output ts) out }
unfolding print
print_whole ts out h =
    ap (λ (b : Bool). elim b as (λ _. Printing) [ false ↦ record { answer = None; out = out } | true ↦ record { answer = Some (length (output ts)); out = written (output ts) out } ]) (le-leb 348_245 (length out) h)

-- ---- how long an output is

-- a refusal of a table
refused_most : (r : Refusal) → length (refusal_text (reason_number r.reason) (table_number r.table) r.row) ≤ output_need
unfolding bytes
refused_most r =
    let n : ℕ = reason_number r.reason in
    let t : ℕ = table_number r.table in
    omega (
      arith,
      ap length (refusal_whole n r.table r.row),
      length-append {A = ℕ},
      field_most n,
      field_most t,
      ending_most r.row,
    )

-- any output
pub output_most : (ts : Tables) → length (output ts) ≤ output_need
unfolding output judged_output timed_output bytes
output_most ts = by (judge ts) refl
  where
    timed_most : (p : Plan) → event_count p ≤ 4096 → (o : Option Timetable) → length (timed_output p o) ≤ output_need
    timed_most p few None = omega (arith, ap length none_text)
    timed_most p few (Some t) = text_most (λ (e : ℕ). get_or t.times e 0) p few

    by : (j : Judged Plan) → judge ts ≡ j → length (judged_output j) ≤ output_need
    by (Err r) e = refused_most r
    by (Ok p) e = timed_most p (judged ts p e).1 (timetable p (first_book p))

-- ---- by what a load says

-- of tables with this output: never that the slice is too short, and a refusal is the output
abbrev pub Said : List ℕ → Loaded → Type 0
Said text (Err LoadError.TooShort) = ⊥
Said text (Err (LoadError.Refused r)) = refusal_text (reason_number r.reason) (table_number r.table) r.row ≡ text
Said text (Ok u) = Unit {0}

module _ (ts : Tables) (before : List ℕ) (long : 233_472 ≤ length before) where
  -- the slice is long enough, so the tables are judged
  loads : load ts before ≡ load_judged ts (length before) (judge ts)
  loads = load_on ts before (judge ts) long refl

  -- what it says
  pub said : {x y : Loaded} → x ≡ (load ts before).answer → x ≡ y → Said (output ts) y
  unfolding load_judged output judged_output
  said e q = subst (Said (output ts)) (sym (e ∙ ap (λ (x : Load). x.answer) loads) ∙ q) (by (judge ts))
    where
      by : (j : Judged Plan) → Said (judged_output j) (load_judged ts (length before) j).answer
      by (Err r) = refl
      by (Ok p) = tt

  -- a plan held: what is put of it is the output
  pub held_output : (x : Loaded) → x ≡ (Ok tt) → x ≡ (load ts before).answer → (plan : List ℕ) → plan ≡ (load ts before).plan → (P : List ℕ → Type 0)
      → ((h : Held) → held plan ≡ Some h → P (timed_output h.plan (timetable h.plan h.book))) → P (output ts)
  unfolding output judged_output replay
  held_output x h e plan q P put =
      let (p, _, j) = load_held ts before (sym e ∙ h) in
      let is : plan ≡ plan_slice (length before) ts [] = q ∙ ap (λ (x : Load). x.plan) (load_accepted ts before p long j) in
      let there : held plan ≡ Some (record { tables = ts; log = []; plan = p; book = first_book p }) =
      ap held is ∙ held_slice (length before) ts p [] (first_book p) long j refl in
      subst (λ (x : Judged Plan). P (judged_output x)) (sym j) (put (record { tables = ts; log = []; plan = p; book = first_book p }) there)

-- ---- what is answered fits

-- how many bytes an answer says
abbrev bytes_said : Option ℕ → ℕ
bytes_said None = 0
bytes_said (Some n) = n

-- no more than the slice then has
pub answer_fits : (ts : Tables) (out : List ℕ) (n : ℕ) (t : List ℕ) → (Some n ≡ (print ts out).answer) × (t ≡ (print ts out).out) → n ≤ length t
unfolding print written
answer_fits ts out n t (e, f) = by (leb output_need (length out)) (ap bytes_said e) f
  where
    by : (b : Bool)
        → n ≡ bytes_said (elim b as (λ _. Printing) [ false ↦ record { answer = None; out = out } | true ↦ record { answer = Some (length (output ts)); out = written (output ts) out } ]).answer
        → t ≡ (elim b as (λ _. Printing) [ false ↦ record { answer = None; out = out } | true ↦ record { answer = Some (length (output ts)); out = written (output ts) out } ]).out
        → n ≤ length t
    by false z f = omega (arith, z)
    by true z f = omega (arith, z, ap length f, length-append (output ts) (drop (length (output ts)) out))

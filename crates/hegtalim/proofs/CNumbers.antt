-- What a load and a report answer fits into the one number that a C function returns. Assumes nothing.
use Rattle.std.specs.Prelude.{Err, Ok}
use Prim.Native.Nat.{ℕ, ◌≤◌, ◌<◌}
use native.Mathlib.Omega.{arith}
use mathlib.Core.Path.{◌≡◌, refl, sym, subst}
use mathlib.Core.Bool.{Bool, true, false}
use mathlib.Core.List.{List}
use lib.Dec.{leb}
use lib.ListN.{length}
use Rattle.floor.specs.declared.Reason.TheVariants.{Limit}
use Rattle.floor.specs.declared.Table.TheVariants.{Paths}
use Rattle.floor.specs.declared.Refusal.{Refusal}
use Rattle.floor.specs.Refusal.{Judged}
use Rattle.floor.specs.Plan.{Plan}
use Rattle.floor.specs.Tables.{Tables, read_tables}
use Rattle.tables.proofs.RefusalRows.{reason_small, table_small, refused_up_to, bind_up_to, need_up_to, tables_up_to}
use Rattle.network.specs.Events.{event_count}
use Rattle.network.specs.Bounds.{bounds}
use Rattle.network.specs.Judge.{within_limits, judge}
use Rattle.tables.specs.declared.ReadError.{ReadError as LoadError}
use Rattle.hegtalim.specs.declared.ReportError.{ReportError}
use Rattle.hegtalim.specs.declared.answer.Answer.{Answer}
use Rattle.hegtalim.specs.Answers.{Loaded, Reported, plain, loaded_answer, reported_answer}
use Rattle.slice.specs.PlanSlice.{plan_need}
use Rattle.hegtalim.specs.Outcomes.{Load, load_judged, load}

-- a refusal names a record up to the 8,193th: those of the last limits name none
refused_row : (ts : Tables) (r : Refusal) → judge ts ≡ Err r → r.row ≤ 8193
unfolding judge within_limits
refused_row ts r e =
    refused_up_to 8193 (judge ts) r
    (bind_up_to 8193 (read_tables ts) within_limits (tables_up_to ts) λ p _.
    need_up_to 8193 (leb (event_count p) 4096) Limit Paths 0 _ (omega arith)
    (need_up_to 8193 (leb (length (bounds p)) 8192) Limit Paths 0 (Ok p) (omega arith) tt))
    e

-- what fits into the one number
abbrev pub Small : Answer → Type 0
Small a = (a.refusal < 256) × (a.table < 256) × (a.value < 4_294_967_296)

-- what a load answers has a small value: the record of its refusal
value_small : (ts : Tables) (plan : List ℕ) (x : Loaded) → x ≡ (load ts plan).answer → (loaded_answer x).value < 4_294_967_296
unfolding load load_judged loaded_answer plain
value_small ts plan x is = subst (λ (y : Loaded). (loaded_answer y).value < 4_294_967_296) (sym is) (by (leb plan_need (length plan)) (judge ts) refl)
  where
    by : (b : Bool) (j : Judged Plan) → judge ts ≡ j
        → (loaded_answer
        (elim b as (λ _. Load) [ false ↦ record { answer = (Err LoadError.TooShort); plan = plan } | true ↦ load_judged ts (length plan) j ]).answer).value
        < 4_294_967_296
    by false j e = omega arith
    by true (Err r) e = omega (arith, refused_row ts r e)
    by true (Ok p) e = omega arith

-- and a small refusal and table
pub loaded_small : (ts : Tables) (plan : List ℕ) (x : Loaded) → x ≡ (load ts plan).answer → (a : Answer) → a ≡ loaded_answer x → Small a
unfolding loaded_answer plain
loaded_small ts plan x is a e = subst Small (sym e) ((bytes x).0, (bytes x).1, value_small ts plan x is)
  where
    bytes : (y : Loaded) → ((loaded_answer y).refusal < 256) × ((loaded_answer y).table < 256)
    bytes (Ok tt) = (omega arith, omega arith)
    bytes (Err LoadError.TooShort) = (omega arith, omega arith)
    bytes (Err (LoadError.Refused r)) = (omega (arith, reason_small r.reason), omega (arith, table_small r.table))

-- so has what a report answers
pub reported_small : (x : Reported) (a : Answer) → a ≡ reported_answer x → Small a
unfolding reported_answer plain
reported_small x a e = subst Small (sym e) (small x)
  where
    small : (y : Reported) → Small (reported_answer y)
    small (Ok tt) = (omega arith, omega arith, omega arith)
    small (Err ReportError.TooShort) = (omega arith, omega arith, omega arith)
    small (Err ReportError.NoPlan) = (omega arith, omega arith, omega arith)
    small (Err ReportError.NoPoint) = (omega arith, omega arith, omega arith)
    small (Err ReportError.BadTime) = (omega arith, omega arith, omega arith)

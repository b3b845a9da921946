-- No call makes a slice longer or shorter: what an outcome leaves has as many places as what was lent. Assumes nothing.
use Rattle.std.specs.Prelude.{Option, None, Some, Err, Ok}
use Prim.Native.Nat.{ℕ, ◌≤◌}
use native.Mathlib.Omega.{arith}
use mathlib.Core.Path.{◌≡◌, refl, sym, subst}
use mathlib.Core.Bool.{Bool, true, false}
use mathlib.Core.List.{List, [], ◌∷◌, ◌++◌, map}
use lib.Dec.{T, leb, leb→le}
use lib.ListN.{length, drop, length-append, length-drop, length-map, length-replicate}
use mir.Facts.{and_yes}
use Rattle.words.specs.Words.{words, written}
use Rattle.words.proofs.Reading.{words_length}
use Rattle.floor.specs.Refusal.{Judged}
use Rattle.floor.specs.Plan.{Plan}
use Rattle.floor.specs.Tables.{Tables}
use Rattle.network.specs.Events.{event_count}
use Rattle.network.specs.Judge.{judge}
use Rattle.network.proofs.Judged.{judged}
use Rattle.schedule.specs.Book.{Report, first_book, acceptable, replay}
use Rattle.schedule.specs.Chain.{Item, direction_number}
use Rattle.schedule.proofs.Log.{replay_snoc}
use Rattle.schedule.proofs.Logged.{Logged}
use Rattle.schedule.proofs.Times.{timetable_length}
use Rattle.schedule.proofs.ChainSizes.{chain_short}
use Rattle.tables.specs.declared.ReadError.{ReadError as LoadError}
use Rattle.hegtalim.specs.declared.ReportError.{ReportError}
use Rattle.hegtalim.specs.Answers.{Timed}
use Rattle.slice.specs.PlanSlice.{plan_need, plan_slice, Held, held}
use Rattle.schedule.specs.Lent.{Lent, long_enough, times_written, chain_written}
use Rattle.schedule.proofs.Lent.{Room, room}
use Rattle.hegtalim.specs.Outcomes.{Load, load_judged, load, Reporting, report_held, report, meets_needs, Timetabled, too_short, no_plan, timed, no_times}
use Rattle.slice.proofs.Slice.{slice_length, held_says}

-- ---- load and report

judged_length : (ts : Tables) (n : ℕ) → plan_need ≤ n → (j : Judged Plan) → judge ts ≡ j → length (load_judged ts n j).plan ≡ n
unfolding load_judged replay
judged_length ts n h (Err r) e = length-replicate n 0
judged_length ts n h (Ok p) e = slice_length n ts p [] (first_book p) h e refl

pub load_length : (ts : Tables) (before : List ℕ) → length (load ts before).plan ≡ length before
unfolding load
load_length ts before = by (leb plan_need (length before)) refl
  where
    by : (t : Bool) → leb plan_need (length before) ≡ t
        → length (elim t as (λ _. Load) [ false ↦ record { answer = (Err LoadError.TooShort); plan = before } | true ↦ load_judged ts (length before) (judge ts) ]).plan ≡ length before
    by false e = refl
    by true e = judged_length ts (length before) (leb→le plan_need (length before) (subst T (sym e) tt)) (judge ts) refl

held_length : (s : List ℕ) (r : Report) (o : Option Held) → held s ≡ o → length (report_held s r o).plan ≡ length s
unfolding report_held
held_length s r None e = refl
held_length s r (Some h) e = by (acceptable h.plan h.book r) refl
  where
    by : (t : Bool) → acceptable h.plan h.book r ≡ t
        → length {A = ℕ} (elim t [ true ↦ plan_slice (length s) h.tables (h.log ++ (r ∷ [])) | false ↦ s ]) ≡ length s
    by false q = refl
    by true q =
        let (n, j, f, g) = held_says s h e in
        slice_length (length s) h.tables h.plan (h.log ++ (r ∷ [])) _ n j (replay_snoc h.plan (first_book h.plan) h.book h.log r f q)

pub report_length : (s : List ℕ) (r : Report) → length (report s r).plan ≡ length s
unfolding report
report_length s r = by (leb plan_need (length s))
  where
    by : (t : Bool) → length (elim t as (λ _. Reporting) [ false ↦ record { answer = (Err ReportError.TooShort); plan = s } | true ↦ report_held s r (held s) ]).plan ≡ length s
    by false = refl
    by true = held_length s r (held s) refl

-- ---- timetable

-- a slice whose front is written over, where it has the places
written_length : (front s : List ℕ) → length front ≤ length s → length (written front s) ≡ length s
unfolding written
written_length front s h = omega (arith, length-append front (drop (length front) s), length-drop (length front) s)

-- the slices have as many places as before
pub record SameLengths (l l' : Lent) : Type 0 where
  pub times : length l'.times ≡ length l.times
  pub chain_bounds : length l'.chain_bounds ≡ length l.chain_bounds
  pub chain_directions : length l'.chain_directions ≡ length l.chain_directions

pub unchanged : (l : Lent) → SameLengths l l
unchanged l = record { times = refl; chain_bounds = refl; chain_directions = refl }

-- slices that meet their needs have room
has_room : (s : List ℕ) (l : Lent) → meets_needs s l ≡ true → Room l
unfolding meets_needs
has_room s l e = room l (and_yes (leb plan_need (length s)) (long_enough l) (subst T (sym e) tt)).1

held_logged : (s : List ℕ) (h : Held) → held s ≡ Some h → Logged h.plan h.book × (event_count h.plan ≤ 4096)
held_logged s h e =
    let (n, j, r, q) = held_says s h e in
    (record { tables = h.tables; of_tables = j; log = h.log; replayed = r }, (judged h.tables h.plan j).1)

pub timetable_lengths : (s : List ℕ) (l l' : Lent) (a : Timed) → Timetabled s l a l' → SameLengths l l'
unfolding times_written chain_written
timetable_lengths s l l' a (too_short e) = unchanged l
timetable_lengths s l l' a (no_plan e f) = unchanged l
timetable_lengths s l l' a (timed e h f t g) =
    let (k, few) = held_logged s h f in
    let need = (has_room s l e).times_long in
    record {
      times = written_length (words 8 t.times) l.times (omega (arith, words_length 8 t.times, timetable_length h.plan h.book k t g, few, need));
      chain_bounds = refl;
      chain_directions = refl;
    }
timetable_lengths s l l' a (no_times e h f g is c) =
    let (k, few) = held_logged s h f in
    let short = chain_short h.plan h.book k is c in
    let numbers : List ℕ = map (λ (i : Item). i.number) is in
    let directions : List ℕ = map (λ (i : Item). direction_number i.direction) is in
    let places = (has_room s l e).bounds_long in
    let rooms = (has_room s l e).directions_long in
    record {
      times = refl;
      chain_bounds = written_length (words 2 numbers) l.chain_bounds (omega (arith, words_length 2 numbers, length-map is (λ (i : Item). i.number), short, few, places));
      chain_directions = written_length directions l.chain_directions (omega (arith, length-map is (λ (i : Item). direction_number i.direction), short, few, rooms));
    }

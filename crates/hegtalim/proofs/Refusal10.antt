-- A slice holds a plan exactly if an accepted load, with accepted reports since, leaves it. Assumes nothing.
use Rattle.std.specs.Prelude.{Some, Ok}
use Prim.Native.Nat.{ℕ, ◌≤◌}
use mathlib.Core.Path.{◌≡◌, refl, ap, sym, ◌∙◌, subst}
use mathlib.Core.Bool.{Bool, true, false}
use mathlib.Core.List.{List, [], ◌∷◌, ◌++◌, append-nil}
use lib.ListN.{length}
use lib.Seq.{append_snoc}
use Rattle.floor.specs.Plan.{Plan}
use Rattle.floor.specs.Tables.{Tables}
use Rattle.network.specs.Judge.{judge}
use Rattle.schedule.specs.Book.{Report, Book, first_book, acceptable, pass_next, replay}
use Rattle.schedule.proofs.Log.{replay_first, replay_snoc}
use Rattle.slice.specs.PlanSlice.{plan_need, plan_slice, Held, held}
use Rattle.hegtalim.specs.Outcomes.{Load, load, Reporting, book_answer, report}
use Rattle.hegtalim.specs.Claim.{Left, by_load, by_report, Refusal10}
use Rattle.slice.proofs.Slice.{held_slice, held_says}
use Rattle.hegtalim.proofs.Calls.{load_accepted, load_held, answered_taken, report_slice, report_taken}

-- the log of a load is empty, and is replayed
replay_none : (p : Plan) → replay p (first_book p) [] ≡ Some (first_book p)
unfolding replay
replay_none p = refl

-- ---- what is left is held

-- an accepted load's slice
load_holds : (ts : Tables) (before : List ℕ) (p : Plan) → plan_need ≤ length before → judge ts ≡ Ok p
    → (h : Held) × (held (load ts before).plan ≡ Some h)
load_holds ts before p l e = (
  record { tables = ts; log = []; plan = p; book = first_book p },
  ap (λ (x : Load). held x.plan) (load_accepted ts before p l e) ∙ held_slice (length before) ts p [] (first_book p) l e (replay_none p),
)

-- the slice after an accepted report to one that holds a plan
report_holds : (s : List ℕ) (r : Report) (h : Held) → held s ≡ Some h → acceptable h.plan h.book r ≡ true
    → (report s r).plan ≡ plan_slice (length s) h.tables (h.log ++ (r ∷ []))
    → (g : Held) × (held (report s r).plan ≡ Some g)
report_holds s r h e a w =
    let (long, judged, replayed, written) = held_says s h e in
    let log : List Report = h.log ++ (r ∷ []) in
    let b : Book = pass_next h.book r in (
      record { tables = h.tables; log = log; plan = h.plan; book = b },
      ap held w ∙ held_slice (length s) h.tables h.plan log b long judged (replay_snoc h.plan (first_book h.plan) h.book h.log r replayed a),
    )

-- by the last call that left it
left_held : (s : List ℕ) → Left s → (h : Held) × (held s ≡ Some h)
left_held s (by_load ts before e) = let (p, l, ej) = load_held ts before e in load_holds ts before p l ej
left_held s (by_report t r was e) = let (h, eh, a, w) = report_taken t r e in report_holds t r h eh a w

-- ---- what is held is left

-- the slice of a log is left where that of its beginning is: one report after the other
left_log : (n : ℕ) (ts : Tables) (p : Plan) (done more : List Report) (b c : Book) → plan_need ≤ n → judge ts ≡ Ok p
    → replay p (first_book p) done ≡ Some b → replay p b more ≡ Some c → Left (plan_slice n ts done) → Left (plan_slice n ts (done ++ more))
left_log n ts p done [] b c l ej ed em was = subst (λ (x : List Report). Left (plan_slice n ts x)) (sym (append-nil done)) was
left_log n ts p done (r ∷ rs) b c l ej ed em was =
    let (a, rest) = replay_first p b c r rs em in
    let next : List Report = done ++ (r ∷ []) in
    let e : report (plan_slice n ts done) r ≡ record { answer = book_answer p b r; plan = plan_slice n ts next } =
    report_slice n ts p done b r l ej ed
    ∙ ap (λ (t : Bool). record { answer = book_answer p b r; plan = elim t [ true ↦ plan_slice n ts next | false ↦ plan_slice n ts done ] }) a
    in
    let now : Left (plan_slice n ts next) =
    subst Left (ap (λ (x : Reporting). x.plan) e) (by_report (plan_slice n ts done) r was (ap (λ (x : Reporting). x.answer) e ∙ answered_taken p b r a))
    in
    subst (λ (x : List Report). Left (plan_slice n ts x)) (append_snoc done r rs)
    (left_log n ts p next rs (pass_next b r) c l ej (replay_snoc p (first_book p) b done r ed a) rest now)

-- a load into the slice itself leaves the tables alone, and the log's reports the rest
held_left : (s : List ℕ) (h : Held) → held s ≡ Some h → Left s
held_left s h e =
    let (long, judged, replayed, written) = held_says s h e in
    let loaded : load h.tables s ≡ record { answer = (Ok tt); plan = plan_slice (length s) h.tables [] } = load_accepted h.tables s h.plan long judged in
    let first : Left (plan_slice (length s) h.tables []) =
    subst Left (ap (λ (x : Load). x.plan) loaded) (by_load h.tables s (ap (λ (x : Load). x.answer) loaded))
    in
    subst Left (sym written)
    (left_log (length s) h.tables h.plan [] h.log (first_book h.plan) h.book long judged (replay_none h.plan) replayed first)

-- "10: no plan held: the plan slices hold bytes that no accepted load, with accepted reports since, leaves."
pub refusal_10 : Refusal10
refusal_10 s = (λ x. held_left s x.0 x.1, left_held s)

-- What a report answers and leaves, by what the reader of the slice and the book say. Assumes nothing.
use Rattle.std.specs.Prelude.{None, Some, Result, Ok, Err}
use Prim.Native.Nat.{ℕ, ◌%◌, ◌≤◌}
use native.Mathlib.Omega.{arith}
use mathlib.Core.Path.{◌≡◌, refl, ap, ap₂, sym, ◌∙◌}
use mathlib.Core.Bool.{Bool, true, false, ◌&&◌, cond}
use mathlib.Core.List.Memᴰ
use mathlib.Core.List.{List, [], ◌∷◌, ◌++◌}
use lib.ListN.{length, take, drop}
use borrow.Author.Tests.{lt-leb}
use Rattle.schedule.specs.Book.{Report, ◌at◌, first_book, has_next, in_time, acceptable, pass_next, replay}
use Rattle.schedule.proofs.Log.{replay_snoc, log_carts_times}
use Rattle.collisions.specs.declared.Paths.{Paths}
use Rattle.limits.specs.OfPaths.{plan_of}
use Rattle.book.specs.declared.ReportError.{ReportError as BookError}
use Rattle.book.specs.Log.{log_book, answered, checked}
use Rattle.slice.specs.declared.Holding.{Holding}
use Rattle.slice.specs.declared.HoldError.{HoldError}
use Rattle.tables.specs.Reading.{Arrays}
use Rattle.slice.specs.PlanSlice.{plan_need, plan_slice, Held, held}
use Rattle.slice.specs.Holding.{Answer, read_slice}
use Rattle.slice.specs.Entry.{with_entry}
use Rattle.slice.specs.HeldPlan.{log_of, Holds}
use Rattle.slice.proofs.Slice.{slice_at_least, judged_fit, replayed_fits, held_says}
use Rattle.slice.proofs.Entries.{entry_added}
use Rattle.slice.proofs.LaidPlan.{blank}
use Rattle.slice.proofs.HeldPlan.{sound, checked_there, no_plan, held_there, short_slice, long_slice}
use Rattle.hegtalim.specs.declared.ReportError.{ReportError}
use Rattle.hegtalim.specs.Answers.{Reported}
use Rattle.hegtalim.specs.Errors.{not_held, not_taken}
use Rattle.hegtalim.specs.Outcomes.{Reporting, book_answer, report_held, report}
use Rattle.hegtalim.proofs.Calls.{report_on}

-- an answer, and the slice as it is left
abbrev pub Leaves : List ℕ → Report → Reported → List ℕ → Type 0
Leaves s r a t = (a ≡ (report s r).answer) × (t ≡ (report s r).plan)

leaves : (s : List ℕ) (r : Report) (o : Reporting) → report s r ≡ o → Leaves s r o.answer o.plan
leaves s r o e = (sym (ap (λ (x : Reporting). x.answer) e), sym (ap (λ (x : Reporting). x.plan) e))

-- a report to a slice that holds a plan, by the two tests of its book
by_tests : (s : List ℕ) (r : Report) (h : Held) (a t : Bool) → has_next h.plan h.book r ≡ a → in_time h.book r ≡ t
    → report_held s r (Some h)
    ≡ record {
      answer = cond a (cond t (Ok tt) (Err ReportError.BadTime)) (Err ReportError.NoPoint);
      plan = elim (a && t) [ true ↦ plan_slice (length s) h.tables (h.log ++ (r ∷ [])) | false ↦ s ];
    }
unfolding report_held book_answer acceptable
by_tests s r h a t ea et =
    ap₂ {C = Reporting} (λ (x y : Bool). record {
      answer = cond x (cond y (Ok tt) (Err ReportError.BadTime)) (Err ReportError.NoPoint);
      plan = elim (x && y) [ true ↦ plan_slice (length s) h.tables (h.log ++ (r ∷ [])) | false ↦ s ];
    }) ea et

-- an accepted report stored behind the log
stored : (s : List ℕ) (h : Held) → held s ≡ Some h → (c t : ℕ) → acceptable h.plan h.book (c at t) ≡ true → length h.plan.carts ≤ 64
    → with_entry s (length h.log) ((c % 256) at t) ≡ plan_slice (length s) h.tables (h.log ++ ((c at t) ∷ []))
stored s h e c t a few =
    let (_, j, f, is) = held_says s h e in
    let log' : List Report = h.log ++ ((c at t) ∷ []) in
    let more : replay h.plan (first_book h.plan) log' ≡ Some (pass_next h.book (c at t)) =
    replay_snoc h.plan (first_book h.plan) h.book h.log (c at t) f a in
    let there = log_carts_times h.plan (first_book h.plan) (pass_next h.book (c at t)) log' more (c at t) (Memᴰ.append_right h.log (Memᴰ.head refl)) in
    let cart : c % 256 ≡ c = omega (arith, there.1, few) in
    ap₂ (λ (x : List ℕ) (i : ℕ). with_entry x (length h.log) (i at t)) is cart
    ∙ entry_added (length s) h.tables h.log (c at t) (judged_fit h.tables h.plan j)
    (replayed_fits h.tables h.plan log' (pass_next h.book (c at t)) j more) (slice_at_least (length s) h.tables h.log)

-- what the reader says of the slice
module _ (s : List ℕ) (c t : ℕ) (x : Answer) (is : x ≡ (read_slice s blank).answer) where
  abbrev r : Report
  r = c at t

  -- no plan is held
  pub none_held : (why : HoldError) → x ≡ Err why → Leaves s r (Err (not_held why)) s
  unfolding report report_held not_held
  none_held HoldError.TooShort q =
      leaves s r (record { answer = (Err ReportError.TooShort); plan = s })
      (ap (λ (b : Bool). elim b [ false ↦ record { answer = (Err ReportError.TooShort); plan = s } | true ↦ report_held s r (held s) ]) (lt-leb plan_need (length s) (short_slice s x is q)))
  none_held HoldError.NoPlan q =
      let long : plan_need ≤ length s = long_slice s x is (λ z. let e : Err HoldError.NoPlan ≡ Err HoldError.TooShort = sym q ∙ z in cc) in
      leaves s r (record { answer = (Err ReportError.NoPlan); plan = s }) (report_on s r None long (no_plan s long x is HoldError.NoPlan q))

  -- one is
  module _ (a : Arrays) (left : a ≡ (read_slice s blank).arrays)
      (n : Holding) (q : x ≡ Ok n) (log times : List ℕ) (is-log : log ≡ take n.reports (drop 196_608 s)) (is-times : times ≡ drop 200_704 s)
      (paths : Paths) (cells : paths.cells.now ≡ a.cells) (carts : paths.carts ≡ n.size.carts) (steps : paths.steps ≡ n.size.steps)
      (y : Result (Unit {0}) BookError) (qy : y ≡ checked (plan_of paths) (log_book paths.carts paths.steps paths.cells.now log times) r) where
    long : plan_need ≤ length s
    long = long_slice s x is (λ z. let e : Ok n ≡ Err HoldError.TooShort = sym q ∙ z in cc)

    there : Holds s a n
    there = held_there s long x is a left n q

    abbrev h : Held
    h = there.plan_held

    -- its book has answered
    said : y ≡ answered (has_next h.plan h.book r) (in_time h.book r)
    unfolding checked log_of
    said =
        qy ∙ ap₂ (λ (l t : List ℕ). checked (plan_of paths) (log_book paths.carts paths.steps paths.cells.now l t) r) is-log is-times
        ∙ checked_there s a n there paths cells carts steps r

    -- so has the report
    outcome : (i j : Bool) → has_next h.plan h.book r ≡ i → in_time h.book r ≡ j
        → report s r
        ≡ record {
          answer = cond i (cond j (Ok tt) (Err ReportError.BadTime)) (Err ReportError.NoPoint);
          plan = elim (i && j) [ true ↦ plan_slice (length s) h.tables (h.log ++ (r ∷ [])) | false ↦ s ];
        }
    outcome i j ei ej = report_on s r (Some h) long there.of_slice ∙ by_tests s r h i j ei ej

    -- it turns the report down
    pub turned_down : (why : BookError) → y ≡ Err why → Leaves s r (Err (not_taken why)) s
    unfolding answered not_taken
    turned_down why e = by (has_next h.plan h.book r) (in_time h.book r) refl refl why (sym said ∙ e)
      where
        by : (i j : Bool) → has_next h.plan h.book r ≡ i → in_time h.book r ≡ j → (why : BookError) → answered i j ≡ Err why → Leaves s r (Err (not_taken why)) s
        by true true ei ej why z = absurd (cc)
        by true false ei ej BookError.BadTime z = leaves s r (record { answer = (Err ReportError.BadTime); plan = s }) (outcome true false ei ej)
        by true false ei ej (BookError.NoPoint u) z = absurd (cc)
        by false j ei ej (BookError.NoPoint u) z = leaves s r (record { answer = (Err ReportError.NoPoint); plan = s }) (outcome false j ei ej)
        by false j ei ej BookError.BadTime z = absurd (cc)

    -- the report is one entry more
    pub taken : y ≡ Ok tt → (u : List ℕ) → u ≡ with_entry s n.reports ((c % 256) at t) → Leaves s r (Ok tt) u
    unfolding answered acceptable
    taken e u put = by (has_next h.plan h.book r) (in_time h.book r) refl refl (sym said ∙ e)
      where
        by : (i j : Bool) → has_next h.plan h.book r ≡ i → in_time h.book r ≡ j → answered i j ≡ Ok tt → Leaves s r (Ok tt) u
        by true true ei ej z =
            let accepted : acceptable h.plan h.book r ≡ true = ap₂ {C = Bool} (λ (i j : Bool). i && j) ei ej in
            let few : length h.plan.carts ≤ 64 = (sound s a n there).few_carts in
            let is_put : u ≡ plan_slice (length s) h.tables (h.log ++ (r ∷ [])) =
            put ∙ ap (λ (i : ℕ). with_entry s i ((c % 256) at t)) there.reports_are ∙ stored s h there.of_slice c t accepted few in
            let (answer, plan) = leaves s r _ (outcome true true ei ej) in
            (answer, is_put ∙ plan)
        by true false ei ej z = absurd (cc)
        by false j ei ej z = absurd (cc)

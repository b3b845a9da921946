-- A plan that a slice holds, read into arrays: what is known of it, and of the book of its log. Assumes nothing.
use Rattle.std.specs.Prelude.{Option, None, Some, Err, Ok}
use Prim.Native.Nat.{ℕ, ◌≤◌, ◌<◌}
use mathlib.Core.Path.{◌≡◌, refl, ap, ap₂, sym, ◌∙◌}
use mathlib.Core.Logic.{⊎_elim}
use mathlib.Core.Bool.{Bool, true, false, ◌&&◌}
use mathlib.Core.List.{List}
use lib.Dec.{leb}
use lib.ListN.{length, take, drop}
use borrow.Author.Tests.{le-leb, lt-leb}
use Rattle.laws.proofs.Tests.{below_or_not}
use Rattle.floor.specs.Plan.{Plan}
use Rattle.floor.specs.Tables.{Tables, read_tables}
use Rattle.floor.proofs.Accepted.{Sound, accepted_sound}
use Rattle.tables.specs.Arrays.{paths_in}
use Rattle.tables.specs.Reading.{Arrays, size_of, room, numbers_of}
use Rattle.network.specs.Events.{event_count}
use Rattle.network.specs.Bounds.{bounds}
use Rattle.network.specs.Judge.{judge}
use Rattle.network.proofs.Judged.{judged}
use Rattle.collisions.specs.declared.Paths.{Paths}
use Rattle.limits.specs.Limits.{of_paths, limits_kept}
use Rattle.limits.specs.OfPaths.{plan_of}
use Rattle.schedule.specs.Book.{Report, Book, first_book, has_next, in_time, replay}
use Rattle.book.specs.Log.{log_book, answered, checked}
use Rattle.book.proofs.ByPaths.{next_by_paths}
use Rattle.slice.specs.declared.Holding.{Holding}
use Rattle.slice.specs.declared.HoldError.{HoldError}
use Rattle.slice.specs.PlanSlice.{plan_need, Held, held}
use Rattle.slice.specs.Holding.{Answer, holding, arrays_held, Outcome, where_room, read_slice}
use Rattle.slice.specs.HeldPlan.{log_of, Holds, Lays}
use Rattle.slice.proofs.Slice.{held_says}
use Rattle.slice.proofs.Holds.{nothing_told, held_laid}
use Rattle.slice.proofs.LaidPlan.{paths_laid, steps_laid, reports_laid, book_laid, blank}

-- ---- the plan in arrays

module _ (s : List ℕ) (a : Arrays) (n : Holding) (h : Holds s a n) where
  abbrev pub p : Plan
  p = h.plan_held.plan

  abbrev pub b : Book
  b = h.plan_held.book

  abbrev pub ts : Tables
  ts = h.plan_held.tables

  -- it is laid out in the slice
  lays : Lays s a n
  lays =
      let (l, log) = held_laid s h.plan_held h.of_slice in
      record {
        plan_laid = p;
        of_slice = l;
        long = h.long;
        roads_are = h.roads_are;
        carts_are = h.carts_are;
        steps_are = h.steps_are;
        reports_are = h.reports_are ∙ ap length log;
        edges_are = h.edges_are;
        speeds_are = h.speeds_are;
        cells_are = h.cells_are;
      }

  -- its tables are accepted
  pub accepted_there : judge ts ≡ Ok p
  accepted_there = (held_says s h.plan_held h.of_slice).1

  pub read_there : read_tables ts ≡ Ok p
  read_there = (judged ts p accepted_there).0

  pub sound : Sound p
  sound = accepted_sound ts p read_there

  -- the paths in the array are the plan's
  pub paths_there : paths_in n.size.carts n.size.steps a.cells ≡ p.paths
  unfolding lays
  paths_there = paths_laid s a n lays

  -- it has steps
  pub some_steps : 1 ≤ n.size.steps
  some_steps = steps_laid s a n lays

  -- and no more reports than there is room for
  pub reports_few : n.reports ≤ 4096
  reports_few = reports_laid s a n lays

  -- it keeps the limits
  pub limits_there : limits_kept p ≡ true
  unfolding limits_kept
  limits_there =
      let (r, events, few) = judged ts p accepted_there in
      ap (λ (x : Bool). x && leb (length (bounds p)) 8192) (le-leb (event_count p) 4096 events) ∙ le-leb (length (bounds p)) 8192 few

-- ---- the log

module _ (s : List ℕ) (a : Arrays) (n : Holding) (h : Holds s a n) where
  abbrev its : Plan
  its = p s a n h

  abbrev its_book : Book
  its_book = b s a n h

  -- the book of its log is the plan's
  pub book_there : log_book n.size.carts n.size.steps a.cells (take n.reports (drop 196_608 s)) (drop 200_704 s) ≡ Some its_book
  unfolding lays
  book_there =
      book_laid s a n (lays s a n h) (limits_there s a n h)
      ∙ ap (replay its (first_book its)) (sym (held_laid s h.plan_held h.of_slice).1)
      ∙ (held_says s h.plan_held h.of_slice).2

  -- and what it says of a report is what the plan's says
  pub checked_there : (x : Paths) → x.cells.now ≡ a.cells → x.carts ≡ n.size.carts → x.steps ≡ n.size.steps → (r : Report)
      → checked (plan_of x) (log_of s n.reports x) r ≡ checked its (Some its_book) r
  unfolding log_of checked
  checked_there x cells carts steps r =
      let same : paths_in x.carts x.steps x.cells.now ≡ its.paths =
      ap₂ (λ (i j : ℕ). paths_in i j x.cells.now) carts steps ∙ ap (paths_in n.size.carts n.size.steps) cells ∙ paths_there s a n h in
      let book : log_book x.carts x.steps x.cells.now (take n.reports (drop 196_608 s)) (drop 200_704 s) ≡ Some its_book =
      ap₂ (λ (i j : ℕ). log_book i j x.cells.now (take n.reports (drop 196_608 s)) (drop 200_704 s)) carts steps
      ∙ ap (λ (l : List ℕ). log_book n.size.carts n.size.steps l (take n.reports (drop 196_608 s)) (drop 200_704 s)) cells ∙ book_there in
      ap (λ (o : Option Book). checked (plan_of x) o r) book
      ∙ ap (λ (t : Bool). answered t (in_time its_book r))
      (ap (λ (l : List (List ℕ)). has_next (of_paths l) its_book r) same ∙ sym (next_by_paths its (sym (sound s a n h).path_each) its_book r))

-- ---- what the reader says

module _ (s : List ℕ) (long : plan_need ≤ length s) where
  -- the slice is long enough, and so are the arrays
  into_is : read_slice s blank ≡ record { answer = holding (held s); arrays = arrays_held blank (held s) }
  unfolding read_slice where_room room
  into_is =
      ap (λ (b : Bool). elim b as (λ _. Outcome) [ false ↦ record { answer = Err HoldError.TooShort; arrays = blank } | true ↦ record { answer = holding (held s); arrays = arrays_held blank (held s) } ])
      (let fits : (leb plan_need (length s) && room blank) ≡ true = ap (λ (b : Bool). b && room blank) (le-leb plan_need (length s) long) in fits)

  module _ (x : Answer) (is : x ≡ (read_slice s blank).answer) where
    said : x ≡ holding (held s)
    said = is ∙ ap (λ (o : Outcome). o.answer) into_is

    -- never that something is too short
    pub never_short : ¬ (x ≡ Err HoldError.TooShort)
    unfolding holding
    never_short q = by (held s) (sym q ∙ said)
      where
        by : (o : Option Held) → ¬ (Err HoldError.TooShort ≡ holding o)
        by None z = cc
        by (Some h) z = cc

    -- no plan
    pub no_plan : (why : HoldError) → x ≡ Err why → held s ≡ None
    no_plan why q = nothing_told why (held s) (sym q ∙ said)

    -- a plan, and its numbers in the arrays
    pub held_there : (a : Arrays) → a ≡ (read_slice s blank).arrays → (n : Holding) → x ≡ Ok n → Holds s a n
    unfolding holding arrays_held numbers_of size_of
    held_there a left n q = by (held s) refl (sym q ∙ said)
      where
        by : (o : Option Held) → held s ≡ o → Ok n ≡ holding o → Holds s a n
        by None f z = absurd (cc)
        by (Some h) f z =
            let left : a ≡ numbers_of blank h.plan = left ∙ ap (λ (o : Outcome). o.arrays) into_is ∙ ap (arrays_held blank) f in
            let same : n ≡ record { size = size_of h.plan; reports = length h.log } = cc in
            record {
              plan_held = h;
              of_slice = f;
              long = long;
              roads_are = ap (λ (u : Holding). u.size.roads) same;
              carts_are = ap (λ (u : Holding). u.size.carts) same;
              steps_are = ap (λ (u : Holding). u.size.steps) same;
              reports_are = ap (λ (u : Holding). u.reports) same;
              edges_are = ap (λ (u : Arrays). u.roads) left;
              speeds_are = ap (λ (u : Arrays). u.carts) left;
              cells_are = ap (λ (u : Arrays). u.cells) left;
            }

-- ---- whether the slice is long enough

module _ (s : List ℕ) (x : Answer) (is : x ≡ (read_slice s blank).answer) where
  -- a short one is said to be short
  told_short : length s < plan_need → x ≡ Err HoldError.TooShort
  unfolding read_slice where_room
  told_short h =
      is ∙ ap (λ (b : Bool). (elim (b && room blank) as (λ _. Outcome) [
        | false ↦ record { answer = Err HoldError.TooShort; arrays = blank }
        | true ↦ record { answer = holding (held s); arrays = arrays_held blank (held s) }
      ]).answer) (lt-leb plan_need (length s) h)

  -- and no other
  pub short_slice : x ≡ Err HoldError.TooShort → length s < plan_need
  short_slice q = ⊎_elim (λ h. h) (λ (h : plan_need ≤ length s). absurd (never_short s h x is q)) (below_or_not (length s) plan_need)

  pub long_slice : ¬ (x ≡ Err HoldError.TooShort) → plan_need ≤ length s
  long_slice n = ⊎_elim (λ (h : length s < plan_need). absurd (n (told_short h))) (λ h. h) (below_or_not (length s) plan_need)

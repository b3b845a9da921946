-- A plan that the tables of a slice give, read into arrays: what is known of it, and of the log beside it. Assumes nothing.
use Rattle.std.specs.Prelude.{Option, None, Some, Err, Ok}
use Prim.Native.Nat.{ℕ, ◌≤◌}
use native.Mathlib.Omega.{arith}
use mathlib.Core.Path.{◌≡◌, refl, ap, sym, ◌∙◌}
use mathlib.Core.Bool.{Bool, true, false, ◌&&◌}
use mathlib.Core.List.{List}
use lib.Dec.{leb, lit≤}
use lib.ListN.{length, take, drop, replicate}
use borrow.Author.Tests.{le-leb}
use Rattle.floor.specs.Plan.{Plan}
use Rattle.floor.specs.Paths.{steps}
use Rattle.floor.specs.Tables.{read_tables}
use Rattle.floor.proofs.Accepted.{Sound, accepted_sound, Even, accepted_even}
use Rattle.tables.specs.Arrays.{paths_in}
use Rattle.tables.specs.Reading.{Arrays, size_of, room, numbers_of}
use Rattle.tables.proofs.PathTurns.{even_held}
use Rattle.limits.specs.Limits.{of_paths, limits_kept}
use Rattle.schedule.specs.Book.{Book, first_book, replay}
use Rattle.schedule.specs.Added.{added_bounds}
use Rattle.book.specs.Log.{log_book}
use Rattle.book.proofs.ByPaths.{some_step, added_by_paths, log_book_is}
use Rattle.slice.specs.declared.Holding.{Holding}
use Rattle.slice.specs.declared.HoldError.{HoldError}
use Rattle.slice.specs.PlanSlice.{plan_need, tables_in, log_in}
use Rattle.slice.specs.Holding.{Answer, Outcome, where_room, laid, laying, arrays_laid, laid_into}
use Rattle.slice.specs.HeldPlan.{Lays}
use Rattle.slice.proofs.Holds.{laid_says, log_found, log_few, laid_long, none_laid}

module _ (s : List ℕ) (a : Arrays) (n : Holding) (h : Lays s a n) where
  abbrev p : Plan
  p = h.plan_laid

  -- its tables are read
  pub read_laid : read_tables (tables_in s) ≡ Ok p
  read_laid = (laid_says s p h.of_slice).1

  pub sound_laid : Sound p
  sound_laid = accepted_sound (tables_in s) p read_laid

  even : Even p.paths
  even = accepted_even (tables_in s) p read_laid

  -- the paths in the array are the plan's
  pub paths_laid : paths_in n.size.carts n.size.steps a.cells ≡ p.paths
  paths_laid =
      ap (λ (m : ℕ). paths_in m n.size.steps a.cells) (h.carts_are ∙ sym sound_laid.path_each)
      ∙ ap (λ (m : ℕ). paths_in (length p.paths) m a.cells) h.steps_are
      ∙ ap (paths_in (length p.paths) (steps p.paths)) h.cells_are
      ∙ even_held 8192 p.paths even

  -- it has steps
  pub steps_laid : 1 ≤ n.size.steps
  steps_laid = omega (arith, some_step p sound_laid, h.steps_are)

  -- no more reports than there is room for
  pub reports_laid : n.reports ≤ 4096
  reports_laid = omega (arith, h.reports_are, log_few s)

  -- where it keeps the limits, the book of the log in the slice is the plan's
  pub book_laid : limits_kept p ≡ true → log_book n.size.carts n.size.steps a.cells (take n.reports (drop 196_608 s)) (drop 200_704 s) ≡ replay p (first_book p) (log_in s)
  book_laid kept =
      ap (λ (m : ℕ). log_book m n.size.steps a.cells (take n.reports (drop 196_608 s)) (drop 200_704 s)) h.carts_are
      ∙ ap (λ (m : ℕ). log_book (length p.carts) m a.cells (take n.reports (drop 196_608 s)) (drop 200_704 s)) h.steps_are
      ∙ ap (λ (x : List ℕ). log_book (length p.carts) (steps p.paths) x (take n.reports (drop 196_608 s)) (drop 200_704 s)) h.cells_are
      ∙ log_book_is (tables_in s) p read_laid kept 8192 (lit≤ tt) (take n.reports (drop 196_608 s)) (drop 200_704 s)
      ∙ ap (replay p (first_book p)) (log_found s n.reports h.reports_are)

  -- what a book adds by the paths is what it adds to the plan
  pub added_laid : (b : Book) → added_bounds (of_paths (paths_in n.size.carts n.size.steps a.cells)) b ≡ added_bounds p b
  added_laid b = ap (λ (x : List (List ℕ)). added_bounds (of_paths x) b) paths_laid ∙ sym (added_by_paths p (sym sound_laid.path_each) b)

-- ---- what the reader says

-- arrays of zeros, as code lends them to the reader
abbrev pub blank : Arrays
blank = record { roads = replicate 4096 0; carts = replicate 128 0; cells = replicate 8192 0 }

module _ (s : List ℕ) (long : plan_need ≤ length s) where
  -- the slice is long enough, and so are the arrays
  into_is : laid_into s blank ≡ record { answer = laying (length (log_in s)) (laid s); arrays = arrays_laid blank (laid s) }
  unfolding laid_into where_room room
  into_is =
      ap (λ (b : Bool). elim b as (λ _. Outcome) [
        | false ↦ record { answer = Err HoldError.TooShort; arrays = blank }
        | true ↦ record { answer = laying (length (log_in s)) (laid s); arrays = arrays_laid blank (laid s) }
      ])
      (let fits : (leb plan_need (length s) && room blank) ≡ true = ap (λ (b : Bool). b && room blank) (le-leb plan_need (length s) long) in fits)

  module _ (x : Answer) (is : x ≡ (laid_into s blank).answer) where
    said : x ≡ laying (length (log_in s)) (laid s)
    said = is ∙ ap (λ (o : Outcome). o.answer) into_is

    -- never that something is too short
    pub never_short : ¬ (x ≡ Err HoldError.TooShort)
    never_short q = laid_long (length (log_in s)) (laid s) (sym q ∙ said)

    -- no plan
    pub not_laid : (why : HoldError) → x ≡ Err why → laid s ≡ None
    not_laid why q = none_laid why (length (log_in s)) (laid s) (sym q ∙ said)

    -- a plan, and its numbers in the arrays
    pub laid_there : (a : Arrays) → a ≡ (laid_into s blank).arrays → (n : Holding) → x ≡ Ok n → Lays s a n
    unfolding laying arrays_laid numbers_of size_of
    laid_there a left n q = by (laid s) refl (sym q ∙ said)
      where
        by : (o : Option Plan) → laid s ≡ o → Ok n ≡ laying (length (log_in s)) o → Lays s a n
        by None f z = absurd (cc)
        by (Some y) f z =
            let left : a ≡ numbers_of blank y = left ∙ ap (λ (o : Outcome). o.arrays) into_is ∙ ap (arrays_laid blank) f in
            let same : n ≡ record { size = size_of y; reports = length (log_in s) } = cc in
            record {
              plan_laid = y;
              of_slice = f;
              long = long;
              roads_are = ap (λ (u : Holding). u.size.roads) same;
              carts_are = ap (λ (u : Holding). u.size.carts) same;
              steps_are = ap (λ (u : Holding). u.size.steps) same;
              reports_are = ap (λ (u : Holding). u.reports) same;
              edges_are = ap (λ (u : Arrays). u.roads) left;
              speeds_are = ap (λ (u : Arrays). u.carts) left;
              cells_are = ap (λ (u : Arrays). u.cells) left;
            }

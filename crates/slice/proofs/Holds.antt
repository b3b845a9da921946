-- What a plan slice holds, from what the readers of its layout, its tables and its log answer. Assumes nothing.
use Rattle.std.specs.Prelude.{Option, None, Some, Err, Ok, is_err}
use Prim.Native.Nat.{ℕ, ◌≤◌, ◌<◌}
use native.Mathlib.Omega.{arith}
use mathlib.Core.Path.{◌≡◌, refl, ap, ap₂, sym, ◌∙◌, subst}
use mathlib.Core.Logic.{◌⊎◌, inl, inr}
use mathlib.Core.Bool.{Bool, true, false, true≢false, ◌&&◌, cond, and-false}
use mathlib.Core.List.{List}
use lib.Dec.{T, leb, leb→le}
use lib.ListN.{length, take, drop}
use lib.Seq.{take-take}
use mir.Facts.{and_yes}
use borrow.Author.Tests.{le-leb, lt-leb}
use Rattle.laws.proofs.Options.{none-ne-some, some-injective}
use Rattle.words.specs.Words.{padded}
use Rattle.floor.specs.declared.Refusal.{Refusal}
use Rattle.floor.specs.Refusal.{Judged}
use Rattle.floor.specs.Plan.{Plan}
use Rattle.floor.specs.Paths.{steps}
use Rattle.floor.specs.Tables.{Tables, read_tables}
use Rattle.floor.proofs.Judging.{goes_on, ends}
use Rattle.tables.specs.declared.ReadError.{ReadError}
use Rattle.tables.specs.Arrays.{path_cells}
use Rattle.tables.specs.Reading.{Answer as Said, Arrays, size_of, room, read_answer, arrays_judged, numbers_of, zeros, Outcome as Read}
use Rattle.tables.proofs.TablesRead.{Into, into_judged, room_there, answer_refused, answer_read, answer_short}
use Rattle.network.specs.Judge.{within_limits, judge}
use Rattle.limits.specs.Limits.{limits_kept, paths_within}
use Rattle.limits.proofs.Kept.{within_kept, within_over, paths_within_is}
use Rattle.schedule.specs.Book.{Report, Book, first_book, replay}
use Rattle.book.specs.Log.{entries, log_book, is_book}
use Rattle.book.proofs.ByPaths.{log_book_is}
use Rattle.tables.specs.declared.Size.{Size}
use Rattle.slice.specs.declared.Holding.{Holding}
use Rattle.slice.specs.declared.HoldError.{HoldError}
use Rattle.slice.specs.declared.Layout.{Layout}
use Rattle.slice.specs.PlanSlice.{until_zero, tables_in, log_in, Held, nothing_else, held_by, held}
use Rattle.slice.specs.Holding.{layout, Answer, holding, arrays_held, Outcome, where_room, read_slice, plan_of, laid, laying, arrays_laid, laid_into}
use Rattle.slice.specs.HeldPlan.{log_kept}
use Rattle.slice.specs.Texts.{texts_in}
use Rattle.slice.proofs.Slice.{held_where}
use Rattle.slice.proofs.Laid.{text_front, part_short, entries_count}

-- ---- parts of the slice

-- as many as a text has are the text
part_text : (m n : ℕ) (l : List ℕ) → n ≡ length (until_zero (take m l)) → take n l ≡ until_zero (take m l)
part_text m n l e =
    ap (λ (i : ℕ). take i l) e ∙ sym (take-take (length (until_zero (take m l))) m l (part_short m l)) ∙ text_front (take m l)

-- ---- what is held

-- tables that are refused are not held
refused_none : (s : List ℕ) (r : Refusal) → judge (tables_in s) ≡ Err r → held s ≡ None
unfolding held held_by
refused_none s r e = ap (held_by s (tables_in s) (log_in s)) e

-- nor is a log that is not replayed
log_none : (s : List ℕ) (p : Plan) → judge (tables_in s) ≡ Ok p → replay p (first_book p) (log_in s) ≡ None → held s ≡ None
unfolding held held_by
log_none s p e f =
    ap (held_by s (tables_in s) (log_in s)) e
    ∙ ap (λ (o : Option Book). elim o [
      | None ↦ None
      | Some b ↦ elim (nothing_else s (tables_in s) (log_in s)) [ true ↦ Some (record { tables = tables_in s; log = log_in s; plan = p; book = b }) | false ↦ None ]
    ]) f

-- nor anything where there is something else
else_none : (s : List ℕ) (ts : Tables) (log : List Report) (j : Judged Plan) → nothing_else s ts log ≡ false → held_by s ts log j ≡ None
unfolding held_by
else_none s ts log (Err r) e = refl
else_none s ts log (Ok p) e = by (replay p (first_book p) log)
  where
    by : (o : Option Book)
        → ◌≡◌ {A = Option Held} (elim o [
          | None ↦ None
          | Some b ↦ elim (nothing_else s ts log) [ true ↦ Some (record { tables = ts; log = log; plan = p; book = b }) | false ↦ None ]
        ]) None
    by None = refl
    by (Some b) = ap (λ (t : Bool). elim t as (λ _. Option Held) [ true ↦ Some (record { tables = ts; log = log; plan = p; book = b }) | false ↦ None ]) e

-- the book of an answer
a_book : (o : Option Book) → is_book o ≡ true → (b : Book) × (o ≡ Some b)
unfolding is_book
a_book None e = absurd (true≢false (sym e))
a_book (Some b) e = (b, refl)

no_book : (o : Option Book) → is_book o ≡ false → o ≡ None
unfolding is_book
no_book None e = refl
no_book (Some b) e = absurd (true≢false e)

-- ---- from the tables that were read

-- the answer, and what is left in the arrays where the tables give a plan
abbrev pub Ends : List ℕ → Arrays → Answer → Arrays → Type 0
Ends s a x b = (x ≡ laying (length (log_in s)) (laid s)) × ((q : Plan) → laid s ≡ Some q → b ≡ numbers_of a q)

-- they give none
nothing_laid : (s : List ℕ) (a b : Arrays) → laid s ≡ None → Ends s a (Err HoldError.NoPlan) b
unfolding laying
nothing_laid s a b e = (sym (ap (laying (length (log_in s))) e), λ q f. absurd (none-ne-some _ (sym e ∙ f)))

-- a reader that had room answers and leaves what the judgement says
into_says : (ts : Tables) (a : Arrays) → room a ≡ true → (x : Said) (b : Arrays) → Into ts a x b
    → (x ≡ read_answer (read_tables ts)) × ((q : Plan) → read_tables ts ≡ Ok q → b ≡ numbers_of a q)
unfolding arrays_judged
into_says ts a has x b (i, f) = (
  i ∙ ap (λ (o : Read). o.answer) (into_judged ts a has (read_tables ts) refl),
  λ q w. f ∙ ap (λ (o : Read). o.arrays) (into_judged ts a has (Ok q) w),
)

-- the three tables in the slice, as they were found
tables_found : (s : List ℕ) (l : Layout) → l.roads ≡ length (tables_in s).roads → l.carts ≡ length (tables_in s).carts → l.paths ≡ length (tables_in s).paths
    → texts_in l s ≡ tables_in s
unfolding tables_in texts_in
tables_found s l er ec ep =
    ap (λ (y : List ℕ). record { roads = y; carts = take l.carts (drop 65_536 s); paths = take l.paths (drop 131_072 s) }) (part_text 65_536 l.roads s er)
    ∙ ap (λ (y : List ℕ). record { roads = until_zero (take 65_536 s); carts = y; paths = take l.paths (drop 131_072 s) }) (part_text 65_536 l.carts (drop 65_536 s) ec)
    ∙ ap (λ (y : List ℕ). record { roads = until_zero (take 65_536 s); carts = until_zero (take 65_536 (drop 65_536 s)); paths = y }) (part_text 65_536 l.paths (drop 131_072 s) ep)

-- the log in the slice
pub log_found : (s : List ℕ) (n : ℕ) → n ≡ length (log_in s) → entries (take n (drop 196_608 s)) (drop 200_704 s) ≡ log_in s
unfolding log_in
log_found s n e =
    ap (λ (cs : List ℕ). entries cs (drop 200_704 s))
    (part_text 4096 n (drop 196_608 s) (e ∙ entries_count (until_zero (take 4096 (drop 196_608 s))) (drop 200_704 s)))

-- it has no more reports than places for them
pub log_few : (s : List ℕ) → length (log_in s) ≤ 4096
unfolding log_in
log_few s = omega (arith, entries_count (until_zero (take 4096 (drop 196_608 s))) (drop 200_704 s), part_short 4096 (drop 196_608 s))

-- and a table no more bytes
pub tables_few : (s : List ℕ) → (length (tables_in s).roads ≤ 65_536) × ((length (tables_in s).carts ≤ 65_536) × (length (tables_in s).paths ≤ 65_536))
unfolding tables_in
tables_few s = (part_short 65_536 s, (part_short 65_536 (drop 65_536 s), part_short 65_536 (drop 131_072 s)))

-- a slice that is laid out as found, whose tables were read into arrays with room
module _ (s : List ℕ) (alone : nothing_else s (tables_in s) (log_in s) ≡ true) (l : Layout)
    (sizes : (l.roads ≡ length (tables_in s).roads) × (l.carts ≡ length (tables_in s).carts) × (l.paths ≡ length (tables_in s).paths) × (l.reports ≡ length (log_in s)))
    (lent : Arrays) (fits : room lent ≡ true) (ts : Tables) (texts : ts ≡ texts_in l s) (x : Said) (left : Arrays) (i : Into ts lent x left) where
  -- what was read is what the judgement says
  said : (x ≡ read_answer (read_tables (tables_in s))) × ((q : Plan) → read_tables (tables_in s) ≡ Ok q → left ≡ numbers_of lent q)
  said =
      into_says (tables_in s) lent fits x left
      (subst (λ (u : Tables). Into u lent x left) (texts ∙ tables_found s l sizes.0 sizes.1 sizes.2) i)

  -- so the plan laid out is that of the tables
  laid_is : laid s ≡ plan_of (read_tables (tables_in s))
  unfolding laid
  laid_is = ap (λ (t : Bool). cond t (plan_of (read_tables (tables_in s))) None) alone

  -- the tables are refused; they are never said to be too short
  pub parts_unread : (why : ReadError) → x ≡ Err why → Ends s lent (Err HoldError.NoPlan) left
  unfolding plan_of
  parts_unread (ReadError.Refused r) q = nothing_laid s lent left (laid_is ∙ ap plan_of (answer_refused (read_tables (tables_in s)) r (sym q ∙ said.0)))
  parts_unread ReadError.TooShort q = absurd (answer_short (read_tables (tables_in s)) (sym q ∙ said.0))

  -- a plan was read, and its numbers are those that were told
  pub parts_laid : (n : Size) → x ≡ Ok n → Ends s lent (Ok (record { size = n; reports = l.reports })) left
  unfolding laying plan_of
  parts_laid n q =
      let (y, f, size) = answer_read (read_tables (tables_in s)) n (sym q ∙ said.0) in
      let is : laid s ≡ Some y = laid_is ∙ ap plan_of f in (
        ap₂ {C = Answer} (λ (i : Size) (j : ℕ). Ok (record { size = i; reports = j })) size sizes.3 ∙ sym (ap (laying (length (log_in s))) is),
        λ u e. said.1 y f ∙ ap (numbers_of lent) (some-injective _ _ (sym is ∙ e)),
      )

-- ---- from the layout

-- the lengths of the parts in a slice
abbrev parts_in : List ℕ → Layout
parts_in s = record { roads = length (tables_in s).roads; carts = length (tables_in s).carts; paths = length (tables_in s).paths; reports = length (log_in s) }

-- a slice that is laid out otherwise gives no plan
pub broken_laid : (s : List ℕ) (a b : Arrays) → None ≡ layout s → Ends s a (Err HoldError.NoPlan) b
unfolding layout laid
broken_laid s a b e = nothing_laid s a b (by (nothing_else s (tables_in s) (log_in s)) refl e)
  where
    by : (t : Bool) → nothing_else s (tables_in s) (log_in s) ≡ t → None ≡ cond t (Some (parts_in s)) None → laid s ≡ None
    by true q f = absurd (none-ne-some _ f)
    by false q f = ap (λ (t : Bool). cond t (plan_of (read_tables (tables_in s))) None) q

-- the parts of one that is not
pub parts_found : (s : List ℕ) (l : Layout) → Some l ≡ layout s
    → (nothing_else s (tables_in s) (log_in s) ≡ true)
    × ((l.roads ≡ length (tables_in s).roads) × (l.carts ≡ length (tables_in s).carts) × (l.paths ≡ length (tables_in s).paths) × (l.reports ≡ length (log_in s)))
unfolding layout
parts_found s l e = by (nothing_else s (tables_in s) (log_in s)) refl e
  where
    by : (t : Bool) → nothing_else s (tables_in s) (log_in s) ≡ t → Some l ≡ cond t (Some (parts_in s)) None
        → (nothing_else s (tables_in s) (log_in s) ≡ true)
        × ((l.roads ≡ length (tables_in s).roads) × (l.carts ≡ length (tables_in s).carts) × (l.paths ≡ length (tables_in s).paths) × (l.reports ≡ length (log_in s)))
    by false q f = absurd (none-ne-some _ (sym f))
    by true q f =
        let same : l ≡ parts_in s = some-injective _ _ f in
        (q, (ap (λ (x : Layout). x.roads) same, ap (λ (x : Layout). x.carts) same, ap (λ (x : Layout). x.paths) same, ap (λ (x : Layout). x.reports) same))

-- ---- the reader, on all input

-- it tells of a plan where one is
pub nothing_told : (e : HoldError) (o : Option Held) → Err e ≡ holding o → o ≡ None
unfolding holding
nothing_told e None q = refl
nothing_told e (Some h) q = cc

pub none_laid : (e : HoldError) (n : ℕ) (o : Option Plan) → Err e ≡ laying n o → o ≡ None
unfolding laying
none_laid e n None q = refl
none_laid e n (Some p) q = cc

-- an answer that is an error, and one that is none
pub an_error : (x : Answer) (b : Bool) → b ≡ is_err x → b ≡ true → (e : HoldError) × (x ≡ Err e)
an_error (Err e) b q f = (e, refl)
an_error (Ok h) b q f = absurd (true≢false (sym f ∙ q))

pub an_answer : (x : Answer) (b : Bool) → b ≡ is_err x → b ≡ false → (h : Holding) × (x ≡ Ok h)
an_answer (Err e) b q f = absurd (true≢false (sym q ∙ f))
an_answer (Ok h) b q f = (h, refl)

-- that something is too short is not said of what is laid out
pub laid_long : (n : ℕ) (o : Option Plan) → ¬ (Err HoldError.TooShort ≡ laying n o)
unfolding laying
laid_long n None e = cc
laid_long n (Some p) e = cc

-- a reader that tells y and leaves z, where slice and arrays are long enough
module _ (s : List ℕ) (came : Arrays) (y : Answer) (z : Arrays) where
  -- the answer and the arrays are those
  abbrev pub Left : Answer → Arrays → Type 0
  Left x b = (x ≡ (where_room s came y z).answer) × (b ≡ (where_room s came y z).arrays)

  -- by the test of slice and arrays
  outcome : (t : Bool) → (leb 233_472 (length s) && room came) ≡ t
      → where_room s came y z ≡ elim t as (λ _. Outcome) [ false ↦ record { answer = Err HoldError.TooShort; arrays = came } | true ↦ record { answer = y; arrays = z } ]
  unfolding where_room
  outcome t q =
      ap (λ (b : Bool). elim b as (λ _. Outcome) [ false ↦ record { answer = Err HoldError.TooShort; arrays = came } | true ↦ record { answer = y; arrays = z } ]) q

  -- something is too short
  too_short : (leb 233_472 (length s) && room came) ≡ false → Left (Err HoldError.TooShort) came
  too_short q = (sym (ap (λ (u : Outcome). u.answer) (outcome false q)), sym (ap (λ (u : Outcome). u.arrays) (outcome false q)))

  -- nothing is
  long_enough : (leb 233_472 (length s) && room came) ≡ true → Left y z
  long_enough q = (sym (ap (λ (u : Outcome). u.answer) (outcome true q)), sym (ap (λ (u : Outcome). u.arrays) (outcome true q)))

-- all are long enough
pub all_long : (s : List ℕ) (a : Arrays) → 233_472 ≤ length s → room a ≡ true → (leb 233_472 (length s) && room a) ≡ true
all_long s a long fits = ap₂ {C = Bool} ◌&&◌ (le-leb 233_472 (length s) long) fits

-- and so the slice and the array of cells
long_there : (s : List ℕ) (a : Arrays) → (leb 233_472 (length s) && room a) ≡ true → (233_472 ≤ length s) × (8192 ≤ length a.cells)
long_there s a q =
    let (x, _) = and_yes (leb 233_472 (length s)) (room a) (subst T (sym q) tt) in
    (leb→le 233_472 (length s) x, (room_there a (second (leb 233_472 (length s)) (room a) q)).2)
  where
    second : (x y : Bool) → (x && y) ≡ true → y ≡ true
    second true y e = e
    second false y e = absurd (true≢false (sym e))

-- ---- the reader of what is laid out

module _ (s : List ℕ) (a : Arrays) where
  -- the answer and the arrays are those of `laid_into`
  abbrev pub LaidLeft : Answer → Arrays → Type 0
  LaidLeft x b = (x ≡ (laid_into s a).answer) × (b ≡ (laid_into s a).arrays)

  -- something is too short
  laid_short : (leb 233_472 (length s) && room a) ≡ false → LaidLeft (Err HoldError.TooShort) a
  unfolding laid_into
  laid_short q = too_short s a (laying (length (log_in s)) (laid s)) (arrays_laid a (laid s)) q

  -- the slice is, or an array
  pub either_short : (length s < 233_472) ⊎ (room a ≡ false) → LaidLeft (Err HoldError.TooShort) a
  either_short (inl h) = laid_short (ap (λ (b : Bool). b && room a) (lt-leb 233_472 (length s) h))
  either_short (inr h) = laid_short (ap (λ (b : Bool). leb 233_472 (length s) && b) h ∙ and-false (leb 233_472 (length s)))

  module _ (q : (leb 233_472 (length s) && room a) ≡ true) where
    of_laid : (o : Option Plan) → laid s ≡ o → LaidLeft (laying (length (log_in s)) o) (arrays_laid a o)
    unfolding laid_into
    of_laid o f =
        subst (λ (i : Option Plan). LaidLeft (laying (length (log_in s)) i) (arrays_laid a i)) f
        (long_enough s a (laying (length (log_in s)) (laid s)) (arrays_laid a (laid s)) q)

    -- the tables give no plan, and the arrays are cleared
    pub laid_none : (x : Answer) (why : HoldError) → x ≡ laying (length (log_in s)) (laid s) → x ≡ Err why → (b : Arrays) → b ≡ zeros a → LaidLeft x b
    unfolding laying arrays_laid
    laid_none x why g f b e =
        let none : laid s ≡ None = none_laid why (length (log_in s)) (laid s) (sym f ∙ g) in
        let (h, i) = of_laid None none in (g ∙ ap (laying (length (log_in s))) none ∙ h, e ∙ i)

    -- they give one, and its numbers are there
    pub laid_there : (x : Answer) (b : Arrays) → Ends s a x b → (h : Holding) → x ≡ Ok h → LaidLeft x b
    unfolding laying arrays_laid
    laid_there x b (g, left) n q = by (laid s) refl
      where
        by : (o : Option Plan) → laid s ≡ o → LaidLeft x b
        by None f = let no : Err HoldError.NoPlan ≡ Ok n = sym (ap (laying (length (log_in s))) f) ∙ sym g ∙ q in absurd (cc)
        by (Some p) f = let (h, i) = of_laid (Some p) f in (g ∙ ap (laying (length (log_in s))) f ∙ h, left p f ∙ i)

-- ---- from what is laid out to what is held

-- where the tables give no plan none is held
pub unlaid_none : (s : List ℕ) → laid s ≡ None → held s ≡ None
unfolding laid plan_of held judge
unlaid_none s e = by (nothing_else s (tables_in s) (log_in s)) refl (read_tables (tables_in s)) refl e
  where
    by : (t : Bool) → nothing_else s (tables_in s) (log_in s) ≡ t → (j : Judged Plan) → read_tables (tables_in s) ≡ j → cond t (plan_of j) None ≡ None → held s ≡ None
    by false q j f z = else_none s (tables_in s) (log_in s) (judge (tables_in s)) q
    by true q (Err r) f z = refused_none s r (ends (read_tables (tables_in s)) within_limits r f)
    by true q (Ok p) f z = absurd (none-ne-some _ (sym z))

-- where they give one they are read, and there is nothing else
pub laid_says : (s : List ℕ) (p : Plan) → laid s ≡ Some p → (nothing_else s (tables_in s) (log_in s) ≡ true) × (read_tables (tables_in s) ≡ Ok p)
unfolding laid plan_of
laid_says s p e = by (nothing_else s (tables_in s) (log_in s)) refl (read_tables (tables_in s)) refl e
  where
    by : (t : Bool) → nothing_else s (tables_in s) (log_in s) ≡ t → (j : Judged Plan) → read_tables (tables_in s) ≡ j → cond t (plan_of j) None ≡ Some p
        → (nothing_else s (tables_in s) (log_in s) ≡ true) × (read_tables (tables_in s) ≡ Ok p)
    by false q j f z = absurd (none-ne-some _ z)
    by true q (Err r) f z = absurd (none-ne-some _ z)
    by true q (Ok y) f z = (q, f ∙ ap Ok (some-injective _ _ z))

module _ (s : List ℕ) (p : Plan) (l : laid s ≡ Some p) where
  -- over the limits the tables are refused
  pub over : limits_kept p ≡ false → held s ≡ None
  unfolding judge
  over h = refused_none s _ (goes_on (read_tables (tables_in s)) within_limits p (laid_says s p l).1 ∙ within_over p h)

  module _ (h : limits_kept p ≡ true) where
    -- within them they are accepted
    pub accepted_laid : judge (tables_in s) ≡ Ok p
    unfolding judge
    accepted_laid = goes_on (read_tables (tables_in s)) within_limits p (laid_says s p l).1 ∙ within_kept p h

    -- and the log decides
    pub no_log : replay p (first_book p) (log_in s) ≡ None → held s ≡ None
    no_log = log_none s p accepted_laid

    pub is_held : (b : Book) → replay p (first_book p) (log_in s) ≡ Some b → held s ≡ Some (record { tables = tables_in s; log = log_in s; plan = p; book = b })
    unfolding held
    is_held b e = ap (held_by s (tables_in s) (log_in s)) accepted_laid ∙ held_where s (tables_in s) (log_in s) p b e (laid_says s p l).0

-- what is held is the plan laid out, with the log beside it
pub held_laid : (s : List ℕ) (h : Held) → held s ≡ Some h → (laid s ≡ Some h.plan) × (h.log ≡ log_in s)
held_laid s h e = by (laid s) refl
  where
    at : (p : Plan) → laid s ≡ Some p → limits_kept p ≡ true → (o : Option Book) → replay p (first_book p) (log_in s) ≡ o → (laid s ≡ Some h.plan) × (h.log ≡ log_in s)
    at p l k None q = absurd (none-ne-some _ (sym (no_log s p l k q) ∙ e))
    at p l k (Some b) q =
        let same : record { tables = tables_in s; log = log_in s; plan = p; book = b } ≡ h = some-injective _ _ (sym (is_held s p l k b q) ∙ e) in
        (l ∙ ap (λ (x : Held). Some x.plan) same, ap (λ (x : Held). x.log) (sym same))

    within : (p : Plan) → laid s ≡ Some p → (t : Bool) → limits_kept p ≡ t → (laid s ≡ Some h.plan) × (h.log ≡ log_in s)
    within p l false q = absurd (none-ne-some _ (sym (over s p l q) ∙ e))
    within p l true q = at p l q (replay p (first_book p) (log_in s)) refl

    by : (o : Option Plan) → laid s ≡ o → (laid s ≡ Some h.plan) × (h.log ≡ log_in s)
    by None l = absurd (none-ne-some _ (sym (unlaid_none s l) ∙ e))
    by (Some p) l = within p l (limits_kept p) refl

-- ---- the reader of what is held

module _ (s : List ℕ) (a : Arrays) where
  -- the answer and the arrays are those of `read_slice`
  abbrev pub HeldLeft : Answer → Arrays → Type 0
  HeldLeft x b = (x ≡ (read_slice s a).answer) × (b ≡ (read_slice s a).arrays)

  of_held : (leb 233_472 (length s) && room a) ≡ true → (o : Option Held) → held s ≡ o → HeldLeft (holding o) (arrays_held a o)
  unfolding read_slice
  of_held q o f =
      subst (λ (i : Option Held). HeldLeft (holding i) (arrays_held a i)) f (long_enough s a (holding (held s)) (arrays_held a (held s)) q)

  -- nothing is held, and the arrays are cleared
  held_none : (leb 233_472 (length s) && room a) ≡ true → held s ≡ None → (b : Arrays) → b ≡ zeros a → HeldLeft (Err HoldError.NoPlan) b
  unfolding holding arrays_held
  held_none q f b e = let (h, i) = of_held q None f in (h, e ∙ i)

  -- from what the reader of what is laid out answers and leaves
  module _ (x : Answer) (b : Arrays) (laid-left : LaidLeft s a x b) where
    -- something is too short, or the tables give no plan
    pub plan_unread : (why : HoldError) → x ≡ Err why → HeldLeft (Err why) b
    unfolding read_slice arrays_laid laying
    plan_unread why q = by (leb 233_472 (length s) && room a) refl
      where
        by : (t : Bool) → (leb 233_472 (length s) && room a) ≡ t → HeldLeft (Err why) b
        by false f =
            let (g, l) = laid-left in
            let (g', l') = laid_short s a f in
            let (h, i) = too_short s a (holding (held s)) (arrays_held a (held s)) f in
            (sym q ∙ g ∙ sym g' ∙ h, l ∙ sym l' ∙ i)
        by true f =
            let no : laid s ≡ None = none_laid why (length (log_in s)) (laid s) (sym q ∙ laid-left.0 ∙ sym (of_laid s a f (laid s) refl).0) in
            let (g, l) = laid-left in
            let (g', l') = of_laid s a f None no in
            let (h, i) = held_none f (unlaid_none s no) b (l ∙ sym l') in
            (sym q ∙ g ∙ sym g' ∙ h, i)

    -- they give one
    module _ (n : Holding) (q : x ≡ Ok n) where
      long : (leb 233_472 (length s) && room a) ≡ true
      long = by (leb 233_472 (length s) && room a) refl
        where
          by : (t : Bool) → (leb 233_472 (length s) && room a) ≡ t → (leb 233_472 (length s) && room a) ≡ true
          by true f = f
          by false f = let no : Err HoldError.TooShort ≡ Ok n = (laid_short s a f).0 ∙ sym laid-left.0 ∙ q in absurd (cc)

      told : Ok n ≡ laying (length (log_in s)) (laid s)
      told = sym q ∙ laid-left.0 ∙ sym (of_laid s a long (laid s) refl).0

      plan : (p : Plan) × (laid s ≡ Some p)
      unfolding laying
      plan = by (laid s) refl
        where
          by : (o : Option Plan) → laid s ≡ o → (p : Plan) × (laid s ≡ Some p)
          by None f = let no : Ok n ≡ Err HoldError.NoPlan = told ∙ ap (laying (length (log_in s))) f in absurd (cc)
          by (Some p) f = (p, f)

      -- its numbers are those that were told
      numbers : ◌≡◌ {A = Answer} (Ok n) (Ok (record { size = size_of plan.0; reports = length (log_in s) }))
      unfolding laying
      numbers = told ∙ ap (laying (length (log_in s))) plan.1

      numbers_are : n ≡ record { size = size_of plan.0; reports = length (log_in s) }
      numbers_are = let e = numbers in cc

      carts_are : n.size.carts ≡ length plan.0.carts
      unfolding size_of
      carts_are = ap (λ (h : Holding). h.size.carts) numbers_are

      steps_are : n.size.steps ≡ steps plan.0.paths
      unfolding size_of
      steps_are = ap (λ (h : Holding). h.size.steps) numbers_are

      reports_are : n.reports ≡ length (log_in s)
      reports_are = ap (λ (h : Holding). h.reports) numbers_are

      pub reports_few : n.reports ≤ 4096
      reports_few = omega (arith, reports_are, log_few s)

      -- and in the arrays
      there : b ≡ numbers_of a plan.0
      unfolding arrays_laid
      there = laid-left.1 ∙ sym (of_laid s a long (Some plan.0) plan.1).1

      cells_there : b.cells ≡ padded (length a.cells) (path_cells plan.0.paths)
      unfolding numbers_of
      cells_there = ap (λ (u : Arrays). u.cells) there

      -- its log was looked at
      module _ (t : Bool) (found : t ≡ log_kept s n b) where
        -- the tests are those of the plan
        tests : t ≡ (limits_kept plan.0 && is_book (log_book (length plan.0.carts) (steps plan.0.paths) (padded (length a.cells) (path_cells plan.0.paths)) (take n.reports (drop 196_608 s)) (drop 200_704 s)))
        unfolding log_kept
        tests =
            let y : Plan = plan.0 in
            let l : List ℕ = take n.reports (drop 196_608 s) in
            let d : List ℕ = drop 200_704 s in
            found ∙ ap (λ (z : List ℕ). paths_within n.size.carts n.size.steps z && is_book (log_book n.size.carts n.size.steps z l d)) cells_there
            ∙ ap₂ {C = Bool} (λ (g h : ℕ). paths_within g h (padded (length a.cells) (path_cells y.paths)) && is_book (log_book g h (padded (length a.cells) (path_cells y.paths)) l d)) carts_are steps_are
            ∙ ap (λ (z : Bool). z && is_book (log_book (length y.carts) (steps y.paths) (padded (length a.cells) (path_cells y.paths)) l d))
            (paths_within_is (tables_in s) y (laid_says s y plan.1).1 (length a.cells) (long_there s a long).1)

        -- within the limits the other test asks for the book
        book_asked : limits_kept plan.0 ≡ true → t ≡ is_book (replay plan.0 (first_book plan.0) (log_in s))
        book_asked h =
            let y : Plan = plan.0 in
            tests
            ∙ ap (λ (z : Bool). z && is_book (log_book (length y.carts) (steps y.paths) (padded (length a.cells) (path_cells y.paths)) (take n.reports (drop 196_608 s)) (drop 200_704 s))) h
            ∙ ap is_book (log_book_is (tables_in s) y (laid_says s y plan.1).1 h (length a.cells) (long_there s a long).1 (take n.reports (drop 196_608 s)) (drop 200_704 s)
            ∙ ap (replay y (first_book y)) (log_found s n.reports reports_are))

        -- one of them fails, and the arrays are cleared
        pub plan_not_held : t ≡ false → (d : Arrays) → d ≡ zeros a → HeldLeft (Err HoldError.NoPlan) d
        plan_not_held z d e = held_none long (by (limits_kept plan.0) refl) d e
          where
            by : (l : Bool) → limits_kept plan.0 ≡ l → held s ≡ None
            by false h = over s plan.0 plan.1 h
            by true h = no_log s plan.0 plan.1 h (no_book (replay plan.0 (first_book plan.0) (log_in s)) (sym (book_asked h) ∙ z))

        -- neither fails
        pub plan_held : t ≡ true → HeldLeft (Ok n) b
        unfolding holding arrays_held
        plan_held z = by (limits_kept plan.0) refl
          where
            by : (l : Bool) → limits_kept plan.0 ≡ l → HeldLeft (Ok n) b
            by false h =
                absurd (true≢false (sym z ∙ tests ∙ ap (λ (g : Bool). g && is_book (log_book (length plan.0.carts) (steps plan.0.paths) (padded (length a.cells) (path_cells plan.0.paths)) (take n.reports (drop 196_608 s)) (drop 200_704 s))) h))
            by true h =
                let (g, eg) = a_book (replay plan.0 (first_book plan.0) (log_in s)) (sym (book_asked h) ∙ z) in
                let (y, i) = of_held long _ (is_held s plan.0 plan.1 h g eg) in
                (numbers ∙ y, there ∙ i)

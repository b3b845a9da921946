-- The bounds of the plan that a slice holds, written to two arrays: its own, and behind them those that its log adds. Assumes nothing.
use Rattle.std.specs.Prelude.{Option, None, Some, Err, Ok, ◌++◌}
use Prim.Native.Nat.{ℕ, ◌+◌, ◌*◌, ◌≤◌, ◌<◌}
use native.Mathlib.Omega.{arith}
use mathlib.Core.Path.{◌≡◌, refl, ap, ap₂, sym, ◌∙◌, subst}
use mathlib.Core.Bool.{Bool, true, false, ◌&&◌, cond}
use mathlib.Core.List.Memᴰ
use mathlib.Core.List.{List, [], flat_map}
use lib.Dec.{T, leb, leb→le, lit≤}
use lib.ListN.{length, length-append}
use mir.Facts.{and_yes}
use borrow.Author.Tests.{le-leb, leb-true}
use Rattle.laws.proofs.Options.{none-ne-some, some-injective}
use Rattle.tables.specs.declared.Size.{Size}
use Rattle.tables.specs.Reading.{Arrays}
use Rattle.std.specs.Option.{option_map}
use Rattle.floor.specs.Plan.{Plan}
use Rattle.floor.specs.declared.Road.{Road}
use Rattle.floor.specs.declared.Cart.{Cart}
use Rattle.floor.specs.Paths.{steps}
use Rattle.floor.specs.Tables.{read_tables}
use Rattle.floor.proofs.Accepted.{Sound}
use Rattle.tables.specs.Arrays.{roads_in, carts_in, paths_in}
use Rattle.tables.proofs.RoadRecords.{roads_held}
use Rattle.tables.proofs.CartRecords.{carts_held}
use Rattle.tables.proofs.TablesRead.{plan_roads}
use Rattle.network.specs.Events.{event_count}
use Rattle.network.specs.Bounds.{Bound, bounds}
use Rattle.network.specs.BoundArrays.{bound_ends, bound_range, Puts}
use Rattle.network.proofs.BoundStores.{none_stored}
use Rattle.network.specs.declared.BoundArrays.{BoundArrays}
use Rattle.std.proofs.lemmas.List.Edits.{sets}
use Rattle.network.proofs.Putting.{puts_none, puts_more}
use Rattle.network.proofs.Routes.{event_count_is}
use Rattle.limits.specs.Limits.{of_paths, limits_kept}
use Rattle.limits.specs.Orders.{events_kept}
use Rattle.limits.proofs.Counts.{events_are}
use Rattle.limits.proofs.RowBounds.{of_paths_carts}
use Rattle.bounds.specs.declared.numbers.Numbers.{Numbers}
use Rattle.bounds.specs.Writing.{roads_of}
use Rattle.bounds.specs.Network.{plan_in, numbers_of, size_of, holding_of, plan_fitting, network_of, network_answer, network_bounds}
use Rattle.schedule.specs.Book.{Book, first_book, replay}
use Rattle.book.specs.Log.{added_of, added_answer}
use Rattle.book.proofs.ByPaths.{events_kept_in}
use Rattle.schedule.specs.Added.{added_bounds, all_bounds}
use Rattle.schedule.proofs.Logged.{Logged, logged_kept, bound_ends as ends_below}
use Rattle.schedule.proofs.Numbers.{added_few}
use Rattle.slice.specs.PlanSlice.{plan_need, tables_in, log_in, Held, held}
use Rattle.slice.specs.HeldPlan.{log_of, Lays}
use Rattle.slice.specs.declared.Holding.{Holding}
use Rattle.slice.specs.declared.HoldError.{HoldError}
use Rattle.slice.specs.Holding.{Answer, laid_into}
use Rattle.slice.proofs.Holds.{unlaid_none, over, accepted_laid, no_log, is_held}
use Rattle.slice.proofs.LaidPlan.{blank, never_short, not_laid, read_laid, sound_laid, paths_laid, book_laid, added_laid}
use Rattle.bounds.specs.declared.Network.{Network}
use Rattle.bounds.specs.declared.Bounding.{Bounding}
use Rattle.bounds.specs.Counted.{counted, counted_all, rest_of}
use Rattle.bounds.specs.Bounding.{bounding_of, bounding_held, bounding, Leaves, LeavesIn}

-- ---- the plan in arrays

-- few roads and carts
pub few_laid : (s : List ℕ) (a : Arrays) (m : Holding) → Lays s a m → (m.size.roads ≤ 1024) × (m.size.carts ≤ 64)
few_laid s a m h =
    let roads : length h.plan_laid.roads ≤ 1024 = plan_roads (tables_in s) h.plan_laid (read_laid s a m h) in
    let carts : length h.plan_laid.carts ≤ 64 = (sound_laid s a m h).few_carts in
    (omega (arith, h.roads_are), omega (arith, h.carts_are))

-- where no plan is read none is held
pub unread : (s : List ℕ) (long : plan_need ≤ length s) (x : Answer) → x ≡ (laid_into s blank).answer
    → (why : HoldError) → x ≡ Err why → (e r : List ℕ) → (Err why ≡ bounding (held s)) × LeavesIn (held s) e r e r
unfolding bounding bounding_held
unread s long x is HoldError.TooShort q e r = absurd (never_short s long x is q)
unread s long x is HoldError.NoPlan q e r =
    let none : held s ≡ None = unlaid_none s (not_laid s long x is HoldError.NoPlan q) in
    (sym (ap bounding none), record { written = []; left = none_stored bound_ends e 0 [] refl; left_ranges = none_stored bound_range r 0 [] refl; are = λ g f. absurd (none-ne-some _ (sym none ∙ f)) })

-- what is put from the front of two arrays on
pub leaves_in : (o : Option Held) (a b : BoundArrays) → a.place ≡ 0 → Leaves o a b → (e r : List ℕ) → e ≡ b.ends.now → r ≡ b.ranges.now → LeavesIn o a.ends.now a.ranges.now e r
leaves_in o a b front w e r te tr = record {
  written = w.written;
  left = te ∙ w.puts.ends ∙ ap (λ (n : ℕ). sets a.ends.now (2 * n) (flat_map bound_ends w.written)) front;
  left_ranges = tr ∙ w.puts.ranges ∙ ap (λ (n : ℕ). sets a.ranges.now (2 * n) (flat_map bound_range w.written)) front;
  are = w.are;
}

-- the plan in the arrays of a struct is that in the arrays
pub lays_of : (s : List ℕ) (n : Numbers) (a : Arrays) (m : Holding) → numbers_of n ≡ a → size_of n ≡ m.size → Lays s a m → Lays s (numbers_of n) (holding_of n m.reports)
lays_of s n a m e f l =
    subst (λ (z : Size). Lays s (numbers_of n) (record { size = z; reports = m.reports })) (sym f) (subst (λ (z : Arrays). Lays s z m) (sym e) l)

module _ (s : List ℕ) (n : Numbers) (reports : ℕ) (h : Lays s (numbers_of n) (holding_of n reports)) where
  abbrev its : Plan
  its = h.plan_laid

  -- the tables that it is of are read
  its_read : read_tables (tables_in s) ≡ Ok its
  its_read = read_laid s (numbers_of n) (holding_of n reports) h

  its_sound : Sound its
  its_sound = sound_laid s (numbers_of n) (holding_of n reports) h

  its_paths : paths_in n.paths.carts n.paths.steps n.paths.cells.now ≡ its.paths
  its_paths = paths_laid s (numbers_of n) (holding_of n reports) h

  -- so the plan in the arrays is that which is laid out
  plan_there : plan_in n ≡ its
  unfolding plan_in
  plan_there =
      let r : roads_of n.roads ≡ its.roads =
      ap (λ (m : ℕ). roads_in m n.roads.edges.now) h.roads_are ∙ ap (roads_in (length its.roads)) h.edges_are ∙ roads_held 4096 its.roads in
      let c : carts_in n.paths.carts n.speeds.now ≡ its.carts =
      ap (λ (m : ℕ). carts_in m n.speeds.now) h.carts_are ∙ ap (carts_in (length its.carts)) h.speeds_are ∙ carts_held 128 its.carts its_sound.sound_carts in
      ap (λ (x : List Road). record { roads = x; carts = carts_in n.paths.carts n.speeds.now; paths = paths_in n.paths.carts n.paths.steps n.paths.cells.now }) r
      ∙ ap₂ (λ (x : List Cart) (y : List (List ℕ)). record { roads = its.roads; carts = x; paths = y }) c its_paths

  -- the limits of paths and events
  abbrev kept_events : Bool
  kept_events = events_kept n.paths.carts n.paths.steps n.paths.cells.now

  -- the plan in the arrays fits, where it does, and is this one
  fits_by : (t : Bool) → kept_events ≡ t → plan_fitting n ≡ cond t (Some its) None
  unfolding plan_fitting
  fits_by t q = ap₂ {C = Option Plan} (λ (x : Bool) (y : Plan). cond x (Some y) None) q plan_there

  -- within the limits it fits
  plan_fits : limits_kept its ≡ true → plan_fitting n ≡ Some its
  plan_fits kept =
      fits_by true (ap (λ (m : ℕ). events_kept m n.paths.steps n.paths.cells.now) h.carts_are
      ∙ ap (λ (m : ℕ). events_kept (length its.carts) m n.paths.cells.now) h.steps_are
      ∙ ap (events_kept (length its.carts) (steps its.paths)) h.cells_are
      ∙ (events_kept_in (tables_in s) its its_read kept 8192 (lit≤ tt)).0)

  -- one that fits keeps the limit of events
  fitting_events : kept_events ≡ true → event_count its ≤ 4096
  unfolding events_kept of_paths
  fitting_events q =
      let few : T (leb (event_count (of_paths (paths_in n.paths.carts n.paths.steps n.paths.cells.now))) 4096) =
      (and_yes (leb n.paths.carts 64 && leb 1 n.paths.steps && leb n.paths.steps 1024 && leb (n.paths.carts * n.paths.steps) (length n.paths.cells.now)) (leb (event_count (of_paths (paths_in n.paths.carts n.paths.steps n.paths.cells.now))) 4096) (subst T (sym q) tt)).1 in
      let count : event_count its ≡ event_count (of_paths its.paths) =
      events_are its (sym its_sound.path_each) ∙ sym (events_are (of_paths its.paths) (of_paths_carts its.paths)) in
      omega (arith, count, leb→le (event_count (of_paths its.paths)) 4096 (subst (λ (x : List (List ℕ)). T (leb (event_count (of_paths x)) 4096)) its_paths few))

  -- ---- what is answered and left

  -- the arrays were a and are z
  abbrev pub Wrote : Option Bounding → BoundArrays → BoundArrays → Type 0
  Wrote x a z = (x ≡ bounding_held (held s)) × Leaves (held s) a z

  -- none is held
  none_held : (a z : BoundArrays) (bs : List Bound) → Puts a z bs → held s ≡ None → Wrote None a z
  unfolding bounding_held
  none_held a z bs p q =
      (sym (ap bounding_held q), record { written = bs; puts = p; are = λ g f. absurd (none-ne-some _ (sym q ∙ f)) })

  -- its own bounds are written first
  module _ (x : Option Network) (a b : BoundArrays) (x-is : x ≡ network_answer (plan_fitting n)) (own-put : Puts a b (network_bounds (plan_fitting n))) where
    -- they don't fit: the limits are passed
    pub own_unfit : x ≡ None → Wrote None a b
    unfolding network_answer
    own_unfit q = none_held a b _ own-put (by (limits_kept its) refl)
      where
        by : (t : Bool) → limits_kept its ≡ t → held s ≡ None
        by false k = over s its h.of_slice k
        by true k = let z : ◌≡◌ {A = Option Network} None (Some (network_of its)) = sym q ∙ x-is ∙ ap network_answer (plan_fits k) in absurd (none-ne-some _ z)

    -- so many events and bounds there are
    module _ (own : Network) (q : x ≡ Some own) where
      fit : kept_events ≡ true
      unfolding network_answer
      fit = by kept_events refl
        where
          by : (t : Bool) → kept_events ≡ t → kept_events ≡ true
          by true k = k
          by false k = let z : ◌≡◌ {A = Option Network} None (Some own) = sym (ap network_answer (fits_by false k)) ∙ sym x-is ∙ q in absurd (none-ne-some _ z)

      fits : plan_fitting n ≡ Some its
      fits = fits_by true fit

      own_is : own ≡ network_of its
      unfolding network_answer
      own_is = some-injective _ _ (sym q ∙ x-is ∙ ap network_answer fits)

      own_are : own.bounds ≡ length (bounds its)
      unfolding network_of
      own_are = ap (λ (y : Network). y.bounds) own_is

      events_are_told : own.events ≡ event_count its
      unfolding network_of
      events_are_told = ap (λ (y : Network). y.events) own_is

      own_written : Puts a b (bounds its)
      unfolding network_bounds
      own_written = subst (λ (o : Option Plan). Puts a b (network_bounds o)) fits own-put

      -- the limits are kept by their number
      kept_by : (t : Bool) → leb own.bounds 8192 ≡ t → limits_kept its ≡ t
      unfolding limits_kept
      kept_by t k = ap₂ {C = Bool} ◌&&◌ (le-leb (event_count its) 4096 (fitting_events fit)) (ap (λ (m : ℕ). leb m 8192) (sym own_are) ∙ k)

      -- ---- and behind them those of the log

      abbrev its_log : Option Book
      its_log = log_of s reports n.paths

      abbrev by_paths : Plan
      by_paths = of_paths (paths_in n.paths.carts n.paths.steps n.paths.cells.now)

      abbrev its_book : Option Book
      its_book = replay its (first_book its) (log_in s)

      module _ (few : leb own.bounds 8192 ≡ true) where
        kept : limits_kept its ≡ true
        kept = kept_by true few

        -- the book of the log in the slice
        book_is : its_log ≡ its_book
        unfolding log_of
        book_is = book_laid s (numbers_of n) (holding_of n reports) h kept

        module _ (b1 : Book) (k : its_book ≡ Some b1) where
          adds : added_of by_paths its_log ≡ added_bounds its b1
          unfolding added_of
          adds = ap (added_of by_paths) (book_is ∙ k) ∙ added_laid s (numbers_of n) (holding_of n reports) h b1

          logged : Logged its b1
          logged = record { tables = tables_in s; of_tables = accepted_laid s its h.of_slice kept; log = log_in s; replayed = k }

          -- how many there are in all
          more_few : own.bounds + length (added_bounds its b1) ≤ 12_288
          unfolding all_bounds
          more_few =
              let events : event_count its ≤ 4096 = fitting_events fit in
              let added : length (added_bounds its b1) < event_count its =
              added_few its b1 (logged_kept its b1 logged) (event_count its) (omega (arith, event_count_is its))
              (λ c m. (ends_below its b1 logged c (Memᴰ.append_right (bounds its) m)).1) in
              omega (arith, leb-true own.bounds 8192 few, added, events)

          -- what is answered
          both_told : counted_all own (added_answer by_paths its_log) ≡ bounding_held (held s)
          unfolding counted_all counted added_answer bounding_held bounding_of all_bounds
          both_told =
              let is : held s ≡ Some (record { tables = tables_in s; log = log_in s; plan = its; book = b1 }) = is_held s its h.of_slice kept b1 k in
              let more : length (added_bounds by_paths b1) ≡ length (added_bounds its b1) = ap length (added_laid s (numbers_of n) (holding_of n reports) h b1) in
              let all : own.bounds + length (added_bounds by_paths b1) ≡ length (bounds its ++ added_bounds its b1) = omega (arith, own_are, more, length-append (bounds its) (added_bounds its b1)) in
              ap₂ {C = Option Bounding} (λ (t : Bool) (o : Option ℕ). cond t (option_map (counted own) o) None) few (ap (added_answer by_paths) (book_is ∙ k))
              ∙ ap₂ {C = Option Bounding} (λ (e o : ℕ). Some (record { events = e; own = o; all = own.bounds + length (added_bounds by_paths b1) })) events_are_told own_are
              ∙ ap {B = Option Bounding} (λ (m : ℕ). Some (record { events = event_count its; own = length (bounds its); all = m })) all
              ∙ sym (ap bounding_held is)

          -- what is left
          both_left : (c : BoundArrays) → Puts b c (added_bounds its b1) → Leaves (held s) a c
          unfolding all_bounds
          both_left c p =
              let is : held s ≡ Some (record { tables = tables_in s; log = log_in s; plan = its; book = b1 }) = is_held s its h.of_slice kept b1 k in record {
                written = bounds its ++ added_bounds its b1;
                puts = puts_more a b c (bounds its) (added_bounds its b1) own_written p;
                are = λ g f. ap (λ (o : Held). all_bounds o.plan o.book) (some-injective _ _ (sym is ∙ f));
              }

      -- how many there are in all
      pub rest_few : own.bounds ≤ 8192 → own.bounds + length (added_of by_paths its_log) ≤ 12_288
      unfolding added_of
      rest_few l = by its_book refl
        where
          few : leb own.bounds 8192 ≡ true
          few = le-leb own.bounds 8192 l

          by : (o : Option Book) → its_book ≡ o → own.bounds + length (added_of by_paths its_log) ≤ 12_288
          by None k = let no_more : length (added_of by_paths its_log) ≡ 0 = ap (λ (o : Option Book). length (added_of by_paths o)) (book_is few ∙ k) in omega arith
          by (Some b1) k = let more : length (added_of by_paths its_log) ≡ length (added_bounds its b1) = ap length (adds few b1 k) in omega (arith, more, more_few few b1 k)

      -- what is answered and left
      pub rest_written : (z : Option Bounding) (c : BoundArrays) → z ≡ counted_all own (added_answer by_paths its_log)
          → Puts b c (rest_of own (added_of by_paths its_log)) → Wrote z a c
      unfolding counted_all rest_of added_answer
      rest_written z c z-is put = subst (λ (y : Option Bounding). Wrote y a c) (sym z-is) (by (leb own.bounds 8192) refl)
        where
          all_put : Puts a c (bounds its ++ rest_of own (added_of by_paths its_log))
          all_put = puts_more a b c (bounds its) _ own_written put

          among : (few : leb own.bounds 8192 ≡ true) (o : Option Book) → its_book ≡ o → Wrote (counted_all own (added_answer by_paths its_log)) a c
          among few None k =
              let nothing : counted_all own (added_answer by_paths its_log) ≡ None =
              ap₂ {C = Option Bounding} (λ (t : Bool) (i : Option ℕ). cond t (option_map (counted own) i) None) few (ap (added_answer by_paths) (book_is few ∙ k)) in
              subst (λ (y : Option Bounding). Wrote y a c) (sym nothing) (none_held a c _ all_put (no_log s its h.of_slice (kept few) k))
          among few (Some b1) k = (
            both_told few b1 k,
            both_left few b1 k c (subst (Puts b c) (ap (λ (t : Bool). cond t (added_of by_paths its_log) []) few ∙ adds few b1 k) put),
          )

          by : (t : Bool) → leb own.bounds 8192 ≡ t → Wrote (counted_all own (added_answer by_paths its_log)) a c
          by true k = among k its_book refl
          by false k =
              let nothing : counted_all own (added_answer by_paths its_log) ≡ None =
              ap {B = Option Bounding} (λ (t : Bool). cond t (option_map (counted own) (added_answer by_paths its_log)) None) k in
              subst (λ (y : Option Bounding). Wrote y a c) (sym nothing) (none_held a c _ all_put (over s its h.of_slice (kept_by false k)))

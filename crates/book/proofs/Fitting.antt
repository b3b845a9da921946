-- Paths in an array that fit: their first events in an array, and the book of a log over them. Assumes nothing.
use Rattle.std.specs.Prelude.{Option, None, Some, Err}
use Prim.Native.Nat.{ℕ, zero, suc, ◌+◌, ◌*◌, ◌≤◌, ◌<◌}
use native.Mathlib.Omega.{arith}
use mathlib.Core.Path.{◌≡◌, refl, ap, ap₂, sym, ◌∙◌, subst}
use mathlib.Core.Logic.{⊎_elim}
use mathlib.Core.Bool.{Bool, true, false, ◌&&◌, cond}
use mathlib.Core.List.Memᴰ
use mathlib.Core.List.{List, [], ◌∷◌, ◌++◌, map, Memᴰ}
use lib.Dec.{leb}
use lib.ListN.{length, get_or, take, drop, replicate, length-append, length-map, length-drop}
use lib.Seq.{take_at, length-take-le}
use Rattle.words.specs.Words.{written}
use Rattle.floor.specs.Plan.{Plan}
use Rattle.floor.specs.declared.Cart.{Cart}
use Rattle.tables.specs.Arrays.{paths_in}
use Rattle.tables.proofs.PathRecords.{paths_in_length}
use Rattle.network.specs.Events.{visits_of, points, Route, routes, routes_of, route_points, event_count, finish_event}
use Rattle.network.specs.Bounds.{Bound}
use Rattle.limits.specs.Limits.{of_paths}
use Rattle.limits.specs.Orders.{first_events, events_fit, firsts_fitting}
use Rattle.limits.proofs.Firsts.{fit_there, kept_says, events_counted}
use Rattle.limits.proofs.Counts.{point_count, route_count}
use Rattle.limits.proofs.RowBounds.{of_paths_carts}
use Rattle.schedule.specs.Book.{Report, ◌at◌, Book, first_book, in_time, replay}
use Rattle.collisions.specs.declared.Paths.{Paths}
use Rattle.limits.specs.OfPaths.{plan_of}
use Rattle.book.specs.declared.Log.{Log}
use Rattle.book.specs.declared.ReportError.TheVariants.{NoPoint}
use Rattle.book.specs.Log.{entries, log_of, log_book, book_of, answered, checked, added_of, added_answer}
use Rattle.book.specs.Replaying.{times_of, next_fits, time_fits, Firsts, Replayed, Holds}
use Rattle.book.proofs.Replays.{next_is}
use Rattle.book.proofs.Starts.{firsts_rise}
use Rattle.book.proofs.Along.{all_along}
use Rattle.book.proofs.ByLog.{added_are, times_most}

-- ---- what it is to fit

-- no more carts, steps and events than may be, and all of the paths there
pub record Fit (n w : ℕ) (s : List ℕ) : Type 0 where
  pub carts : n ≤ 64
  pub steps : 1 ≤ w
  pub cells : n * w ≤ length s
  pub events : event_count (of_paths (paths_in n w s)) ≤ 4096

pub fit_says : (n w : ℕ) (s : List ℕ) → events_fit n w s 65 ≡ true → Fit n w s
fit_says n w s e =
    let ((few, some, _, cells), events) = kept_says n w s true (sym e ∙ fit_there n w s) refl in
    record { carts = few; steps = some; cells = cells; events = omega (arith, events, events_counted n w s some cells) }

-- ---- each route has a point

-- each path has a cell
paths_there : (n w : ℕ) (s : List ℕ) → 1 ≤ w → n * w ≤ length s → (q : List ℕ) → Memᴰ q (paths_in n w s) → 1 ≤ length q
unfolding paths_in
paths_there zero w s o l q m = absurd (Memᴰ.not-nil m)
paths_there (suc n) w s o l q m =
    ⊎_elim
    (λ (e : q ≡ take w s). omega (arith, ap length e, length-take-le w s (omega arith)))
    (λ k. paths_there n w (drop w s) o (omega (arith, length-drop w s)) q k)
    (Memᴰ.cases_cons m)

-- so each route has a point
routes_there : (cs : List Cart) (ps : List (List ℕ)) (j e : ℕ) → ((q : List ℕ) → Memᴰ q ps → 1 ≤ length q)
    → (r : Route) → Memᴰ r (routes j e cs ps) → 1 ≤ length (route_points r)
unfolding routes route_points
routes_there [] ps j e h r m = absurd (Memᴰ.not-nil m)
routes_there (c ∷ cs) [] j e h r m = absurd (Memᴰ.not-nil m)
routes_there (c ∷ cs) (p ∷ ps) j e h r m =
    ⊎_elim
    (λ (q : r ≡ record { number = j; cart = c; visits = visits_of p; first = e }).
    subst (λ (x : Route). 1 ≤ length (points x.visits)) (sym q) (one p (h p (Memᴰ.head refl))))
    (λ k. routes_there cs ps (suc j) (e + length (points (visits_of p))) (λ q i. h q (Memᴰ.tail i)) r k)
    (Memᴰ.cases_cons m)
  where
    one : (q : List ℕ) → 1 ≤ length q → 1 ≤ length (points (visits_of q))
    one [] l = absurd (omega arith)
    one (x ∷ xs) l = omega (arith, point_count x xs)

-- ---- the first events in an array

module _ (n w : ℕ) (s : List ℕ) where
  abbrev pub plan : Plan
  plan = of_paths (paths_in n w s)

  pub firsts_there : events_fit n w s 65 ≡ true → (fs : List ℕ) → fs ≡ written (firsts_fitting n w s 65) (replicate 65 0) → Firsts plan n fs
  unfolding firsts_fitting first_events written routes_of of_paths
  firsts_there e fs q =
      let fit : Fit n w s = fit_says n w s e in
      let ps : List (List ℕ) = paths_in n w s in
      let carts : length plan.carts ≡ length ps = of_paths_carts ps in
      let many : length ps ≡ n = paths_in_length n w s in
      let all : List ℕ = first_events plan in
      let count : length (routes_of plan) ≡ length ps = route_count plan.carts ps 1 1 carts in
      let long : length all ≡ suc n =
      length-append (map (λ (r : Route). r.first) (routes_of plan)) (finish_event plan ∷ [])
      ∙ omega (arith, length-map (routes_of plan) (λ (r : Route). r.first), count, many) in
      record {
        are = ap (take (suc n)) (q ∙ ap (λ (b : Bool). cond b all [] ++ drop (length (cond b all [])) (replicate 65 0)) e) ∙ take_at all (drop (length all) (replicate 65 0)) (suc n) long;
        carts_are = carts ∙ many;
        routes_are = count ∙ many;
        have_points = routes_there plan.carts ps 1 1 (paths_there n w s fit.steps fit.cells);
        few = fit.events;
      }

  -- ---- the book of a log

  module _ (cs ts : List ℕ) where
    -- none where the paths do not fit
    pub no_book : events_fit n w s 65 ≡ false → log_book n w s cs ts ≡ None
    unfolding log_book
    no_book e = ap (λ (b : Bool). cond b (replay plan (first_book plan) (entries cs ts)) None) (sym (fit_there n w s) ∙ e)

    -- else that of the replay
    pub the_book : events_fit n w s 65 ≡ true → log_book n w s cs ts ≡ replay plan (first_book plan) (entries cs ts)
    unfolding log_book
    the_book e = ap (λ (b : Bool). cond b (replay plan (first_book plan) (entries cs ts)) None) (sym (fit_there n w s) ∙ e)

-- ---- what is kept of it

module _ (ps : Paths) (log : Log) (fs : List ℕ) (fit : events_fit ps.carts ps.steps ps.cells.now 65 ≡ true)
    (q : fs ≡ written (firsts_fitting ps.carts ps.steps ps.cells.now 65) (replicate 65 0)) where
  -- the numbers of the carts' first events
  pub firsts_kept : Firsts (plan_of ps) ps.carts fs
  firsts_kept = firsts_there ps.carts ps.steps ps.cells.now fit fs q

  -- a report is not accepted
  pub refused_book : replay (plan_of ps) (first_book (plan_of ps)) (log_of log) ≡ None → book_of ps log ≡ None
  refused_book h = the_book ps.carts ps.steps ps.cells.now log.carts.now log.times.now fit ∙ h

  -- all are
  pub accepted_book : (counts : List ℕ) (clock : ℕ) → Replayed (plan_of ps) (log_of log) ps.carts counts clock → Holds ps log ps.carts fs counts clock
  accepted_book counts clock r =
      record {
        book = r.book;
        given = the_book ps.carts ps.steps ps.cells.now log.carts.now log.times.now fit ∙ r.replays;
        replays = r.replays;
        clock_is = r.clock_is;
        firsts_are = firsts_kept;
        counted = r.counted;
      }

-- there are no more than 64 carts
pub fits_few : (n w : ℕ) (s : List ℕ) → events_fit n w s 65 ≡ true → n ≤ 64
fits_few n w s e = (fit_says n w s e).carts

module _ (ps : Paths) (log : Log) (carts : ℕ) (fs counts : List ℕ) (clock : ℕ) (k : Holds ps log carts fs counts clock) where
  -- ---- what it says of a report

  pub book_checked : (c u : ℕ) → answered (next_fits fs carts counts c) (time_fits clock u) ≡ checked (plan_of ps) (book_of ps log) (c at u)
  unfolding checked time_fits in_time
  book_checked c u =
      let b : Book = k.book in
      ap₂ answered
      (next_is (plan_of ps) carts fs log.carts.now log.times.now k.firsts_are b counts k.counted c u)
      (ap (λ (i : ℕ). leb i u && leb u 1_000_000_000_000) (sym k.clock_is))
      ∙ ap (λ (o : Option Book). checked (plan_of ps) o (c at u)) (sym k.given)

  -- ---- the bounds that it adds

  -- what the writer of them asks for
  pub firsts_apart : (i : ℕ) → i < carts → get_or fs i 0 < get_or fs (i + 1) 0
  firsts_apart i h = (firsts_rise (plan_of ps) carts fs k.firsts_are i h).0

  pub times_low : (c x : ℕ) → Memᴰ x (times_of c (log_of log)) → x ≤ 1_000_000_000_000
  times_low = times_most (plan_of ps) (first_book (plan_of ps)) k.book (log_of log) k.replays

  -- what it puts
  pub added_is : added_of (plan_of ps) (book_of ps log) ≡ all_along fs carts clock (log_of log)
  unfolding added_of
  added_is =
      ap (added_of (plan_of ps)) k.given
      ∙ added_are (plan_of ps) carts fs k.firsts_are (log_of log) k.book k.replays
      ∙ ap (λ (x : ℕ). all_along fs carts x (log_of log)) k.clock_is

  -- and answers
  pub answer_is : added_answer (plan_of ps) (book_of ps log) ≡ Some (length (all_along fs carts clock (log_of log)))
  unfolding added_answer added_of
  answer_is = ap (added_answer (plan_of ps)) k.given ∙ ap (λ (bs : List Bound). Some (length bs)) (sym (ap (added_of (plan_of ps)) k.given) ∙ added_is)

-- ---- without a book

-- no report is accepted
pub none_checked : (p : Plan) (o : Option Book) (r : Report) → o ≡ None → Err (NoPoint false) ≡ checked p o r
unfolding checked
none_checked p o r e = ap (λ (x : Option Book). checked p x r) (sym e)

-- and none added
pub none_added : (p : Plan) (o : Option Book) → o ≡ None → added_of p o ≡ []
unfolding added_of
none_added p o e = ap (added_of p) e

pub none_answer : (p : Plan) (o : Option Book) → o ≡ None → None ≡ added_answer p o
unfolding added_answer
none_answer p o e = ap (added_answer p) (sym e)

-- The claim about whole lists of calls: demand 3, over the outcomes. Assumes nothing.
use Rattle.std.specs.Prelude.{Option, None, Some, Ok, Err}
use Prim.Native.Nat.{ℕ, ◌^◌, ◌≤◌, ◌<◌}
use mathlib.Core.Path.{◌≡◌, refl, ap, sym, ◌∙◌, subst}
use mathlib.Core.Logic.{◌↔◌, ◌≢◌}
use mathlib.Core.Bool.{Bool, true, false, cond}
use mathlib.Core.List.Memᴰ
use mathlib.Core.List.{List, [], ◌∷◌, ◌++◌, map}
use lib.Dec.{T, leb, le→leb}
use lib.IntN.{pos}
use lib.ListN.{length, get_or, take, drop, length-map}
use mir.Facts.{and_yes, yes_and}
use Rattle.laws.proofs.Options.{none-ne-some, some-injective}
use Rattle.laws.proofs.Members.{at_place}
use Rattle.words.specs.Words.{words, word_at, written}
use Rattle.words.proofs.Reading.{word_at_words, written_front}
use Rattle.floor.specs.Plan.{Plan}
use Rattle.floor.specs.Tables.{Tables}
use Rattle.network.specs.Events.{event_count}
use Rattle.network.specs.Judge.{judge}
use Rattle.network.proofs.Order.{demand_2}
use Rattle.schedule.specs.Book.{Report, Book, first_book, acceptable, pass_next, book_after, replay}
use Rattle.schedule.specs.Timetable.{Timetable, timetable}
use Rattle.schedule.specs.Chain.{Item, direction_number, is_chain}
use Rattle.schedule.proofs.Log.{replay_snoc}
use Rattle.schedule.proofs.Logged.{Logged}
use Rattle.schedule.proofs.Chains.{ChainWithin}
use Rattle.schedule.proofs.ChainSizes.{chain_numbers}
use Rattle.schedule.proofs.Lent.{times_back}
use Rattle.schedule.proofs.Times.{timetable_earliest, timetable_counted, no_timetable_chain, no_timetable_none_fit}
use Rattle.hegtalim.specs.declared.TimeError.{TimeError}
use Rattle.hegtalim.specs.Answers.{Timed}
use Rattle.slice.specs.PlanSlice.{plan_need, plan_slice, Held, held}
use Rattle.schedule.specs.Lent.{Lent, long_enough, times_written, chain_written}
use Rattle.hegtalim.specs.Outcomes.{Load, load, book_answer, Reporting, report, meets_needs, Timetabled, too_short, no_plan, timed, no_times}
use Rattle.hegtalim.specs.Claim.{Call, reporting, timing, Reply, reported, Replies, to_report, to_timetable, Played, done, then, book_after_call, book_after_calls, Right, AllRight, times_in, Earliest, Impossible, Truthful, Demand3, Answered}
use Rattle.hegtalim.specs.Claim as Claim
use Rattle.slice.proofs.Slice.{held_slice, slice_length, held_says}
use Rattle.hegtalim.proofs.Calls.{load_accepted, load_held, report_slice}

-- ---- a plan slice between two calls

-- s holds the accepted tables and a log whose book is b
pub record Standing (ts : Tables) (p : Plan) (s : List ℕ) (b : Book) : Type 0 where
  pub places : ℕ
  pub enough : plan_need ≤ places
  pub of_tables : judge ts ≡ Ok p
  pub log : List Report
  pub replayed : replay p (first_book p) log ≡ Some b
  pub is : s ≡ plan_slice places ts log

module _ (ts : Tables) (p : Plan) where
  -- it is never a 10
  holds_plan : (s : List ℕ) (b : Book) (h : Standing ts p s b) → held s ≡ Some (record { tables = ts; log = h.log; plan = p; book = b })
  holds_plan s b h = ap held h.is ∙ held_slice h.places ts p h.log b h.enough h.of_tables h.replayed

  -- nor too short itself
  long : (s : List ℕ) (b : Book) → Standing ts p s b → T (leb plan_need (length s))
  long s b h =
      let e : length s ≡ h.places = ap length h.is ∙ slice_length h.places ts p h.log b h.enough h.of_tables h.replayed in
      le→leb plan_need (length s) (subst (λ (x : ℕ). plan_need ≤ x) (sym e) h.enough)

  logged : (s : List ℕ) (b : Book) → Standing ts p s b → Logged p b
  logged s b h = record { tables = ts; of_tables = h.of_tables; log = h.log; replayed = h.replayed }

  -- ---- one call

  -- a report is answered by the book, and leaves the slice of the book after it
  after_report : (s : List ℕ) (b : Book) (r : Report) → Standing ts p s b
      → ((report s r).answer ≡ book_answer p b r) × Standing ts p (report s r).plan (book_after p b r)
  unfolding book_after
  after_report s b r h =
      let e = ap (λ (x : List ℕ). report x r) h.is ∙ report_slice h.places ts p h.log b r h.enough h.of_tables h.replayed in (
        ap (λ (x : Reporting). x.answer) e,
        by (acceptable p b r) refl (ap (λ (x : Reporting). x.plan) e),
      )
    where
      by : (t : Bool) → acceptable p b r ≡ t
          → (report s r).plan ≡ elim t [ true ↦ plan_slice h.places ts (h.log ++ (r ∷ [])) | false ↦ plan_slice h.places ts h.log ]
          → Standing ts p (report s r).plan (cond t (pass_next b r) b)
      by true q e =
          record {
            places = h.places;
            enough = h.enough;
            of_tables = h.of_tables;
            log = h.log ++ (r ∷ []);
            replayed = replay_snoc p (first_book p) b h.log r h.replayed q;
            is = e;
          }
      by false q e = record { places = h.places; enough = h.enough; of_tables = h.of_tables; log = h.log; replayed = h.replayed; is = e }

  -- whether an answer is one of a timetable that is turned down
  is_no_plan : Timed → Bool
  is_no_plan (Ok k) = false
  is_no_plan (Err TimeError.TooShort) = false
  is_no_plan (Err TimeError.NoPlan) = true
  is_no_plan (Err (TimeError.NoTimes n)) = false

  is_too_short : Timed → Bool
  is_too_short (Ok k) = false
  is_too_short (Err TimeError.TooShort) = true
  is_too_short (Err TimeError.NoPlan) = false
  is_too_short (Err (TimeError.NoTimes n)) = false

  -- a timetable that meets its needs has slices that are long enough
  own_long : (s : List ℕ) (l : Lent) → meets_needs s l ≡ true → T (long_enough l)
  unfolding meets_needs
  own_long s l e = (and_yes (leb plan_need (length s)) (long_enough l) (subst T (sym e) tt)).1

  -- with the slice of a held plan, that is all it needs
  needs_met : (s : List ℕ) (b : Book) (l : Lent) → Standing ts p s b → T (long_enough l) → T (meets_needs s l)
  unfolding meets_needs
  needs_met s b l h k = yes_and (leb plan_need (length s)) (long_enough l) (long s b h) k

  abbrev RightTimed : Lent → Timed → Type 0
  RightTimed l a = (a ≢ (Err TimeError.NoPlan)) × ((a ≡ (Err TimeError.TooShort)) ↔ (¬ T (long_enough l)))

  -- an answer that is neither
  neither : (s : List ℕ) (l : Lent) (a : Timed) → meets_needs s l ≡ true → is_no_plan a ≡ false → is_too_short a ≡ false → RightTimed l a
  unfolding is_no_plan is_too_short
  neither s l a e f g = (
    λ q. subst T (sym (ap is_no_plan q) ∙ f) tt,
    (λ q. absurd (subst T (sym (ap is_too_short q) ∙ g) tt), λ k. absurd (k (own_long s l e))),
  )

  -- a timetable is no 10, and a 14 exactly for its own slices
  after_timetable : (s : List ℕ) (b : Book) (l l' : Lent) (a : Timed) → Standing ts p s b → Timetabled s l a l' → RightTimed l a
  unfolding is_no_plan is_too_short
  after_timetable s b l l' a h (too_short e) = (
    λ q. subst T (sym (ap is_no_plan q)) tt,
    (λ q k. subst T e (needs_met s b l h k), λ k. refl),
  )
  after_timetable s b l l' a h (no_plan e f) = absurd (none-ne-some _ (sym f ∙ holds_plan s b h))
  after_timetable s b l l' a h (timed e k f t g) = neither s l (Ok t.passes) e refl refl
  after_timetable s b l l' a h (no_times e k f g is c) = neither s l (Err (TimeError.NoTimes (length is))) e refl refl

  after_call : (s s' : List ℕ) (b : Book) (c : Call) (a : Reply) → Standing ts p s b → Replies s c a s'
      → Right p b c a × Standing ts p s' (book_after_call p b c)
  unfolding book_after_call
  after_call s s' b c a h (to_report s₁ r) = after_report s b r h
  after_call s s' b c a h (to_timetable s₁ l l' t k) = (after_timetable s b l l' t h k, h)

  -- ---- the list of calls

  after_calls : (s s' : List ℕ) (b : Book) (cs : List Call) (as' : List Reply) → Standing ts p s b → Played s cs as' s'
      → AllRight p b cs as' × Standing ts p s' (book_after_calls p b cs)
  unfolding book_after_calls
  after_calls s s' b cs as' h (done s₁) = (tt, h)
  after_calls s s' b cs as' h (then s₁ s₂ s₃ c a cs₁ as₁ one more) =
      let (right, next) = after_call s s₂ b c a h one in
      let (all, last) = after_calls s₂ s' (book_after_call p b c) cs₁ as₁ next more in
      ((right, all), last)

  -- ---- the timetable after the list

  -- the times written are read back
  times_read : (b : Book) (k : Logged p b) (t : Timetable) → timetable p b ≡ Some t → (l : Lent) (v : ℕ) → v < event_count p
      → times_in (times_written t l).times v ≡ pos (get_or t.times v 0)
  unfolding times_in
  times_read b k t e l v h = ap pos (times_back p b k t e l v h)

  earliest : (b : Book) → Logged p b → (t : Timetable) → timetable p b ≡ Some t → (l : Lent) → Earliest p b (times_in (times_written t l).times) t.passes
  earliest b k t e l =
      let (fits, least) = timetable_earliest p b k t e (times_in (times_written t l).times) (times_read b k t e l) in
      let (counted, below) = timetable_counted p b k t e in
      record { fits = fits; earliest = least; counted = counted; below = below }

  -- so are the chain's numbers
  numbers_back : (b : Book) → Logged p b → (is : List Item) → T (is_chain p b is) → (l : Lent) (i : ℕ) → i < length is
      → word_at 2 (chain_written is l).chain_bounds i ≡ get_or (map (λ (x : Item). x.number) is) i 0
  unfolding chain_written written
  numbers_back b k is c l i h =
      let numbers : List ℕ = map (λ (x : Item). x.number) is in
      let there : i < length numbers = subst (λ (n : ℕ). i < n) (sym (length-map is (λ (x : Item). x.number))) h in
      let (x, m, e) = Memᴰ.of_map (λ (x : Item). x.number) is (at_place numbers i 0 there) in
      word_at_words 2 numbers (drop (length (words 2 numbers)) l.chain_bounds) i there (subst (λ (n : ℕ). n < 256 ^ 2) e (chain_numbers p b k is c x m))

  impossible : (b : Book) → Logged p b → timetable p b ≡ None → (l : Lent) (is : List Item) → T (is_chain p b is)
      → Impossible p b (chain_written is l) (length is)
  unfolding chain_written
  impossible b k e l is c =
      let directions : List ℕ = map (λ (x : Item). direction_number x.direction) is in
      record {
        none_fit = no_timetable_none_fit p b k e;
        items = is;
        chain = c;
        long = refl;
        bounds_handed_over = numbers_back b k is c l;
        directions_handed_over =
            subst (λ (x : ℕ). take x (written directions l.chain_directions) ≡ directions) (length-map is (λ (x : Item). direction_number x.direction))
            (written_front directions l.chain_directions);
      }

  truthful : (s : List ℕ) (b : Book) (l l' : Lent) (a : Timed) → Standing ts p s b → T (long_enough l) → Timetabled s l a l' → Truthful p b a l'
  truthful s b l l' a h k (too_short e) = subst T e (needs_met s b l h k)
  truthful s b l l' a h k (no_plan e f) = none-ne-some _ (sym f ∙ holds_plan s b h)
  truthful s b l l' a h k (timed e x f t g) =
      let same : x ≡ record { tables = ts; log = h.log; plan = p; book = b } = some-injective _ _ (sym f ∙ holds_plan s b h) in
      earliest b (logged s b h) t (subst (λ (y : Held). timetable y.plan y.book ≡ Some t) same g) l
  truthful s b l l' a h k (no_times e x f g is c) =
      let same : x ≡ record { tables = ts; log = h.log; plan = p; book = b } = some-injective _ _ (sym f ∙ holds_plan s b h) in
      impossible b (logged s b h) (subst (λ (y : Held). timetable y.plan y.book ≡ None) same g) l is (subst (λ (y : Held). T (is_chain y.plan y.book is)) same c)

-- ---- the whole

-- what an accepted load leaves stands, with the first book
loaded_stands : (ts : Tables) (before : List ℕ) (p : Plan) → plan_need ≤ length before → judge ts ≡ Ok p → Standing ts p (load ts before).plan (first_book p)
unfolding replay
loaded_stands ts before p h e =
    record {
      places = length before;
      enough = h;
      of_tables = e;
      log = [];
      replayed = refl;
      is = ap (λ (x : Load). x.plan) (load_accepted ts before p h e);
    }

pub demand_3 : Demand3
demand_3 ts before e calls replies s played =
    let (p, h, j) = load_held ts before e in
    let first : Standing ts p (load ts before).plan (first_book p) = loaded_stands ts before p h j in
    let (right, last) = after_calls ts p (load ts before).plan s (first_book p) calls replies first played in
    record {
      plan = p;
      of_tables = j;
      replied = right;
      timetable = λ l l' a k t. truthful ts p s (book_after_calls p (first_book p) calls) l l' a last k t;
      order_kept = λ t f. ((demand_2 ts p j t).0 f.meets).3;
    }

-- ---- a timetable has an outcome on all input

pub answered : Answered
answered s l = by (meets_needs s l) refl (held s) refl
  where
    out : Type 0
    out = (a : Timed) × (l' : Lent) × Timetabled s l a l'

    held_out : (h : Held) → meets_needs s l ≡ true → held s ≡ Some h → (o : Option Timetable) → timetable h.plan h.book ≡ o → out
    held_out h e f (Some t) g = (Ok t.passes, times_written t l, timed e h f t g)
    held_out h e f None g =
        let (n, j, r, q) = held_says s h f in
        let k : Logged h.plan h.book = record { tables = h.tables; of_tables = j; log = h.log; replayed = r } in
        let c : ChainWithin h.plan h.book (event_count h.plan) = no_timetable_chain h.plan h.book k g in (
          Err (TimeError.NoTimes (length c.items)),
          chain_written c.items l,
          no_times e h f g c.items c.chain,
        )

    by : (t : Bool) → meets_needs s l ≡ t → (o : Option Held) → held s ≡ o → out
    by false e o f = ((Err TimeError.TooShort), l, too_short e)
    by true e None f = ((Err TimeError.NoPlan), l, no_plan e f)
    by true e (Some h) f = held_out h e f (timetable h.plan h.book) refl

-- so every list of calls can be played, from any slice: the claim speaks of them all
pub every_list_played : (s : List ℕ) (calls : List Call) → (replies : List Reply) × (s' : List ℕ) × Played s calls replies s'
every_list_played s [] = ([], s, done s)
every_list_played s (reporting r ∷ cs) =
    let (as', s', more) = every_list_played (report s r).plan cs in
    (reported (report s r).answer ∷ as', s', then s (report s r).plan s' (reporting r) (reported (report s r).answer) cs as' (to_report s r) more)
every_list_played s (timing l ∷ cs) =
    let (a, l', t) = answered s l in
    let (as', s', more) = every_list_played s cs in
    (Claim.timed a ∷ as', s', then s s s' (timing l) (Claim.timed a) cs as' (to_timetable s l l' a t) more)

-- Demand 3 as one claim about whole lists of calls, and what 10 means, over the outcomes (document 01, "Reports and timetable").
-- Assumes nothing.
use Rattle.std.specs.Prelude.{ℕ, ◌<◌, ◌≡◌, ◌↔◌, ◌≢◌, List, [], ◌∷◌, map, T, pos, ◌≤ℤ◌, length, get_or, take, Some, Ok, Err}
use Rattle.words.specs.Words.{word_at}
use Rattle.floor.specs.Plan.{Plan}
use Rattle.floor.specs.Tables.{Tables}
use Rattle.network.specs.Events.{event_count}
use Rattle.network.specs.Judge.{judge}
use Rattle.network.specs.Meaning.{Times, KeepsOrder}
use Rattle.walks.specs.Walks.{PassNumber}
use Rattle.schedule.specs.Book.{Report, Book, first_book, book_after}
use Rattle.schedule.specs.Fits.{Fits}
use Rattle.schedule.specs.Timetable.{arcs}
use Rattle.schedule.specs.Chain.{Item, direction_number, is_chain}
use Rattle.hegtalim.specs.Answers.{Reported}
use Rattle.hegtalim.specs.declared.TimeError.{TimeError}
use Rattle.hegtalim.specs.Answers.{Timed}
use Rattle.slice.specs.PlanSlice.{Held, held}
use Rattle.schedule.specs.Lent.{Lent, long_enough}
use Rattle.hegtalim.specs.Outcomes.{load, book_answer, report, Timetabled}

-- ---- the list of calls

-- "it holds reports and timetables in any order, with any numbers and any other slices"
pub data Call : Type 0 where
  reporting : Report → Call
  timing : Lent → Call

-- what a call answers
pub data Reply : Type 0 where
  reported : Reported → Reply
  timed : Timed → Reply

-- a call that gets the plan slice s, its reply, and the plan slice as it leaves it
pub data Replies : List ℕ → Call → Reply → List ℕ → Type 0 where
  to_report : (s : List ℕ) (r : Report) → Replies s (reporting r) (reported (report s r).answer) (report s r).plan
  to_timetable : (s : List ℕ) (l l' : Lent) (a : Timed) → Timetabled s l a l' → Replies s (timing l) (timed a) s

-- "each later one, and the timetable after the list, gets them as the call before left them"
pub data Played : List ℕ → List Call → List Reply → List ℕ → Type 0 where
  done : (s : List ℕ) → Played s [] [] s
  then : (s s' s'' : List ℕ) (c : Call) (a : Reply) (cs : List Call) (as' : List Reply)
      → Replies s c a s' → Played s' cs as' s'' → Played s (c ∷ cs) (a ∷ as') s''

-- ---- the book: "It is fed the accepted tables and the calls' arguments, never the plan slices."

-- "No timetable, refused or not, changes the book."
unfoldable pub book_after_call : Plan → Book → Call → Book
book_after_call p b (reporting r) = book_after p b r
book_after_call p b (timing l) = b

-- the book after a list of calls
unfoldable pub book_after_calls : Plan → Book → List Call → Book
book_after_calls p b [] = b
book_after_calls p b (c ∷ cs) = book_after_calls p (book_after_call p b c) cs

-- "Each report of the list is answered so."; "None of these calls is a 10; a timetable turned down for its own slices is a 14"
abbrev pub Right : Plan → Book → Call → Reply → Type 0
Right p b (reporting r) (reported a) = a ≡ book_answer p b r
Right p b (reporting r) (timed a) = ⊥
Right p b (timing l) (reported a) = ⊥
Right p b (timing l) (timed a) = (a ≢ (Err TimeError.NoPlan)) × ((a ≡ (Err TimeError.TooShort)) ↔ (¬ T (long_enough l)))

-- each call of the list, by the book as the calls before it left it
abbrev pub AllRight : Plan → Book → List Call → List Reply → Type 0
AllRight p b [] [] = Unit {0}
AllRight p b [] (a ∷ as') = ⊥
AllRight p b (c ∷ cs) [] = ⊥
AllRight p b (c ∷ cs) (a ∷ as') = Right p b c a × AllRight p (book_after_call p b c) cs as'

-- ---- the timetable after the list

-- the times that a times slice holds
unfoldable pub times_in : List ℕ → Times
times_in s e = pos (word_at 8 s e)

-- "Those returned fit, at no event are they later than any others that fit, and their number of passes is the one document 01 defines."
pub record Earliest (p : Plan) (b : Book) (t : Times) (passes : ℕ) : Type 0 where
  pub fits : Fits p b t
  pub earliest : (u : Times) → Fits p b u → (e : ℕ) → e < event_count p → t e ≤ℤ u e
  pub counted : PassNumber (arcs p b) (event_count p) passes
  pub below : passes < event_count p  -- "It is below the number of events."

-- "Otherwise a closed chain of bounds, those of the reports included, with a sum below zero is handed over."
pub record Impossible (p : Plan) (b : Book) (l : Lent) (n : ℕ) : Type 0 where
  pub none_fit : (u : Times) → ¬ Fits p b u
  pub items : List Item
  pub chain : T (is_chain p b items)
  pub long : length items ≡ n
  pub bounds_handed_over : (i : ℕ) → i < n → word_at 2 l.chain_bounds i ≡ get_or (map (λ (x : Item). x.number) items) i 0
  pub directions_handed_over : take n l.chain_directions ≡ map (λ (x : Item). direction_number x.direction) items

-- "Times are returned exactly when some fit.": those returned do, and where a chain is handed over none does
abbrev pub Truthful : Plan → Book → Timed → Lent → Type 0
Truthful p b (Ok k) l = Earliest p b (times_in l.times) k
Truthful p b (Err TimeError.TooShort) l = ⊥
Truthful p b (Err TimeError.NoPlan) l = ⊥
Truthful p b (Err (TimeError.NoTimes n)) l = Impossible p b l n

-- ---- the claim

-- what holds after an accepted load of these tables and this list of calls, which left the plan slice s
pub record Holds (ts : Tables) (calls : List Call) (replies : List Reply) (s : List ℕ) : Type 0 where
  pub plan : Plan
  pub of_tables : judge ts ≡ Ok plan
  pub replied : AllRight plan (first_book plan) calls replies
  -- "for a timetable called after it and not turned down for its own slices"
  pub timetable : (l l' : Lent) (a : Timed) → T (long_enough l) → Timetabled s l a l'
      → Truthful plan (book_after_calls plan (first_book plan) calls) a l'
  -- "In all times that fit, every two visits to a cell by different carts keep their order"
  pub order_kept : (t : Times) → Fits plan (book_after_calls plan (first_book plan) calls) t → KeepsOrder plan t

-- demand 3: "From an accepted load on, for every list of reports and timetables, refused ones included"
abbrev pub Demand3 : Type 0
Demand3 =
    (ts : Tables) (before : List ℕ) → (load ts before).answer ≡ (Ok tt)
    → (calls : List Call) (replies : List Reply) (s : List ℕ) → Played (load ts before).plan calls replies s
    → Holds ts calls replies s

-- "Each call ends, on all input": a timetable has an outcome whatever it gets (those of load and report are functions)
abbrev pub Answered : Type 0
Answered = (s : List ℕ) (l : Lent) → (a : Timed) × (l' : Lent) × Timetabled s l a l'

-- ---- what 10 means

-- what an "accepted load, with accepted reports since, leaves"
pub data Left : List ℕ → Type 0 where
  by_load : (ts : Tables) (before : List ℕ) → (load ts before).answer ≡ (Ok tt) → Left (load ts before).plan
  by_report : (s : List ℕ) (r : Report) → Left s → (report s r).answer ≡ (Ok tt) → Left (report s r).plan

-- "10: no plan held: the plan slices hold bytes that no accepted load, with accepted reports since, leaves."
abbrev pub Refusal10 : Type 0
Refusal10 = (s : List ℕ) → ((h : Held) × (held s ≡ Some h)) ↔ Left s

-- Names every definition of this module, for a proof that computes with them all.
unfoldable pub open_claim : Unit {0}
unfolding book_after_call book_after_calls times_in
open_claim = tt

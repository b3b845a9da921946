-- A book by its log: the times that a log has of each cart, and what a replay answers.
-- Assumes nothing.
use Rattle.std.specs.Prelude.{ℕ, suc, ◌+◌, ◌-◌, ◌≤◌, ◌<◌, ◌≡◌, Bool, ◌&&◌, cond, leb, ltb, eqb, length, get_or, take, Some}
use mathlib.Core.List.{List, [], ◌∷◌, Memᴰ}
use Rattle.floor.specs.Plan.{Plan}
use Rattle.network.specs.Events.{Route, routes_of, route_points, event_count}
use Rattle.limits.specs.Orders.{first_events}
use Rattle.schedule.specs.Book.{Report, Book, first_book, replay}
use Rattle.collisions.specs.declared.Paths.{Paths}
use Rattle.limits.specs.OfPaths.{plan_of}
use Rattle.book.specs.declared.Log.{Log}
use Rattle.book.specs.Log.{log_of, book_of}

-- the times that a log has of a cart
unfoldable pub times_of : ℕ → List Report → List ℕ
times_of c [] = []
times_of c (r ∷ rs) = cond (eqb r.cart c) (r.time ∷ times_of c rs) (times_of c rs)

-- cart c is there and has a point still to be passed: the numbers of its points end before the next cart's first
unfoldable pub next_fits : List ℕ → ℕ → List ℕ → ℕ → Bool
next_fits firsts carts counts c = leb 1 c && leb c carts && ltb (get_or firsts (c - 1) 0 + get_or counts (c - 1) 0) (get_or firsts c 0)

-- a time is neither below the clock nor over 10^12
unfoldable pub time_fits : ℕ → ℕ → Bool
time_fits clock t = leb clock t && leb t 1_000_000_000_000

-- its report is accepted
unfoldable pub report_fits : List ℕ → ℕ → List ℕ → ℕ → ℕ → ℕ → Bool
report_fits firsts carts counts clock c t = next_fits firsts carts counts c && time_fits clock t

-- a plan of so many carts, with the numbers of their first events in the front of an array and the finish's behind them
pub record Firsts (p : Plan) (carts : ℕ) (firsts : List ℕ) : Type 0 where
  pub are : take (suc carts) firsts ≡ first_events p
  pub carts_are : length p.carts ≡ carts
  pub routes_are : length (routes_of p) ≡ carts
  pub have_points : (r : Route) → Memᴰ r (routes_of p) → 1 ≤ length (route_points r)
  pub few : event_count p ≤ 4096

-- the counts that code keeps of a book: how many points each of its carts has passed
pub record Counted (b : Book) (carts : ℕ) (counts : List ℕ) : Type 0 where
  pub counted : (j : ℕ) → j < carts → get_or counts j 0 ≡ length (get_or b.passed j [])
  pub carts_are : length b.passed ≡ carts

-- the book that reports lead to from the first one, as code keeps it
pub record Replayed (p : Plan) (rs : List Report) (carts : ℕ) (counts : List ℕ) (clock : ℕ) : Type 0 where
  pub book : Book
  pub replays : replay p (first_book p) rs ≡ Some book
  pub clock_is : book.clock ≡ clock
  pub counted : Counted book carts counts

-- what is kept of the book that a log gives: the numbers of its carts' first events, the counts of points and the clock
pub record Holds (ps : Paths) (log : Log) (carts : ℕ) (firsts counts : List ℕ) (clock : ℕ) : Type 0 where
  pub book : Book
  pub given : book_of ps log ≡ Some book
  pub replays : replay (plan_of ps) (first_book (plan_of ps)) (log_of log) ≡ Some book
  pub clock_is : book.clock ≡ clock
  pub firsts_are : Firsts (plan_of ps) carts firsts
  pub counted : Counted book carts counts

-- Names every definition of this module, for a proof that computes with them all.
unfoldable pub open_replaying : Unit {0}
unfolding times_of next_fits time_fits report_fits
open_replaying = tt

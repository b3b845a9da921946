-- The book that a log gives, and the bounds that it adds: what the code that replays it answers and writes, on all input.
-- Assumes nothing.
use Rattle.std.specs.Prelude.{ℕ, Bool, true, false, cond, List, [], ◌∷◌, length, take, drop, Option, None, Some, Result, Ok, Err}
use Rattle.words.specs.Words.{little}
use Rattle.floor.specs.Plan.{Plan}
use Rattle.tables.specs.Arrays.{paths_in}
use Rattle.network.specs.Bounds.{Bound}
use Rattle.limits.specs.Limits.{of_paths}
use Rattle.limits.specs.Orders.{events_kept}
use Rattle.schedule.specs.Book.{Report, Book, first_book, has_next, in_time, replay}
use Rattle.schedule.specs.Added.{added_bounds}
use Rattle.collisions.specs.declared.Paths.{Paths}
use Rattle.book.specs.declared.Log.{Log}
use Rattle.book.specs.declared.ReportError.{ReportError}
use Rattle.book.specs.declared.ReportError.TheVariants.{NoPoint, BadTime}

-- the reports of these carts, their times in the bytes s
unfoldable pub entries : List ℕ → List ℕ → List Report
entries [] s = []
entries (c ∷ cs) s = record { cart = c; time = little (take 8 s) } ∷ entries cs (drop 8 s)

-- those of a log
abbrev pub log_of : Log → List Report
log_of l = entries l.carts.now l.times.now

-- the book that a log gives over n paths of w cells each in the front of an array: none where there is no such book, or the paths pass the limits
unfoldable pub log_book : ℕ → ℕ → List ℕ → List ℕ → List ℕ → Option Book
log_book n w s carts times =
    let p : Plan = of_paths (paths_in n w s) in
    cond (events_kept n w s) (replay p (first_book p) (entries carts times)) None

-- the same of paths and a log as code hands them on
abbrev pub book_of : Paths → Log → Option Book
book_of p l = log_book p.carts p.steps p.cells.now l.carts.now l.times.now

-- whether there is one
unfoldable pub is_book : Option Book → Bool
is_book None = false
is_book (Some b) = true

-- what is said of a report: whether its cart has a point to pass, no 11, and whether its time is in order, no 12
unfoldable pub answered : Bool → Bool → Result (Unit {0}) ReportError
answered next timely = cond next (cond timely (Ok tt) (Err BadTime)) (Err (NoPoint timely))

-- what the book says of it, if there is one: whether it is no 11, and whether it is no 12
unfoldable pub checked : Plan → Option Book → Report → Result (Unit {0}) ReportError
checked p None r = Err (NoPoint false)
checked p (Some b) r = answered (has_next p b r) (in_time b r)

-- the bounds that it adds
unfoldable pub added_of : Plan → Option Book → List Bound
added_of p None = []
added_of p (Some b) = added_bounds p b

-- how many
unfoldable pub added_answer : Plan → Option Book → Option ℕ
added_answer p None = None
added_answer p (Some b) = Some (length (added_bounds p b))

-- Names every definition of this module, for a proof that computes with them all.
unfoldable pub open_log : Unit {0}
unfolding entries log_book is_book answered checked added_of added_answer
open_log = tt

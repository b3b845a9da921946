-- Refusals because of the tables, and how a judgement goes on or stops (document 01, "Turned down because of the input").
-- Assumes nothing.
use Rattle.std.specs.Prelude.{ℕ, suc, Bool, true, false, List, [], ◌∷◌, ◌++◌, leb, length, Option, None, Some, Result, Ok, Err}
use Rattle.rfc4180.specs.Text.{same}
use Rattle.floor.specs.declared.Reason.{Reason}
use Rattle.floor.specs.declared.Reason.TheVariants.{Layout, Range, RoadPair, Limit, NoCarts, PathCount, OffRoad, SameCell, Exchange}
use Rattle.floor.specs.declared.Table.{Table}
use Rattle.floor.specs.declared.Table.TheVariants.{Roads, Carts, Paths}
use Rattle.floor.specs.declared.Refusal.{Refusal}

-- the refusals' numbers, in the document's words
unfoldable pub reason_number : Reason → ℕ
reason_number Layout = 1  -- "a byte, field count, number form or first line (record 0) breaks the layout"
reason_number Range = 2  -- "a number outside its range"
reason_number RoadPair = 3  -- "a road from a cell to itself, or a second road for a pair"
reason_number Limit = 4  -- "a count over its limit, at the record that first passes it"
reason_number NoCarts = 5  -- "no carts (table 2, record 0)"
reason_number PathCount = 6  -- "paths and carts differ in count (table 3, record 0)"
reason_number OffRoad = 7  -- "two successive cells neither equal nor joined by a road"
reason_number SameCell = 8  -- "two carts in one cell at one step"
reason_number Exchange = 9  -- "two carts exchange cells in one step"

-- "the table (1 roads, 2 carts, 3 paths, 0 none)"
unfoldable pub table_number : Table → ℕ
table_number Roads = 1
table_number Carts = 2
table_number Paths = 3

-- "A refusal gives its number, the table … and the record"; all other tables are accepted, with what was read
abbrev pub Judged : Type 0 → Type 0
Judged A = Result A Refusal

infixl 10 ◌>>=◌
-- the first refusal stands
unfoldable pub ◌>>=◌ : {A B : Type 0} → Judged A → (A → Judged B) → Judged B
Err r >>= f = Err r
Ok a >>= f = f a

infixl 10 ◌>>◌
-- a test, and then the rest
abbrev pub ◌>>◌ : {B : Type 0} → Judged (Unit {0}) → Judged B → Judged B
m >> k = m >>= λ _. k

-- a refusal unless the test passes
unfoldable pub need : Bool → Reason → Table → ℕ → Judged (Unit {0})
need true why t i = Ok tt
need false why t i = Err (record { reason = why; table = t; row = i })

-- a refusal where there is no value
unfoldable pub given : {A : Type 0} → Option A → Reason → Table → ℕ → Judged A
given None why t i = Err (record { reason = why; table = t; row = i })
given (Some a) why t i = Ok a

-- a refusal at the record of the paths that was found, if one was
unfoldable pub unless_found : Option ℕ → Reason → Judged (Unit {0})
unless_found None why = Ok tt
unless_found (Some i) why = Err (record { reason = why; table = Paths; row = i })

-- "At most 65,536 bytes a table"; "for bytes record 0, before that table is read"
unfoldable pub within_bytes : Table → List ℕ → Judged (Unit {0})
within_bytes t b = need (leb (length b) 65536) Limit t 0

-- "first line (record 0)": the records after it
unfoldable pub after_first_line : List ℕ → Table → List (List ℕ) → Judged (List (List ℕ))
after_first_line line t [] = Err (record { reason = Layout; table = t; row = 0 })
after_first_line line t (r ∷ rs) = do
  need (same line r) Layout t 0
  Ok rs

-- "the record, counted from 1 without the first line": the number of the one after those before it
unfoldable pub next : {A : Type 0} → List A → ℕ
next before = suc (length before)

-- "records in order": each judged in its turn, after what those before it were taken for
unfoldable pub records_in_order : {A : Type 0} → (List A → List ℕ → Judged A) → List A → List (List ℕ) → Judged (List A)
records_in_order judge before [] = Ok before
records_in_order judge before (r ∷ rs) = judge before r >>= λ a. records_in_order judge (before ++ (a ∷ [])) rs

-- Names every definition of this module, for a proof that computes with them all.
unfoldable pub open_refusal : Unit {0}
unfolding reason_number table_number ◌>>=◌ need given unless_found within_bytes after_first_line next records_in_order
open_refusal = tt

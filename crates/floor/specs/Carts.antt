-- The table of carts (document 01, "The three tables").
-- Assumes nothing.
use Rattle.std.specs.Prelude.{ℕ, Bool, true, ◌&&◌, List, [], ◌∷◌, leb, eqb, length, get_or, Option, None, Some, Ok}
use Rattle.rfc4180.specs.Text.{bytes}
use Rattle.rfc4180.specs.Records.{records, fields}
use Rattle.rfc4180.specs.Number.{number}
use Rattle.floor.specs.declared.Reason.TheVariants.{Layout, Range, Limit, NoCarts}
use Rattle.floor.specs.declared.Table.TheVariants.{Carts}
use Rattle.floor.specs.Refusal.{Judged, ◌>>=◌, ◌>>◌, need, given, within_bytes, after_first_line, next, records_in_order}
use Rattle.floor.specs.declared.Cart.{Cart}

-- the slowest speed is a number "or empty, which means none"
unfoldable pub number_or_empty : List ℕ → Option (Option ℕ)
number_or_empty [] = Some None
number_or_empty (b ∷ bs) = elim (number (b ∷ bs)) [ None ↦ None | Some n ↦ Some (Some n) ]

-- "fastest 1,000..20,000,000"
unfoldable pub fastest_range : ℕ → Bool
fastest_range f = leb 1000 f && leb f 20_000_000

-- "slowest 1,000..fastest"
unfoldable pub slowest_range : ℕ → Option ℕ → Bool
slowest_range f None = true
slowest_range f (Some s) = leb 1000 s && leb s f

-- a record of two fields, after the carts before it: 1, 2 and 4 ("64 carts")
unfoldable pub cart : List Cart → List ℕ → Judged Cart
cart before r = do
  let i : ℕ = next before
  let fs = fields r
  need (eqb (length fs) 2) Layout Carts i
  f ← given (number (get_or fs 0 [])) Layout Carts i
  s ← given (number_or_empty (get_or fs 1 [])) Layout Carts i
  need (fastest_range f && slowest_range f s) Range Carts i
  need (leb i 64) Limit Carts i
  Ok (record { fastest = f; slowest = s })

-- "Carts: the first line is the bytes `fastest,slowest`"; "5 follows the carts"
unfoldable pub read_carts : List ℕ → Judged (List Cart)
read_carts b = do
  within_bytes Carts b
  rs ← after_first_line (bytes "fastest,slowest") Carts (records b)
  cs ← records_in_order cart [] rs
  need (leb 1 (length cs)) NoCarts Carts 0
  Ok cs

-- Names every definition of this module, for a proof that computes with them all.
unfoldable pub open_carts : Unit {0}
unfolding number_or_empty fastest_range slowest_range cart read_carts
open_carts = tt

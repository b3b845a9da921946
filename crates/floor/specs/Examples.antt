-- The plans of document 01, "Plans with known times", and a few more, as tables.
-- Assumes nothing.
use Rattle.std.specs.Prelude.{ℕ, List, [], ◌∷◌, ◌++◌, Err, Ok}
use Prim.Native.String.{String}
use Rattle.rfc4180.specs.Text.{bytes}
use Rattle.floor.specs.Refusal.{Judged, reason_number, table_number}
use Rattle.floor.specs.Tables.{Tables}

-- lines, each ended by CR LF
unfoldable pub lines : List String → List ℕ
lines [] = []
lines (l ∷ ls) = bytes l ++ (13 ∷ 10 ∷ lines ls)

-- tables of these records
unfoldable pub tables : List String → List String → List String → Tables
tables rs cs ps =
    record { roads = lines ("from,to,length,margin" ∷ rs); carts = lines ("fastest,slowest" ∷ cs); paths = lines ps }

-- "Cells A..F are 0..5; every road 1,000,000 long, margin 250,000."; "roads AB, BC, CD, DE, CF; cart 1 fastest 250,000, cart 2 62,500; paths
-- A B C D E and B C F C D": the pair, by the record of cart 1
unfoldable pub the_pair : String → Tables
the_pair cart-1 =
    tables
    ("0,1,1000000,250000" ∷ "1,2,1000000,250000" ∷ "2,3,1000000,250000" ∷ "3,4,1000000,250000" ∷ "2,5,1000000,250000" ∷ [])
    (cart-1 ∷ "62500," ∷ [])
    ("0,1,2,3,4" ∷ "1,2,5,2,3" ∷ [])

-- carts and paths on the road AB
unfoldable pub on_ab : List String → List String → Tables
on_ab = tables ("0,1,1000000,250000" ∷ [])

-- one cart with path A B, by its record
unfoldable pub a_to_b : String → Tables
a_to_b cart = on_ab (cart ∷ []) ("0,1" ∷ [])

-- one cart with path A B, by the road's record
unfoldable pub by_road : String → Tables
by_road r = tables (r ∷ []) ("250000," ∷ []) ("0,1" ∷ [])

-- "Three carts, each moving to the next cell of a triangle of roads in one step"
unfoldable pub ring_of_three : Tables
ring_of_three =
    tables
    ("0,1,1000000,250000" ∷ "1,2,1000000,250000" ∷ "2,0,1000000,250000" ∷ [])
    ("250000," ∷ "250000," ∷ "250000," ∷ [])
    ("0,1" ∷ "1,2" ∷ "2,0" ∷ [])

-- two carts, each on a road of its own
unfoldable pub apart : Tables
apart = tables ("0,1,1000000,250000" ∷ "2,3,1000000,250000" ∷ []) ("250000," ∷ "250000," ∷ []) ("0,1" ∷ "2,3" ∷ [])

-- cart 1 leaves cell 0 once, and cart 2 enters it twice after that
unfoldable pub twice_entered : Tables
twice_entered =
    tables ("0,1,1000000,250000" ∷ "0,2,1000000,250000" ∷ []) ("250000," ∷ "250000," ∷ []) ("0,1,1,1,1" ∷ "2,0,2,0,2" ∷ [])

-- three carts cross cell 0 one after the other, by the record of cart 1
unfoldable pub crossing : String → Tables
crossing cart-1 =
    tables
    ("0,1,1000000,250000" ∷ "0,2,1000000,250000" ∷ "0,3,1000000,250000" ∷ "0,4,1000000,250000" ∷ "0,5,1000000,250000" ∷ "0,6,1000000,250000" ∷ [])
    (cart-1 ∷ "250000," ∷ "250000," ∷ [])
    ("1,0,2,2,2" ∷ "3,3,0,4,4" ∷ "5,5,5,0,6" ∷ [])

-- the refusal, the table and the record of a judgement; 0, 0, 0 where it accepts
unfoldable pub verdict : {A : Type 0} → Judged A → List ℕ
verdict (Err r) = reason_number r.reason ∷ table_number r.table ∷ r.row ∷ []
verdict (Ok a) = 0 ∷ 0 ∷ 0 ∷ []

-- Names every definition of this module, for a proof that computes with them all.
unfoldable pub open_examples : Unit {0}
unfolding lines tables the_pair on_ab a_to_b by_road ring_of_three apart twice_entered crossing verdict
open_examples = tt

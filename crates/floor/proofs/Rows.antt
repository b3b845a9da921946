-- Every refusal because of the tables, 1 to 9, with its table and record, and what is accepted beside it. Assumes nothing.
use Prim.Native.Nat.{ℕ, zero, suc}
use Prim.Native.String.{String}
use mathlib.Core.Path.{◌≡◌, refl}
use mathlib.Core.List.{List, [], ◌∷◌, ◌++◌, map}
use lib.ListN.{replicate}
use Rattle.rfc4180.specs.Text.{bytes}
use Rattle.floor.specs.declared.Road.{Road}
use Rattle.floor.specs.Roads.{road}
use Rattle.floor.specs.Paths.{path}
use Rattle.floor.specs.Tables.{Tables, read_tables}
use Rattle.floor.specs.Examples.{lines, tables, the_pair, on_ab, by_road, ring_of_three, verdict}
use Rattle.floor.specs.Open.{open_floor}

-- tables, and the refusal, table and record that they meet (0, 0, 0: accepted)
record Row : Type 0 where
  given : Tables
  meets : List ℕ

AB : String
AB = "0,1,1000000,250000"

-- roads, with a cart that stays in cell 0
roads : List String → Tables
roads rs = tables rs ("1000," ∷ []) ("0" ∷ [])

-- carts, and the path of one that stays in cell 0
carts : List String → Tables
carts cs = tables (AB ∷ []) cs ("0" ∷ [])

-- paths of two carts on the roads 01, 12, 02
paths : List String → Tables
paths ps = tables (AB ∷ "1,2,9,1" ∷ "0,2,9,1" ∷ []) ("1000," ∷ "1000," ∷ []) ps

-- one byte too many to be read, and none of them is looked at
long : List ℕ
long = replicate 65_537 0

accepted_rows : List Row
accepted_rows =
    record { given = the_pair "250000,"; meets = 0 ∷ 0 ∷ 0 ∷ [] }
    ∷ record { given = ring_of_three; meets = 0 ∷ 0 ∷ 0 ∷ [] }
    ∷ record { given = by_road "0,1,1000000,499999"; meets = 0 ∷ 0 ∷ 0 ∷ [] }
    ∷ record { given = roads []; meets = 0 ∷ 0 ∷ 0 ∷ [] }
    ∷ record { given = roads ("65534,0,3,1" ∷ "0,1,100000000,49999999" ∷ []); meets = 0 ∷ 0 ∷ 0 ∷ [] }
    ∷ record { given = carts ("20000000,1000" ∷ []); meets = 0 ∷ 0 ∷ 0 ∷ [] }
    ∷ record { given = carts ("1000,1000" ∷ []); meets = 0 ∷ 0 ∷ 0 ∷ [] }
    -- a cart follows another into the cell that it leaves
    ∷ record { given = paths ("0,1" ∷ "2,0" ∷ []); meets = 0 ∷ 0 ∷ 0 ∷ [] }
    -- "the last may end without it", the first line too
    ∷ record { given = record { roads = bytes "from,to,length,margin"; carts = bytes "fastest,slowest\r\n1000,"; paths = bytes "7" }; meets = 0 ∷ 0 ∷ 0 ∷ [] }
    ∷ []

road_rows : List Row
road_rows =
    -- "for bytes record 0, before that table is read"
    record { given = record { roads = long; carts = long; paths = long }; meets = 4 ∷ 1 ∷ 0 ∷ [] }
    ∷ record { given = record { roads = replicate 65_536 0; carts = []; paths = [] }; meets = 1 ∷ 1 ∷ 0 ∷ [] }
    -- "first line (record 0)"
    ∷ record { given = record { roads = []; carts = long; paths = [] }; meets = 1 ∷ 1 ∷ 0 ∷ [] }
    ∷ record { given = record { roads = lines ("from,to,length" ∷ []); carts = []; paths = [] }; meets = 1 ∷ 1 ∷ 0 ∷ [] }
    ∷ record { given = record { roads = bytes "from,to,length,margin\n0,1,9,1"; carts = []; paths = [] }; meets = 1 ∷ 1 ∷ 0 ∷ [] }
    -- "a byte, field count, number form"
    ∷ record { given = roads (AB ∷ "0,2,9" ∷ []); meets = 1 ∷ 1 ∷ 2 ∷ [] }
    ∷ record { given = roads ("0,1,9,1," ∷ []); meets = 1 ∷ 1 ∷ 1 ∷ [] }
    ∷ record { given = roads ("0,1,9,x" ∷ []); meets = 1 ∷ 1 ∷ 1 ∷ [] }
    ∷ record { given = roads ("" ∷ []); meets = 1 ∷ 1 ∷ 1 ∷ [] }
    -- 1 before 2 in a record; "records in order"
    ∷ record { given = roads ("65535,1,9,x" ∷ []); meets = 1 ∷ 1 ∷ 1 ∷ [] }
    ∷ record { given = roads ("65535,1,9,1" ∷ "x" ∷ []); meets = 2 ∷ 1 ∷ 1 ∷ [] }
    -- "Cells are 0..65,534. Length is in micrometres, 3..100,000,000; margin is at least 1 and twice the margin is below the length."
    ∷ record { given = roads ("0,65535,9,1" ∷ []); meets = 2 ∷ 1 ∷ 1 ∷ [] }
    ∷ record { given = roads ("0,1,2,0" ∷ []); meets = 2 ∷ 1 ∷ 1 ∷ [] }
    ∷ record { given = roads ("0,1,2,1" ∷ []); meets = 2 ∷ 1 ∷ 1 ∷ [] }
    ∷ record { given = roads ("0,1,100000001,1" ∷ []); meets = 2 ∷ 1 ∷ 1 ∷ [] }
    ∷ record { given = roads ("0,1,9,0" ∷ []); meets = 2 ∷ 1 ∷ 1 ∷ [] }
    ∷ record { given = by_road "0,1,1000000,500000"; meets = 2 ∷ 1 ∷ 1 ∷ [] }
    -- "a road from a cell to itself, or a second road for a pair", 2 before 3
    ∷ record { given = roads ("4,4,9,1" ∷ []); meets = 3 ∷ 1 ∷ 1 ∷ [] }
    ∷ record { given = roads (AB ∷ "1,2,9,1" ∷ "1,0,9,1" ∷ []); meets = 3 ∷ 1 ∷ 3 ∷ [] }
    ∷ record { given = roads (AB ∷ "0,1,9,0" ∷ []); meets = 2 ∷ 1 ∷ 2 ∷ [] }
    ∷ []

cart_rows : List Row
cart_rows =
    record { given = record { roads = lines ("from,to,length,margin" ∷ []); carts = long; paths = long }; meets = 4 ∷ 2 ∷ 0 ∷ [] }
    ∷ record { given = record { roads = lines ("from,to,length,margin" ∷ []); carts = []; paths = [] }; meets = 1 ∷ 2 ∷ 0 ∷ [] }
    ∷ record { given = carts ("" ∷ []); meets = 1 ∷ 2 ∷ 1 ∷ [] }
    ∷ record { given = carts ("1000" ∷ []); meets = 1 ∷ 2 ∷ 1 ∷ [] }
    ∷ record { given = carts ("1000," ∷ ",1000" ∷ []); meets = 1 ∷ 2 ∷ 2 ∷ [] }
    ∷ record { given = carts ("1000,," ∷ []); meets = 1 ∷ 2 ∷ 1 ∷ [] }
    -- "fastest 1,000..20,000,000, slowest 1,000..fastest or empty"
    ∷ record { given = carts ("999," ∷ []); meets = 2 ∷ 2 ∷ 1 ∷ [] }
    ∷ record { given = carts ("20000001," ∷ []); meets = 2 ∷ 2 ∷ 1 ∷ [] }
    ∷ record { given = carts ("1000,999" ∷ []); meets = 2 ∷ 2 ∷ 1 ∷ [] }
    ∷ record { given = carts ("1000,1001" ∷ []); meets = 2 ∷ 2 ∷ 1 ∷ [] }
    ∷ record { given = carts ("1000,0" ∷ []); meets = 2 ∷ 2 ∷ 1 ∷ [] }
    -- "64 carts", 2 before 4
    ∷ record { given = carts (replicate 66 "1000,"); meets = 4 ∷ 2 ∷ 65 ∷ [] }
    ∷ record { given = carts (replicate 64 "1000," ++ ("9," ∷ [])); meets = 2 ∷ 2 ∷ 65 ∷ [] }
    -- "no carts (table 2, record 0)", before the paths are read
    ∷ record { given = record { roads = lines ("from,to,length,margin" ∷ []); carts = lines ("fastest,slowest" ∷ []); paths = long }; meets = 5 ∷ 2 ∷ 0 ∷ [] }
    ∷ record { given = record { roads = lines ("from,to,length,margin" ∷ []); carts = bytes "fastest,slowest"; paths = [] }; meets = 5 ∷ 2 ∷ 0 ∷ [] }
    ∷ []

-- a record of n fields
zeros : ℕ → List ℕ
zeros zero = []
zeros (suc zero) = 48 ∷ []
zeros (suc (suc n)) = 48 ∷ 44 ∷ zeros (suc n)

path_rows : List Row
path_rows =
    record { given = record { roads = lines ("from,to,length,margin" ∷ []); carts = lines ("fastest,slowest" ∷ "1000," ∷ []); paths = long }; meets = 4 ∷ 3 ∷ 0 ∷ [] }
    ∷ record { given = paths ("0," ∷ []); meets = 1 ∷ 3 ∷ 1 ∷ [] }
    ∷ record { given = paths ("0,0" ∷ "1" ∷ []); meets = 1 ∷ 3 ∷ 2 ∷ [] }
    ∷ record { given = paths ("0,0" ∷ "1,65535" ∷ []); meets = 2 ∷ 3 ∷ 2 ∷ [] }
    -- "T 1,023": 1,025 fields
    ∷ record { given = record { roads = lines ("from,to,length,margin" ∷ []); carts = lines ("fastest,slowest" ∷ "1000," ∷ []); paths = zeros 1025 }; meets = 4 ∷ 3 ∷ 1 ∷ [] }
    -- "paths and carts differ in count (table 3, record 0)", and more records than carts are read
    ∷ record { given = paths ("0" ∷ []); meets = 6 ∷ 3 ∷ 0 ∷ [] }
    ∷ record { given = paths ("0" ∷ "1" ∷ "2" ∷ []); meets = 6 ∷ 3 ∷ 0 ∷ [] }
    ∷ record { given = paths ("0" ∷ "1" ∷ "x" ∷ []); meets = 1 ∷ 3 ∷ 3 ∷ [] }
    ∷ record { given = paths []; meets = 6 ∷ 3 ∷ 0 ∷ [] }
    -- a record of no bytes
    ∷ record { given = paths ("" ∷ []); meets = 1 ∷ 3 ∷ 1 ∷ [] }
    -- "7 over all paths, the lowest record first", before 8 and before 9
    ∷ record { given = on_ab ("1000," ∷ "1000," ∷ []) ("0,2" ∷ "1,3" ∷ []); meets = 7 ∷ 3 ∷ 1 ∷ [] }
    ∷ record { given = on_ab ("1000," ∷ "1000," ∷ []) ("0,0" ∷ "0,2" ∷ []); meets = 7 ∷ 3 ∷ 2 ∷ [] }
    ∷ record { given = on_ab ("1000," ∷ "1000," ∷ []) ("0,1,1" ∷ "1,0,2" ∷ []); meets = 7 ∷ 3 ∷ 2 ∷ [] }
    ∷ []

-- four carts on a square of roads with both diagonals
collision : List String → Tables
collision ps =
    tables ("0,1,9,1" ∷ "1,2,9,1" ∷ "2,3,9,1" ∷ "3,0,9,1" ∷ "0,2,9,1" ∷ "1,3,9,1" ∷ []) ("1000," ∷ "1000," ∷ "1000," ∷ "1000," ∷ []) ps

collision_rows : List Row
collision_rows =
    -- "two carts in one cell at one step"
    record { given = on_ab ("1000," ∷ "1000," ∷ []) ("0" ∷ "0" ∷ []); meets = 8 ∷ 3 ∷ 2 ∷ [] }
    -- "by earliest step, then by the higher record of the pair, the lowest such": step 1 has 2 with 3 and 1 with 4, step 2 has 1 with 2
    ∷ record { given = collision ("0,0,1" ∷ "1,1,1" ∷ "2,1,2" ∷ "3,0,3" ∷ []); meets = 8 ∷ 3 ∷ 3 ∷ [] }
    ∷ record { given = collision ("0,1,1" ∷ "1,2,1" ∷ "2,3,2" ∷ "3,0,3" ∷ []); meets = 8 ∷ 3 ∷ 2 ∷ [] }
    -- "two carts exchange cells in one step"; 8 at a later step comes before it
    ∷ record { given = on_ab ("1000," ∷ "1000," ∷ []) ("0,1" ∷ "1,0" ∷ []); meets = 9 ∷ 3 ∷ 2 ∷ [] }
    ∷ record { given = collision ("0,2,2" ∷ "1,3,3" ∷ "2,0,0" ∷ "3,1,1" ∷ []); meets = 9 ∷ 3 ∷ 3 ∷ [] }
    ∷ record { given = collision ("0,1,1" ∷ "1,0,0" ∷ "2,2,2" ∷ "3,3,2" ∷ []); meets = 8 ∷ 3 ∷ 4 ∷ [] }
    ∷ []

all_rows : List Row
unfolding accepted_rows road_rows cart_rows path_rows collision_rows
all_rows = accepted_rows ++ (road_rows ++ (cart_rows ++ (path_rows ++ collision_rows)))

refusals_follow : map (λ (r : Row). verdict (read_tables r.given)) all_rows ≡ map (λ (r : Row). r.meets) all_rows
unfolding open_floor AB roads carts paths long zeros collision all_rows
refusals_follow = refl

-- "1,024 roads", "T 1,023, 8,192 path cells": the last record that may be and the one after it
road_before : Road
road_before = record { from = 7; to = 8; length = 9; margin = 1 }

limits_follow : verdict (road (replicate 1023 road_before) (bytes "0,1,9,1")) ∷ verdict (road (replicate 1024 road_before) (bytes "0,1,9,1"))
    ∷ verdict (path [] (zeros 1024)) ∷ verdict (path [] (zeros 1025))
    ∷ verdict (path (replicate 8191 (0 ∷ [])) (bytes "0")) ∷ verdict (path (replicate 8192 (0 ∷ [])) (bytes "0"))
    ∷ []
    ≡ (0 ∷ 0 ∷ 0 ∷ []) ∷ (4 ∷ 1 ∷ 1025 ∷ []) ∷ (0 ∷ 0 ∷ 0 ∷ []) ∷ (4 ∷ 3 ∷ 1 ∷ []) ∷ (0 ∷ 0 ∷ 0 ∷ []) ∷ (4 ∷ 3 ∷ 8193 ∷ []) ∷ []
unfolding open_floor road_before zeros
limits_follow = refl

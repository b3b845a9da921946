-- What the reader of the three tables answers and leaves in its arrays, on all input.
-- Assumes nothing.
use Rattle.std.specs.Prelude.{ℕ, ◌≡◌, Bool, true, false, ◌&&◌, cond, leb, eqb, length, get_or, replicate, Option, None, Some, Err, Ok, Result}
use mathlib.Core.List.{List, [], flat_map}
use Rattle.words.specs.Words.{padded}
use Rattle.rfc4180.specs.Number.{number}
use Rattle.floor.specs.declared.Reason.{Reason}
use Rattle.tables.specs.declared.Size.{Size}
use Rattle.tables.specs.declared.ReadError.{ReadError}
use Rattle.floor.specs.declared.Reason.TheVariants.{Layout, Range, OffRoad, SameCell, Exchange}
use Rattle.floor.specs.Refusal.{Judged, ◌>>=◌, ◌>>◌, unless_found, after_first_line}
use Rattle.floor.specs.declared.Table.{Table}
use Rattle.floor.specs.Plan.{Plan}
use Rattle.floor.specs.declared.Road.{Road}
use Rattle.floor.specs.declared.Cart.{Cart}
use Rattle.floor.specs.Carts.{number_or_empty}
use Rattle.floor.specs.Roads.{road_ranges}
use Rattle.floor.specs.Paths.{read_paths, steps, off_road, first_same_cell, first_exchange}
use Rattle.floor.specs.Tables.{Tables, read_tables}
use Rattle.tables.specs.Arrays.{road_numbers, cart_numbers, path_cells}

-- what one record says, or why it is not taken
unfoldable pub said : {A : Type 0} → Judged A → Result A Reason
said (Err r) = Err r.reason
said (Ok a) = Ok a

-- what is said of a table: how many there are, or the refusal
abbrev pub Count : Type 0
Count = Judged ℕ

unfoldable pub counted : {A : Type 0} → Judged (List A) → Count
counted (Err r) = Err r
counted (Ok as') = Ok (length as')

-- whether the first of a table's records is this line, and those after it
abbrev pub BeginsWith : List ℕ → List (List ℕ) → Bool → List (List ℕ) → Type 0
BeginsWith line rows there left = (t : Table) → after_first_line line t rows ≡ cond there (Ok left) (Err (record { reason = Layout; table = t; row = 0 }))

-- the two speeds of a record, as far as its layout goes
unfoldable pub speeds : Option ℕ → Option (Option ℕ) → Option Cart
speeds None s = None
speeds (Some f) None = None
speeds (Some f) (Some s) = Some (record { fastest = f; slowest = s })

-- of its fields
unfoldable pub speeds_of : List (List ℕ) → Option Cart
speeds_of fs = cond (eqb (length fs) 2) (speeds (number (get_or fs 0 [])) (number_or_empty (get_or fs 1 []))) None

-- a road of four numbers
abbrev pub road_of : List ℕ → Road
road_of ns = record { from = get_or ns 0 0; to = get_or ns 1 0; length = get_or ns 2 0; margin = get_or ns 3 0 }

-- the road that a record's numbers say, in its ranges, or why there is none
unfoldable pub road_read : Option (List ℕ) → Result Road Reason
road_read None = Err Layout
road_read (Some ns) = cond (eqb (length ns) 4) (cond (road_ranges (road_of ns)) (Ok (road_of ns)) (Err Range)) (Err Layout)

-- what is said of a path: how many cells it has, or why it is not taken
abbrev pub PathTaken : Type 0
PathTaken = Result ℕ Reason

unfoldable pub path_taken : Judged (List ℕ) → PathTaken
path_taken (Err r) = Err r.reason
path_taken (Ok cs) = Ok (length cs)

-- what is said of paths: how many there are and of how many steps, or the refusal
abbrev pub PathsRead : Type 0
PathsRead = Judged (ℕ × ℕ)

unfoldable pub paths_read : Judged (List (List ℕ)) → PathsRead
paths_read (Err r) = Err r
paths_read (Ok ps) = Ok (length ps, steps ps)

-- that they are accepted, or the refusal
unfoldable pub accepted : {A : Type 0} → Judged A → Judged (Unit {0})
accepted (Err r) = Err r
accepted (Ok a) = Ok tt

-- "Then 7 over all paths …; then 8, then 9": the paths, where they keep to the roads and apart
unfoldable pub apart : List Road → List (List ℕ) → Judged (List (List ℕ))
apart rs ps = do
  unless_found (off_road rs 1 ps) OffRoad
  unless_found (first_same_cell ps) SameCell
  unless_found (first_exchange ps) Exchange
  Ok ps

-- the table of paths, and then these
unfoldable pub read_apart : List Road → ℕ → List ℕ → Judged (List (List ℕ))
read_apart rs carts b = read_paths carts b >>= apart rs

-- the arrays of a reader: four places a road, two a cart, one a path cell
pub record Arrays : Type 0 where
  pub roads : List ℕ
  pub carts : List ℕ
  pub cells : List ℕ

-- they have room for the limits: "1,024 roads, 64 carts, …, 8,192 path cells"
unfoldable pub room : Arrays → Bool
room a = leb 4096 (length a.roads) && leb 128 (length a.carts) && leb 8192 (length a.cells)

-- how many roads, carts and steps there are, or why there is no plan
abbrev pub Answer : Type 0
Answer = Result Size ReadError

-- an answer, and what the arrays then hold
pub record Outcome : Type 0 where
  pub answer : Answer
  pub arrays : Arrays

-- how many roads, carts and steps a plan has
unfoldable pub size_of : Plan → Size
size_of p = record { roads = length p.roads; carts = length p.carts; steps = steps p.paths }

unfoldable pub size_read : Judged Plan → Judged Size
size_read (Err r) = Err r
size_read (Ok p) = Ok (size_of p)

-- the answer to a judgement
unfoldable pub read_answer : Judged Plan → Answer
read_answer (Err r) = Err (ReadError.Refused r)
read_answer (Ok p) = Ok (size_of p)

-- how many roads an answer tells of: none where no plan is read
unfoldable pub roads_read : Answer → ℕ
roads_read (Err e) = 0
roads_read (Ok n) = n.roads

-- a refusal leaves zeros
unfoldable pub zeros : Arrays → Arrays
zeros a =
    record {
      roads = replicate (length a.roads) 0;
      carts = replicate (length a.carts) 0;
      cells = replicate (length a.cells) 0;
    }

-- each is as long as another
abbrev pub AsLong : Arrays → Arrays → Type 0
AsLong a b = (length b.roads ≡ length a.roads) × (length b.carts ≡ length a.carts) × (length b.cells ≡ length a.cells)

-- a plan leaves its numbers, and zeros after them
unfoldable pub numbers_of : Arrays → Plan → Arrays
numbers_of a p =
    record {
      roads = padded (length a.roads) (flat_map road_numbers p.roads);
      carts = padded (length a.carts) (flat_map cart_numbers p.carts);
      cells = padded (length a.cells) (path_cells p.paths);
    }

-- what a judgement leaves
unfoldable pub arrays_judged : Arrays → Judged Plan → Arrays
arrays_judged a (Err r) = zeros a
arrays_judged a (Ok p) = numbers_of a p

-- arrays without room stay as they came
unfoldable pub reading : Tables → Arrays → Outcome
reading ts a =
    elim (room a) [
      | false ↦ record { answer = (Err ReadError.TooShort); arrays = a }
      | true ↦ record { answer = read_answer (read_tables ts); arrays = arrays_judged a (read_tables ts) }
    ]

-- Names every definition of this module, for a proof that computes with them all.
unfoldable pub open_reading : Unit {0}
unfolding said counted speeds speeds_of road_read path_taken paths_read accepted apart read_apart room size_of size_read read_answer roads_read zeros numbers_of arrays_judged reading
open_reading = tt

-- The plan that a slice holds, in arrays: what the code that reads it answers and leaves, on all input.
-- Assumes nothing.
use Rattle.std.specs.Prelude.{ℕ, ◌≡◌, Bool, true, false, ◌&&◌, cond, List, [], ◌∷◌, leb, eqb, length, Option, None, Some, Result, Err, Ok}
use Rattle.floor.specs.Refusal.{Judged}
use Rattle.floor.specs.Plan.{Plan}
use Rattle.floor.specs.Tables.{Tables, read_tables}
use Rattle.tables.specs.Index.{Indexed, SameIndex, index_room}
use Rattle.tables.specs.declared.lent.RoadIndex.{RoadIndex}
use Rattle.tables.specs.Reading.{Arrays, size_of, room, zeros, numbers_of}
use Rattle.slice.specs.declared.Holding.{Holding}
use Rattle.slice.specs.declared.HoldError.{HoldError}
use Rattle.slice.specs.declared.Layout.{Layout}
use Rattle.slice.specs.PlanSlice.{plan_need, tables_in, log_in, Held, nothing_else, held}

-- nothing but zeros
unfoldable pub only_zeros : List ℕ → Bool
only_zeros [] = true
only_zeros (b ∷ bs) = eqb b 0 && only_zeros bs

-- how long the three tables in a slice are and how many reports its log has, where it holds nothing else
unfoldable pub layout : List ℕ → Option Layout
layout s =
    let ts : Tables = tables_in s in
    let l : Layout = record { roads = length ts.roads; carts = length ts.carts; paths = length ts.paths; reports = length (log_in s) } in
    cond (nothing_else s ts (log_in s)) (Some l) None

-- what is said of a slice
abbrev pub Answer : Type 0
Answer = Result Holding HoldError

-- how many roads, carts, steps and reports its plan has
unfoldable pub holding : Option Held → Answer
holding None = Err HoldError.NoPlan
holding (Some h) = Ok (record { size = size_of h.plan; reports = length h.log })

-- what is left in the arrays: the plan's numbers, or zeros
unfoldable pub arrays_held : Arrays → Option Held → Arrays
arrays_held a None = zeros a
arrays_held a (Some h) = numbers_of a h.plan

-- an answer, and what the arrays then hold
pub record Outcome : Type 0 where
  pub answer : Answer
  pub arrays : Arrays

-- where the slice is too short or the arrays have no room they stay as they came
unfoldable pub where_room : List ℕ → Arrays → Answer → Arrays → Outcome
where_room s a x b =
    elim (leb plan_need (length s) && room a) [ false ↦ record { answer = Err HoldError.TooShort; arrays = a } | true ↦ record { answer = x; arrays = b } ]

-- the plan that a slice holds, read into arrays
unfoldable pub read_slice : List ℕ → Arrays → Outcome
read_slice s a = where_room s a (holding (held s)) (arrays_held a (held s))

-- the plan that is accepted, if one is
unfoldable pub plan_of : Judged Plan → Option Plan
plan_of (Err r) = None
plan_of (Ok p) = Some p

-- the plan of the tables in a slice that holds tables, a log and nothing else: the last limits and the log are still to be judged
unfoldable pub laid : List ℕ → Option Plan
laid s = cond (nothing_else s (tables_in s) (log_in s)) (plan_of (read_tables (tables_in s))) None

-- what is said of it, with so many reports
unfoldable pub laying : ℕ → Option Plan → Answer
laying n None = Err HoldError.NoPlan
laying n (Some p) = Ok (record { size = size_of p; reports = n })

-- what is left in the arrays
unfoldable pub arrays_laid : Arrays → Option Plan → Arrays
arrays_laid a None = zeros a
arrays_laid a (Some p) = numbers_of a p

-- that plan, read into arrays
unfoldable pub laid_into : List ℕ → Arrays → Outcome
laid_into s a = where_room s a (laying (length (log_in s)) (laid s)) (arrays_laid a (laid s))

-- how many roads an answer tells of: none where no plan is read
unfoldable pub roads_held : Answer → ℕ
roads_held (Err e) = 0
roads_held (Ok h) = h.size.roads

-- what a reader that may leave the index half made has left of it: that of the roads where it tells of a plan, or without room what came
pub record IndexHeld (x : Answer) (s : List ℕ) (i j : RoadIndex) : Type 0 where
  pub same : SameIndex i j
  pub where_held : (h : Holding) → x ≡ Ok h → index_room i ≡ true → Indexed h.size.roads s j.heads.now j.nexts.now
  pub else_same : index_room i ≡ false → (j.heads.now ≡ i.heads.now) × (j.nexts.now ≡ i.nexts.now)

-- Names every definition of this module, for a proof that computes with them all.
unfoldable pub open_holding : Unit {0}
unfolding only_zeros layout holding arrays_held where_room read_slice plan_of laid laying arrays_laid laid_into roads_held
open_holding = tt

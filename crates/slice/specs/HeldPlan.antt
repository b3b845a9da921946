-- A plan that a slice holds, with its numbers in arrays: what code that goes on from the reader of the slice has.
-- Assumes nothing.
use Rattle.std.specs.Prelude.{ℕ, Bool, ◌&&◌, ◌≤◌, ◌≡◌, length, take, drop, Option, Some}
use mathlib.Core.List.{List, flat_map}
use Rattle.words.specs.Words.{padded}
use Rattle.floor.specs.Plan.{Plan}
use Rattle.floor.specs.Paths.{steps}
use Rattle.tables.specs.Arrays.{road_numbers, cart_numbers, path_cells}
use Rattle.collisions.specs.declared.Paths.{Paths}
use Rattle.tables.specs.Reading.{Arrays}
use Rattle.schedule.specs.Book.{Book}
use Rattle.book.specs.Log.{log_book, is_book}
use Rattle.limits.specs.Limits.{paths_within}
use Rattle.slice.specs.declared.Holding.{Holding}
use Rattle.slice.specs.PlanSlice.{plan_need, log_in, Held, held}
use Rattle.slice.specs.Holding.{laid}

-- the book that the n reports of a slice's log give over paths in an array
unfoldable pub log_of : List ℕ → ℕ → Paths → Option Book
log_of s n p = log_book p.carts p.steps p.cells.now (take n (drop 196_608 s)) (drop 200_704 s)

-- the paths of a plan in arrays keep the limits, and each report of the slice's log is accepted in its turn
unfoldable pub log_kept : List ℕ → Holding → Arrays → Bool
log_kept s n a =
    paths_within n.size.carts n.size.steps a.cells
    && is_book (log_book n.size.carts n.size.steps a.cells (take n.reports (drop 196_608 s)) (drop 200_704 s))

-- a slice holds a plan of this size with so many reports, whose numbers stand in three arrays
pub record Holds (s : List ℕ) (a : Arrays) (n : Holding) : Type 0 where
  pub plan_held : Held
  pub of_slice : held s ≡ Some plan_held
  pub long : plan_need ≤ length s
  pub roads_are : n.size.roads ≡ length plan_held.plan.roads
  pub carts_are : n.size.carts ≡ length plan_held.plan.carts
  pub steps_are : n.size.steps ≡ steps plan_held.plan.paths
  pub reports_are : n.reports ≡ length plan_held.log
  pub edges_are : a.roads ≡ padded 4096 (flat_map road_numbers plan_held.plan.roads)
  pub speeds_are : a.carts ≡ padded 128 (flat_map cart_numbers plan_held.plan.carts)
  pub cells_are : a.cells ≡ padded 8192 (path_cells plan_held.plan.paths)

-- the tables of a slice give a plan of this size, beside a log of so many reports, and its numbers stand in three arrays
pub record Lays (s : List ℕ) (a : Arrays) (n : Holding) : Type 0 where
  pub plan_laid : Plan
  pub of_slice : laid s ≡ Some plan_laid
  pub long : plan_need ≤ length s
  pub roads_are : n.size.roads ≡ length plan_laid.roads
  pub carts_are : n.size.carts ≡ length plan_laid.carts
  pub steps_are : n.size.steps ≡ steps plan_laid.paths
  pub reports_are : n.reports ≡ length (log_in s)
  pub edges_are : a.roads ≡ padded 4096 (flat_map road_numbers plan_laid.roads)
  pub speeds_are : a.carts ≡ padded 128 (flat_map cart_numbers plan_laid.carts)
  pub cells_are : a.cells ≡ padded 8192 (path_cells plan_laid.paths)

-- Names every definition of this module, for a proof that computes with them all.
unfoldable pub open_held_plan : Unit {0}
unfolding log_of log_kept
open_held_plan = tt

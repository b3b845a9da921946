-- The bounds of the plan that a slice holds, in arrays: what the code that writes them answers and leaves, on all input.
-- Assumes nothing.
use Rattle.std.specs.Prelude.{ℕ, ◌≡◌, Bool, true, false, leb, length, replicate, Option, None, Some, Result, Err}
use Rattle.std.specs.Option.{option_map, ok_or}
use mathlib.Core.List.{List, flat_map}
use Rattle.std.proofs.lemmas.List.Edits.{sets}
use Rattle.network.specs.Events.{event_count}
use Rattle.network.specs.Bounds.{Bound, bounds}
use Rattle.network.specs.BoundArrays.{bound_ends, bound_range, Puts}
use Rattle.network.specs.declared.BoundArrays.{BoundArrays}
use Rattle.schedule.specs.Added.{all_bounds}
use Rattle.slice.specs.declared.HoldError.{HoldError}
use Rattle.slice.specs.PlanSlice.{plan_need, Held}
use Rattle.bounds.specs.declared.Bounding.{Bounding}

-- a slice is long enough
unfoldable pub bounding_fits : List ℕ → Bool
bounding_fits s = leb plan_need (length s)

-- how many events, own bounds and bounds in all a held plan has
unfoldable pub bounding_of : Held → Bounding
bounding_of h = record { events = event_count h.plan; own = length (bounds h.plan); all = length (all_bounds h.plan h.book) }

unfoldable pub bounding_held : Option Held → Option Bounding
bounding_held o = option_map bounding_of o

-- what is said of it
unfoldable pub bounding : Option Held → Result Bounding HoldError
bounding o = ok_or (bounding_held o) HoldError.NoPlan

-- the answer
unfoldable pub bounding_answer : Bool → Option Held → Result Bounding HoldError
bounding_answer false h = Err HoldError.TooShort
bounding_answer true h = bounding h

-- an array that has these numbers of each bound is left with those of all bounds, the plan's own and those that its log adds, as many as there is room
-- for; with zeros where no plan is held
unfoldable pub bounds_left : (Bound → List ℕ) → Option Held → List ℕ → List ℕ
bounds_left numbers None e = replicate (length e) 0
bounds_left numbers (Some h) e = sets e 0 (flat_map numbers (all_bounds h.plan h.book))

-- what is left in an array
unfoldable pub bounding_left : (Bound → List ℕ) → Bool → Option Held → List ℕ → List ℕ
bounding_left numbers false h e = e
bounding_left numbers true h e = bounds_left numbers h e

-- what is written before it is known whether a plan is held: its bounds, where one is, and else any
pub record Leaves (o : Option Held) (a b : BoundArrays) : Type 0 where
  pub written : List Bound
  pub puts : Puts a b written
  pub are : (h : Held) → o ≡ Some h → written ≡ all_bounds h.plan h.book

-- the same in the front of two arrays: what was in them, and is
pub record LeavesIn (o : Option Held) (ends ranges ends' ranges' : List ℕ) : Type 0 where
  pub written : List Bound
  pub left : ends' ≡ sets ends 0 (flat_map bound_ends written)
  pub left_ranges : ranges' ≡ sets ranges 0 (flat_map bound_range written)
  pub are : (h : Held) → o ≡ Some h → written ≡ all_bounds h.plan h.book

-- Names every definition of this module, for a proof that computes with them all.
unfoldable pub open_bounding : Unit {0}
unfolding bounding_fits bounding_of bounding_held bounding bounding_answer bounds_left bounding_left
open_bounding = tt

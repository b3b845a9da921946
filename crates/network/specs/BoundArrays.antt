-- Bounds in two arrays: how the code that writes them hands them on. What stands in an array after a writer is said by `sets` (lib.Seq): numbers stored
-- one behind the other from a place on, of which those behind the array's end are left out (`set` of lib.ListN leaves an empty list as it is).
-- Assumes nothing.
use Rattle.std.specs.Prelude.{ℕ, zero, suc, ◌≡◌, ◌+◌, ◌*◌, min, cond, ltb, List, [], ◌∷◌, length, get_or, drop, Option, None, Some}
use mathlib.Core.List.{flat_map}
use Rattle.std.proofs.lemmas.List.Edits.{sets}
use Rattle.network.specs.Bounds.{Bound}
use Rattle.network.specs.declared.Bound.{Bound as Numbers}
use Rattle.network.specs.declared.BoundArrays.{BoundArrays}

-- the events that a bound goes from and to
unfoldable pub bound_ends : Bound → List ℕ
bound_ends b = b.from ∷ b.to ∷ []

-- a hi as a number: one more than hi, 0 for none
unfoldable pub hi_number : Option ℕ → ℕ
hi_number None = 0
hi_number (Some h) = suc h

-- its [lo, hi] as numbers
unfoldable pub bound_range : Bound → List ℕ
bound_range b = b.lo ∷ hi_number b.hi ∷ []

-- the hi of a number
unfoldable pub hi_of : ℕ → Option ℕ
hi_of zero = None
hi_of (suc h) = Some h

-- the n bounds in the front of two arrays
unfoldable pub bounds_in : ℕ → List ℕ → List ℕ → List Bound
bounds_in zero ends ranges = []
bounds_in (suc n) ends ranges =
    record { from = get_or ends 0 0; to = get_or ends 1 0; lo = get_or ranges 0 0; hi = hi_of (get_or ranges 1 0) }
    ∷ bounds_in n (drop 2 ends) (drop 2 ranges)

-- bounds put in two arrays from their place on, as far as either goes: the arrays stay the same ones, and their place is behind the bounds, as far as a number goes
pub record Puts (a b : BoundArrays) (bs : List Bound) : Type 0 where
  pub same_ends : b.ends.ghost_name ≡ a.ends.ghost_name
  pub same_ranges : b.ranges.ghost_name ≡ a.ranges.ghost_name
  pub ends : b.ends.now ≡ sets a.ends.now (2 * a.place) (flat_map bound_ends bs)
  pub ranges : b.ranges.now ≡ sets a.ranges.now (2 * a.place) (flat_map bound_range bs)
  pub place : b.place ≡ min (a.place + length bs) 18_446_744_073_709_551_615

-- a hi that 64 bits hold, but for the largest: no time is above that, so that it is none
unfoldable pub hi_kept : Option ℕ → Option ℕ
hi_kept None = None
hi_kept (Some h) = cond (ltb h 18_446_744_073_709_551_615) (Some h) None

-- the bound that numbers say
abbrev pub bound_of : Numbers → Bound
bound_of b = record { from = b.from; to = b.to; lo = b.lo; hi = hi_kept b.hi }

-- Names every definition of this module, for a proof that computes with them all.
unfoldable pub open_bound_arrays : Unit {0}
unfolding bound_ends hi_number bound_range hi_of bounds_in hi_kept
open_bound_arrays = tt

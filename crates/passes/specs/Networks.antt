-- A network as the code reads it, and what sweeps over it keep.
-- Assumes nothing.
use Rattle.std.specs.Prelude.{ℕ, ℤ, ◌*◌, ◌%◌, ◌≤◌, ◌<◌, ◌≡◌, true, List, length, get_or, Option, None, Some}
use Rattle.network.specs.Bounds.{Bound}
use Rattle.network.specs.BoundArrays.{bounds_in}
use Rattle.passes.specs.declared.arrays.Network.{Network}
use Rattle.passes.specs.declared.arrays.Place.{Place}
use Rattle.passes.specs.Solving.{network_fits}
use Rattle.passes.specs.Places.{bound_at}
use Rattle.passes.specs.Marks.{Coded}
use Rattle.passes.specs.Values.{InRange}

-- its bounds
abbrev pub bounds_of : Network → List Bound
bounds_of n = bounds_in n.bounds n.ends.now n.ranges.now

-- the bound at a place
abbrev pub bound_of : Network → ℕ → Bound
bound_of n i = bound_at i n.ends.now n.ranges.now

-- the bound that a place is of
abbrev pub its_bound : Place → Bound
its_bound p = bound_of p.net.now p.i

-- the hi of a bound, which is small
abbrev pub HiOf : Bound → Option ℕ → Type 0
HiOf b None = b.hi ≡ None
HiOf b (Some h) = (b.hi ≡ Some h) × (h ≤ 1_000_000_000_000)

-- c + 1 is the code of an arc: of a bound that is there, backward only where it has a hi
abbrev pub IsArc : Network → ℕ → Type 0
IsArc n c = (c < 2 * n.bounds) × (c % 2 ≡ 1 → 1 ≤ get_or n.ranges.now c 0)

-- the network of m bounds among n events in two arrays
pub record Reads (own m n : ℕ) (ends ranges : List ℕ) (net : Network) : Type 0 where
  pub fits : network_fits m n ends ranges ≡ true
  pub ends_are : net.ends.now ≡ ends
  pub ranges_are : net.ranges.now ≡ ranges
  pub own_is : net.own ≡ own
  pub bounds_are : net.bounds ≡ m
  pub events_are : net.events ≡ n

-- as many values and parents as events, values in their range, and codes of the bounds
pub record Kept (net : Network) (values : List ℤ) (parents : List ℕ) : Type 0 where
  pub long : length values ≡ net.events
  pub parents_long : length parents ≡ net.events
  pub range : InRange values
  pub coded : Coded (bounds_of net) parents

-- Passes over bounds in arrays: what the code that finds times or a chain answers and writes, on all input.
-- Assumes nothing.
use Rattle.std.specs.Prelude.{ℕ, zero, suc, ◌+◌, ◌*◌, ◌≡◌, Bool, true, false, ◌&&◌, cond, T, leb, ltb, length, get_or, Option, None, Some}
use mathlib.Core.List.{List, [], ◌∷◌, map, flat_map}
use Rattle.network.specs.Bounds.{Bound}
use Rattle.network.specs.BoundArrays.{hi_number, bounds_in}
use Rattle.walks.specs.Passes.{settled}
use Rattle.schedule.specs.Timetable.{ways, Timetable, timetable_of}
use Rattle.schedule.specs.Chain.{Direction, Item, Leg, leg, cost, closed_below_0}
use Rattle.schedule.specs.Lent.{Lent, long_enough, times_written, chain_written}
use Rattle.passes.specs.declared.Solved.{Solved}

-- a bound between two of n events, its lo and hi at most 10^12
unfoldable pub bound_fits : ℕ → Bound → Bool
bound_fits n b =
    ltb b.from n && ltb b.to n && leb b.lo 1_000_000_000_000 && leb (hi_number b.hi) 1_000_000_000_001

-- all of them
unfoldable pub bounds_fit : ℕ → List Bound → Bool
bounds_fit n [] = true
bounds_fit n (b ∷ bs) = bound_fits n b && bounds_fit n bs

-- m bounds among n events in the front of two arrays, a network within the limits: "4,096 events", 8,192 bounds and one for each event
unfoldable pub network_fits : ℕ → ℕ → List ℕ → List ℕ → Bool
network_fits m n ends ranges =
    leb m 12_288 && leb (2 * m) (length ends) && leb (2 * m) (length ranges) && leb 1 n && leb n 4096 && bounds_fit n (bounds_in m ends ranges)

-- the times of bounds among n events, by the passes; none where the sums grow for ever
unfoldable pub times_of : List Bound → ℕ → Option Timetable
times_of bs n = timetable_of (settled (flat_map ways bs) n)

-- a bound by its place, followed in a direction
pub record Pick : Type 0 where
  pub place : ℕ
  pub direction : Direction

-- the leg of the bound at a place, if there is one there
unfoldable pub leg_at : List Bound → ℕ → Direction → Option Leg
leg_at [] i d = None
leg_at (b ∷ bs) zero d = leg b d
leg_at (b ∷ bs) (suc i) d = leg_at bs i d

-- the legs of picks, if each has one
unfoldable pub picked_legs : List Bound → List Pick → Option (List Leg)
picked_legs bs [] = Some []
picked_legs bs (i ∷ is) =
    elim (leg_at bs i.place i.direction) [
      | None ↦ None
      | Some l ↦ elim (picked_legs bs is) [ None ↦ None | Some ls ↦ Some (l ∷ ls) ]
    ]

-- stands for the bound at a place past the list: none is picked there
unfoldable pub no_bound : Bound
no_bound = record { from = 0; to = 0; lo = 0; hi = None }

-- the number of a bound: the first `own` "are numbered from 0", of the others "each is numbered 10,000 + e"
unfoldable pub number_of : ℕ → List Bound → ℕ → ℕ
number_of own bs i = cond (ltb i own) i (10_000 + (get_or bs i no_bound).to)

-- the item of a chain that is picked
unfoldable pub picked : ℕ → List Bound → Pick → Item
picked own bs i = record { number = number_of own bs i.place; direction = i.direction }

-- the bounds bs among n events, the first `own` of them numbered from 0, and the slices lent: the answer, and the slices as they are left.
-- Which closed chain of bounds is picked is free, and nothing else
pub data Solves (own n : ℕ) (bs : List Bound) (l : Lent) : Solved → Lent → Type 0 where
  timed : (t : Timetable) → times_of bs n ≡ Some t → Solves own n bs l (Solved.Times t.passes) (times_written t l)
  cycle : times_of bs n ≡ None → (is : List Pick) (ls : List Leg) → picked_legs bs is ≡ Some ls → T (closed_below_0 (Some ls))
      → Solves own n bs l (Solved.Cycle (record { length = length is; cost = cost ls })) (chain_written (map (picked own bs) is) l)

-- the same, or nothing is found, and nothing written
pub data Searched (own n : ℕ) (bs : List Bound) (l : Lent) : Option Solved → Lent → Type 0 where
  search_solves : (a : Solved) (l' : Lent) → Solves own n bs l a l' → Searched own n bs l (Some a) l'
  search_nothing : Searched own n bs l None l

-- the answer, of arrays and slices: where they are no network, or short, nothing is written
pub data Solving (own m n : ℕ) (ends ranges : List ℕ) (l : Lent) : Option Solved → Lent → Type 0 where
  unfit : (network_fits m n ends ranges && long_enough l) ≡ false → Solving own m n ends ranges l None l
  solved : (network_fits m n ends ranges && long_enough l) ≡ true → (a : Solved) (l' : Lent) → Solves own n (bounds_in m ends ranges) l a l'
      → Solving own m n ends ranges l (Some a) l'

-- Names every definition of this module, for a proof that computes with them all.
unfoldable pub open_solving : Unit {0}
unfolding bound_fits bounds_fit network_fits times_of leg_at no_bound picked_legs number_of picked
open_solving = tt

-- Sums and parents as the passes keep them in arrays.
-- Assumes nothing.
use Rattle.std.specs.Prelude.{ℕ, zero, suc, ◌+◌, ◌*◌, ◌/◌, ◌%◌, ◌≤◌, ◌<◌, ◌≡◌, ◌≢◌, cond, T, ℤ, pos, negsuc, ◌<ℤ◌, length, get_or, take, Option, None, Some}
use mathlib.Core.List.{List, map, flat_map, Memᴰ}
use Rattle.words.specs.Words.{words, written}
use Rattle.network.specs.Bounds.{Bound}
use Rattle.walks.specs.Walks.{Arc}
use Rattle.walks.specs.Passes.{Sums, raise_all, same_number, settled}
use Rattle.walks.specs.Parents.{Parents, adopt_all, no_arc, steps_back, trail, Trapped}
use Rattle.walks.specs.Solutions.{total}
use Rattle.schedule.specs.Timetable.{ways}
use Rattle.schedule.specs.Chain.{Item, direction_number, Leg, cost, closed_below_0}
use Rattle.passes.specs.declared.Found.{Found}
use Rattle.passes.specs.Solving.{Pick, no_bound, picked_legs, picked}

-- the mark of an event that no walk has reached: −2^62
abbrev pub low : ℤ
low = negsuc 4_611_686_018_427_387_903

-- a sum, or none
unfoldable pub sum_at : ℤ → Option ℤ
sum_at x = cond (same_number x low) None (Some x)

-- the sums in an array
unfoldable pub sums_in : List ℤ → Sums
sums_in = map sum_at

-- how many ways the first i bounds are followed
unfoldable pub ways_before : List Bound → ℕ → ℕ
ways_before bs i = length (flat_map ways (take i bs))

-- the place of an arc by its code: 0 is none, 2 i + 1 the bound at place i followed forward, 2 i + 2 backward
unfoldable pub arc_place : List Bound → ℕ → Option ℕ
arc_place bs zero = None
arc_place bs (suc c) = Some (ways_before bs (c / 2) + c % 2)

-- the parents in an array
unfoldable pub parents_in : List Bound → List ℕ → Parents
parents_in bs = map (arc_place bs)

-- a code of these bounds: of none, or of a bound that is there, backward only where it has a hi
pub data Code (bs : List Bound) (code : ℕ) : Type 0 where
  of_none : code ≡ 0 → Code bs code
  of_forward : (i : ℕ) → i < length bs → code ≡ 2 * i + 1 → Code bs code
  of_backward : (i h : ℕ) → i < length bs → (get_or bs i no_bound).hi ≡ Some h → code ≡ 2 * i + 2 → Code bs code

-- an array has codes of these bounds alone
abbrev pub Coded : List Bound → List ℕ → Type 0
Coded bs codes = (v : ℕ) → Code bs (get_or codes v 0)

-- arcs followed in their turn, the first of them at a place, from what `old` has: the sums and the parents that this leaves
pub record Followed (bs : List Bound) (arcs : List Arc) (place : ℕ) (old new new' : List ℤ) (parents parents' : List ℕ) : Type 0 where
  pub sums : sums_in new' ≡ raise_all arcs (sums_in old) (sums_in new)
  pub adopted : parents_in bs parents' ≡ adopt_all arcs place (sums_in old) (sums_in new) (parents_in bs parents)
  pub coded : Coded bs parents → Coded bs parents'

-- a chain of bounds found, of this length and cost, and written to the front of two slices: which is picked is free
pub record ChainFound (own : ℕ) (bs : List Bound) (long : ℕ) (costs : ℤ) (numbers directions numbers' directions' : List ℕ) : Type 0 where
  pub picks : List Pick
  pub legs : List Leg
  pub legs_are : picked_legs bs picks ≡ Some legs
  pub closed : T (closed_below_0 (Some legs))
  pub long_is : long ≡ length picks
  pub costs_are : costs ≡ cost legs
  pub numbers_are : numbers' ≡ written (words 2 (map (λ (i : Item). i.number) (map (picked own bs) picks))) numbers
  pub directions_are : directions' ≡ written (map (λ (i : Item). direction_number i.direction) (map (picked own bs) picks)) directions

-- an event is led back: its parent is there, is one of the arcs, and ends at it
pub record Led (arcs : List Arc) (ps : Parents) (x : ℕ) : Type 0 where
  pub place : ℕ
  pub place_is : get_or ps x None ≡ Some place
  pub of_arcs : Memᴰ (get_or arcs place no_arc) arcs
  pub ends : (get_or arcs place no_arc).to ≡ x

-- x is as many steps back from v as there are events, and each event on the way is led back
pub record LedBack (bs : List Bound) (parents : List ℕ) (v x : ℕ) : Type 0 where
  pub at : x ≡ steps_back (flat_map ways bs) (parents_in bs parents) (length parents) v
  pub led : (j : ℕ) → j < length parents → Led (flat_map ways bs) (parents_in bs parents) (steps_back (flat_map ways bs) (parents_in bs parents) j v)

-- the parents lead from x to x, for the first time after at most n steps, and gain
pub record Gaining (arcs : List Arc) (n : ℕ) (ps : Parents) (x : ℕ) : Type 0 where
  pub steps : ℕ
  pub positive : 0 < steps
  pub short : steps ≤ n
  pub closes : steps_back arcs ps steps x ≡ x
  pub first : (i : ℕ) → 0 < i → i < steps → steps_back arcs ps i x ≢ x
  pub gains : pos 0 <ℤ total (trail arcs ps steps x)

-- x lies on a cycle of parents that gains, as many steps back from an event as there are events, and the sums grow for ever
pub record CycleFound (bs : List Bound) (parents : List ℕ) (x : ℕ) : Type 0 where
  pub unsettled : settled (flat_map ways bs) (length parents) ≡ None
  pub event : ℕ
  pub below : event < length parents
  pub trapped : Trapped (flat_map ways bs) (length parents) (parents_in bs parents) event
  pub starts : x ≡ steps_back (flat_map ways bs) (parents_in bs parents) (length parents) event

-- what passes or sweeps come to, with the sums and the parents that they leave: the number of passes, or an event on a cycle of parents that gains
pub data Finds (bs : List Bound) (n : ℕ) (sums : List ℤ) (parents : List ℕ) : Found → Type 0 where
  finds_times : (k : ℕ) → settled (flat_map ways bs) n ≡ Some (record { passes = k; sums = sums_in sums }) → Finds bs n sums parents (Found.Settled k)
  finds_cycle : (x : ℕ) → length parents ≡ n → Coded bs parents → CycleFound bs parents x → Finds bs n sums parents (Found.Looped x)

-- Names every definition of this module, for a proof that computes with them all.
unfoldable pub open_marks : Unit {0}
unfolding sum_at sums_in ways_before arc_place parents_in
open_marks = tt

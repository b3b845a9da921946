-- A chain: why no times exist (document 01, "Reports and timetable").
-- Assumes nothing.
use Rattle.std.specs.Prelude.{ℕ, Bool, true, false, ◌&&◌, ◌||◌, not, cond, List, [], ◌∷◌, eqb, ℤ, pos, neg_ℤ, ◌+ℤ◌, Option, None, Some}
use Rattle.std.specs.Int.Signed.{lt_z}
use Rattle.floor.specs.Plan.{Plan}
use Rattle.network.specs.Bounds.{Bound}
use Rattle.schedule.specs.Book.{Book}
use Rattle.schedule.specs.Added.{Numbered, numbered_bounds}

-- "directions: 0 goes from u to v …, 1 goes back"
pub data Direction : Type 0 where
  onward back : Direction

-- their numbers
unfoldable pub direction_number : Direction → ℕ
direction_number onward = 0
direction_number back = 1

-- "A chain is a list of bound numbers with directions"
pub record Item : Type 0 where
  pub number : ℕ
  pub direction : Direction

-- what an item comes to: it begins at an event, ends at an event, and costs
pub record Leg : Type 0 where
  pub begins : ℕ
  pub ends : ℕ
  pub costs : ℤ

-- "0 goes from u to v and costs hi (never taken where hi is none)"
unfoldable pub onward_leg : Bound → Option ℕ → Option Leg
onward_leg b None = None
onward_leg b (Some h) = Some (record { begins = b.from; ends = b.to; costs = pos h })

-- "1 goes back and costs −lo"
unfoldable pub leg : Bound → Direction → Option Leg
leg b onward = onward_leg b b.hi
leg b back = Some (record { begins = b.to; ends = b.from; costs = neg_ℤ (pos b.lo) })

-- the leg of an item, by its bound's number
unfoldable pub leg_of : List Numbered → Item → Option Leg
leg_of [] i = None
leg_of (b ∷ bs) i = cond (eqb b.number i.number) (leg b.bound i.direction) (leg_of bs i)

-- the legs of a list of items, if each has one
unfoldable pub legs : List Numbered → List Item → Option (List Leg)
legs bs [] = Some []
legs bs (i ∷ is) = elim (leg_of bs i) [ None ↦ None | Some l ↦ elim (legs bs is) [ None ↦ None | Some ls ↦ Some (l ∷ ls) ] ]

-- "Each item begins at the event where the one before it ends, the last ends where the first begins": from event u on, and back to event e
unfoldable pub linked : ℕ → ℕ → List Leg → Bool
linked u e [] = eqb u e
linked u e (l ∷ ls) = eqb u l.begins && linked l.ends e ls

-- whether one of them begins at event e
unfoldable pub begins_at : ℕ → List Leg → Bool
begins_at e [] = false
begins_at e (l ∷ ls) = eqb e l.begins || begins_at e ls

-- "no event is met twice before that"
unfoldable pub no_event_twice : List Leg → Bool
no_event_twice [] = true
no_event_twice (l ∷ ls) = not (begins_at l.begins ls) && no_event_twice ls

-- "the costs, added with their signs"
unfoldable pub cost : List Leg → ℤ
cost [] = pos 0
cost (l ∷ ls) = l.costs +ℤ cost ls

-- "come below 0"
unfoldable pub closed_below_0 : Option (List Leg) → Bool
closed_below_0 None = false
closed_below_0 (Some []) = false
closed_below_0 (Some (l ∷ ls)) = linked l.ends l.begins ls && no_event_twice (l ∷ ls) && lt_z (cost (l ∷ ls)) (pos 0)

-- a chain as defined, of a plan and its book
unfoldable pub is_chain : Plan → Book → List Item → Bool
is_chain p b is = closed_below_0 (legs (numbered_bounds p b) is)

-- Names every definition of this module, for a proof that computes with them all.
unfoldable pub open_chain : Unit {0}
unfolding direction_number onward_leg leg leg_of legs linked begins_at no_event_twice cost closed_below_0 is_chain
open_chain = tt

-- Paths in an array, and the first two of their carts that do not keep apart.
-- Assumes nothing.
use Rattle.std.specs.Prelude.{ℕ, zero, suc, ◌*◌, cond, List, [], ◌∷◌, leb, length, take, drop, Option, None, Some, option_map}
use Rattle.floor.specs.declared.Reason.TheVariants.{SameCell, Exchange}
use Rattle.floor.specs.declared.Table.TheVariants.{Paths}
use Rattle.floor.specs.declared.Refusal.{Refusal}
use Rattle.floor.specs.Paths.{first_same_cell, first_exchange}
use Rattle.collisions.specs.declared.Meeting.{Meeting}
use Rattle.collisions.specs.declared.Paths.{Paths as Grid}

-- the n paths of w cells each in the front of an array
unfoldable pub paths_in : ℕ → ℕ → List ℕ → List (List ℕ)
paths_in zero w s = []
paths_in (suc n) w s = take w s ∷ paths_in n w (drop w s)

-- those of an array with so many carts and steps
abbrev pub paths_of : Grid → List (List ℕ)
paths_of p = paths_in p.carts p.steps p.cells.now

-- "then 8, then 9": two carts in one cell, and if there are none, two that exchange cells
unfoldable pub met : Option ℕ → Option ℕ → Option Meeting
met (Some i) swap = Some (Meeting.SameCell i)
met None swap = option_map Meeting.Exchange swap

-- of paths
unfoldable pub first_meeting : List (List ℕ) → Option Meeting
first_meeting ps = met (first_same_cell ps) (first_exchange ps)

-- of the paths in an array, where it has room for them
unfoldable pub meeting : Grid → Option Meeting
meeting p = cond (leb (p.carts * p.steps) (length p.cells.now)) (first_meeting (paths_of p)) None

-- refusal 8 or 9 of the paths, at the record that is told
unfoldable pub refusal_of : Meeting → Refusal
refusal_of (Meeting.SameCell i) = record { reason = SameCell; table = Paths; row = i }
refusal_of (Meeting.Exchange i) = record { reason = Exchange; table = Paths; row = i }

-- Names every definition of this module, for a proof that computes with them all.
unfoldable pub open_meetings : Unit {0}
unfolding paths_in met first_meeting meeting refusal_of
open_meetings = tt

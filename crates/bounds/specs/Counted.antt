-- Bounds counted by the number of a plan's own, and of those that its log adds.
-- Assumes nothing.
use Rattle.std.specs.Prelude.{ℕ, ◌+◌, cond, leb, List, [], Option, None}
use Rattle.std.specs.Option.{option_map}
use Rattle.network.specs.Bounds.{Bound}
use Rattle.bounds.specs.declared.Network.{Network}
use Rattle.bounds.specs.declared.Bounding.{Bounding}

-- how many there are in all, where the plan's own are not too many and its log gives a book
unfoldable pub counted : Network → ℕ → Bounding
counted own more = record { events = own.events; own = own.bounds; all = own.bounds + more }

unfoldable pub counted_all : Network → Option ℕ → Option Bounding
counted_all own more = cond (leb own.bounds 8192) (option_map (counted own) more) None

-- those of the log, where they are written
unfoldable pub rest_of : Network → List Bound → List Bound
rest_of own bs = cond (leb own.bounds 8192) bs []

-- Names every definition of this module, for a proof that computes with them all.
unfoldable pub open_counted : Unit {0}
unfolding counted counted_all rest_of
open_counted = tt

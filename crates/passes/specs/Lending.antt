-- The slices that a caller lends, as `schedule` speaks of them.
-- Assumes nothing.
use Rattle.std.specs.Prelude.{◌≡◌}
use Rattle.schedule.specs.Lent.{Lent}
use Rattle.passes.specs.declared.lent.Lent.{Lent as LentSlices}
use Rattle.passes.specs.declared.room.Room.{Room}

-- what is in them
abbrev pub lent_of : LentSlices → Lent
lent_of l = record { times = l.times.now; chain_bounds = l.chain_bounds.now; chain_directions = l.chain_directions.now }

-- what is in those that have room for any plan
abbrev pub room_of : Room → Lent
room_of r = record { times = r.times.now; chain_bounds = r.chain_bounds.now; chain_directions = r.chain_directions.now }

-- they are the same slices, whatever is in them
abbrev pub SameSlices : LentSlices → LentSlices → Type 0
SameSlices l l' =
    (l'.times.ghost_name ≡ l.times.ghost_name) × (l'.chain_bounds.ghost_name ≡ l.chain_bounds.ghost_name)
    × (l'.chain_directions.ghost_name ≡ l.chain_directions.ghost_name)

-- and so of those with room
abbrev pub SameRoom : Room → Room → Type 0
SameRoom r r' =
    (r'.times.ghost_name ≡ r.times.ghost_name) × (r'.chain_bounds.ghost_name ≡ r.chain_bounds.ghost_name)
    × (r'.chain_directions.ghost_name ≡ r.chain_directions.ghost_name)

-- What a load says of three tables, whole (document 01, "Turned down because of the input").
-- Assumes nothing.
use Rattle.std.specs.Prelude.{leb, length, Ok}
use Rattle.floor.specs.declared.Reason.TheVariants.{Limit}
use Rattle.floor.specs.declared.Table.TheVariants.{Paths}
use Rattle.floor.specs.Refusal.{Judged, ◌>>=◌, ◌>>◌, need}
use Rattle.floor.specs.Plan.{Plan}
use Rattle.floor.specs.Tables.{Tables, read_tables}
use Rattle.network.specs.Events.{event_count}
use Rattle.network.specs.Bounds.{bounds}

-- "Last, 4 for events, then bounds (3, 0)": "4,096 events, 8,192 bounds"
unfoldable pub within_limits : Plan → Judged Plan
within_limits p = do
  need (leb (event_count p) 4096) Limit Paths 0
  need (leb (length (bounds p)) 8192) Limit Paths 0
  Ok p

-- the plan of three tables, or why they are turned down
unfoldable pub judge : Tables → Judged Plan
judge ts = read_tables ts >>= within_limits

-- Names every definition of this module, for a proof that computes with them all.
unfoldable pub open_judge : Unit {0}
unfolding within_limits judge
open_judge = tt

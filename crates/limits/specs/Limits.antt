-- The last limits over paths in an array: what the code that counts events and bounds answers, on all input.
-- Assumes nothing.
use Rattle.std.specs.Prelude.{ℕ, ◌*◌, Bool, ◌&&◌, List, [], map, leb, length, None}
use Rattle.floor.specs.Plan.{Plan}
use Rattle.tables.specs.Arrays.{paths_in}
use Rattle.network.specs.Events.{event_count}
use Rattle.network.specs.Bounds.{bounds}

-- a plan of these paths: how many events and bounds there are goes by the paths alone
unfoldable pub of_paths : List (List ℕ) → Plan
of_paths ps = record { roads = []; carts = map (λ (p : List ℕ). record { fastest = 0; slowest = None }) ps; paths = ps }

-- "4,096 events, 8,192 bounds"
unfoldable pub limits_kept : Plan → Bool
limits_kept p = leb (event_count p) 4096 && leb (length (bounds p)) 8192

-- n paths of w cells each in the front of an array: no more carts and steps than may be, all of them there, and these limits kept
unfoldable pub paths_within : ℕ → ℕ → List ℕ → Bool
paths_within n w s = leb n 64 && leb w 1024 && leb (n * w) (length s) && limits_kept (of_paths (paths_in n w s))

-- Names every definition of this module, for a proof that computes with them all.
unfoldable pub open_limits : Unit {0}
unfolding of_paths limits_kept paths_within
open_limits = tt

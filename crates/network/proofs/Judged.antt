-- What acceptance says of a plan, its limits of events and bounds included. Assumes nothing.
use Rattle.std.specs.Prelude.{Ok}
use Prim.Native.Nat.{◌≤◌}
use mathlib.Core.Path.{◌≡◌, subst}
use lib.Dec.{leb, leb→le}
use lib.ListN.{length}
use Rattle.floor.specs.declared.Reason.TheVariants.{Limit}
use Rattle.floor.specs.declared.Table.TheVariants.{Paths}
use Rattle.floor.specs.Plan.{Plan}
use Rattle.floor.specs.Tables.{Tables, read_tables}
use Rattle.floor.proofs.Judging.{accepted_same, bind_accepted, then_accepted}
use Rattle.floor.proofs.Accepted.{Sound, accepted_sound}
use Rattle.network.specs.Events.{event_count}
use Rattle.network.specs.Bounds.{bounds}
use Rattle.network.specs.Judge.{within_limits, judge}

-- the plan itself is what was within the limits
within_accepted : (q p : Plan) → within_limits q ≡ Ok p → (q ≡ p) × (event_count q ≤ 4096) × (length (bounds q) ≤ 8192)
unfolding within_limits
within_accepted q p e =
    let (events, e1) = then_accepted (leb (event_count q) 4096) Limit Paths 0 _ p e in
    let (count, e2) = then_accepted (leb (length (bounds q)) 8192) Limit Paths 0 (Ok q) p e1 in
    (accepted_same q p e2, leb→le _ _ events, leb→le _ _ count)

-- tables that are accepted were read, and are within the limits
pub judged : (ts : Tables) (p : Plan) → judge ts ≡ Ok p
    → (read_tables ts ≡ Ok p) × (event_count p ≤ 4096) × (length (bounds p) ≤ 8192)
unfolding judge
judged ts p e =
    let (q, was_read, rest) = bind_accepted (read_tables ts) within_limits p e in
    let (same, events, count) = within_accepted q p rest in
    subst (λ (x : Plan). (read_tables ts ≡ Ok x) × (event_count x ≤ 4096) × (length (bounds x) ≤ 8192)) same (was_read, events, count)

-- and it is sound
pub judged_sound : (ts : Tables) (p : Plan) → judge ts ≡ Ok p → Sound p
judged_sound ts p e = accepted_sound ts p (judged ts p e).0

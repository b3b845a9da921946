-- "Last, 4 for events, then bounds (3, 0)": plans at the two limits and just past them. Assumes nothing.
use Rattle.std.specs.Prelude.{None}
use Prim.Native.Nat.{ℕ, zero, suc, ◌+◌}
use mathlib.Core.Path.{◌≡◌, refl}
use mathlib.Core.List.{List, [], ◌∷◌, ◌++◌}
use lib.ListN.{length, replicate}
use Rattle.floor.specs.Plan.{Plan}
use Rattle.floor.specs.Examples.{verdict}
use Rattle.network.specs.Judge.{within_limits}
use Rattle.network.specs.Open.{open_network}

-- n moves, from cell 0 to cell 1 and back
to_and_fro : ℕ → List ℕ
to_and_fro zero = 0 ∷ []
to_and_fro (suc zero) = 0 ∷ 1 ∷ []
to_and_fro (suc (suc n)) = 0 ∷ 1 ∷ to_and_fro n

-- carts with these paths, whether or not they collide or go by road
plan : List (List ℕ) → Plan
plan ps =
    record {
      roads = record { from = 0; to = 1; length = 3; margin = 1 } ∷ [];
      carts = replicate (length ps) (record { fastest = 1000; slowest = None });
      paths = ps;
    }

-- n carts that stand, each in a cell of its own
standing : ℕ → List (List ℕ)
standing zero = []
standing (suc n) = ((100 + n) ∷ []) ∷ standing n

-- 4,096 events and 4,097; 8,192 bounds and 8,193
limits_follow : verdict (within_limits (plan (to_and_fro 1364 ∷ standing 1)))
    ∷ verdict (within_limits (plan (to_and_fro 1364 ∷ standing 2)))
    ∷ verdict (within_limits (plan (replicate 17 (to_and_fro 26) ++ standing 16)))
    ∷ verdict (within_limits (plan (replicate 17 (to_and_fro 26) ++ ((10 ∷ 11 ∷ []) ∷ standing 14))))
    ∷ []
    ≡ (0 ∷ 0 ∷ 0 ∷ []) ∷ (4 ∷ 3 ∷ 0 ∷ []) ∷ (0 ∷ 0 ∷ 0 ∷ []) ∷ (4 ∷ 3 ∷ 0 ∷ []) ∷ []
unfolding open_network to_and_fro plan standing
limits_follow = refl

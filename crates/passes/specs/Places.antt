-- The bound at a place of two arrays.
-- Assumes nothing.
use Rattle.std.specs.Prelude.{ℕ, ◌+◌, ◌*◌, List, get_or}
use Rattle.network.specs.Bounds.{Bound}
use Rattle.network.specs.BoundArrays.{hi_of}

-- as `bounds_in` reads it
abbrev pub bound_at : ℕ → List ℕ → List ℕ → Bound
bound_at i ends ranges =
    record { from = get_or ends (2 * i) 0; to = get_or ends (2 * i + 1) 0; lo = get_or ranges (2 * i) 0; hi = hi_of (get_or ranges (2 * i + 1) 0) }

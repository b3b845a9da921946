-- Bounds written to the front of two arrays are read back as these. Assumes nothing.
use Rattle.std.specs.Prelude.{Option, None, Some}
use Prim.Native.Nat.{ℕ}
use mathlib.Core.Path.{◌≡◌, refl, ap₂}
use mathlib.Core.List.{List, [], ◌∷◌, ◌++◌, flat_map}
use lib.ListN.{length}
use Rattle.network.specs.Bounds.{Bound}
use Rattle.network.specs.BoundArrays.{bound_ends, hi_number, bound_range, hi_of, bounds_in}

-- a hi comes back from its number
hi_back : (o : Option ℕ) → hi_of (hi_number o) ≡ o
unfolding hi_of hi_number
hi_back None = refl
hi_back (Some h) = refl

-- so do bounds, whatever follows them
pub bounds_held : (bs : List Bound) (x y : List ℕ) → bounds_in (length bs) (flat_map bound_ends bs ++ x) (flat_map bound_range bs ++ y) ≡ bs
unfolding bounds_in bound_ends bound_range flat_map
bounds_held [] x y = refl
bounds_held (b ∷ bs) x y =
    ap₂ (λ (o : Option ℕ) (l : List Bound). record { from = b.from; to = b.to; lo = b.lo; hi = o } ∷ l) (hi_back b.hi) (bounds_held bs x y)

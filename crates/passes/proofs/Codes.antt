-- Codes of arcs in an array: they stay codes of the bounds. Assumes nothing.
use Prim.Native.Nat.{ℕ, zero, suc}
use mathlib.Core.Path.{refl}
use mathlib.Core.List.{List, [], ◌∷◌}
use lib.ListN.{set, replicate}
use Rattle.network.specs.Bounds.{Bound}
use Rattle.passes.specs.Marks.{Code, of_none, Coded}

-- none at first
pub none_coded : (bs : List Bound) (n : ℕ) → Coded bs (replicate n 0)
none_coded bs zero v = of_none refl
none_coded bs (suc n) zero = of_none refl
none_coded bs (suc n) (suc v) = none_coded bs n v

-- a code stored
pub set_coded : (bs : List Bound) (codes : List ℕ) (u code : ℕ) → Code bs code → Coded bs codes → Coded bs (set codes u code)
set_coded bs [] u code c h v = h v
set_coded bs (x ∷ codes) zero code c h zero = c
set_coded bs (x ∷ codes) zero code c h (suc v) = h (suc v)
set_coded bs (x ∷ codes) (suc u) code c h zero = h zero
set_coded bs (x ∷ codes) (suc u) code c h (suc v) = set_coded bs codes u code c (λ w. h (suc w)) v

-- How far the sums go: k arcs that add at most W either way give a sum of at most k * W either way. Assumes nothing.
use Rattle.std.specs.Prelude.{None, Some}
use Prim.Native.Nat.{ℕ, ◌*◌, ◌≤◌}
use native.Mathlib.Nat.{mul-le-mul_right}
use native.Mathlib.Omega.{arith}
use mathlib.Core.Path.{◌≡◌}
use mathlib.Core.List.{List, Memᴰ}
use lib.IntN.{ℤ}
use lib.ListN.{get_or}
use Rattle.walks.specs.Walks.{Arc, Walk, stay, go, WalkWithin}
use Rattle.walks.specs.Passes.{sums}
use Rattle.walks.proofs.Greatest.{some_equal}
use Rattle.laws.proofs.Signed.{Within, up_sum, dn_sum}

-- what is within a bound is within a greater one
wider : (z : ℤ) (A B : ℕ) → A ≤ B → Within A z → Within B z
wider z A B h w = record { above = omega arith; under = omega arith }

module _ (arcs : List Arc) (W : ℕ) (each : (a : Arc) → Memᴰ a arcs → Within W a.adds) where
  -- one arc adds at most W more
  pub walk_within : (k v : ℕ) (x : ℤ) → Walk arcs k v x → Within (k * W) x
  walk_within k v x stay = record { above = omega arith; under = omega arith }
  walk_within k v x (go {k = j} {w = w} a m walk) =
      let before : Within (j * W) w = walk_within j a.from w walk in
      let one : Within W a.adds = each a m in
      record { above = omega (arith, up_sum w a.adds); under = omega (arith, dn_sum w a.adds) }

  -- a sum after k passes is that of a walk of at most k arcs
  pub sums_within : (n k v : ℕ) (x : ℤ) → get_or (sums arcs n k) v None ≡ Some x → Within (k * W) x
  sums_within n k v x e =
      let r : WalkWithin arcs k v x = some_equal arcs n k v x e in
      wider x (r.count * W) (k * W) (mul-le-mul_right W r.fits) (walk_within r.count v x r.walk)

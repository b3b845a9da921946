-- Weights of arcs as they are handed on: they fit their type. Assumes nothing.
use native.Mathlib.Omega.{arith}
use mathlib.Core.Path.{◌≡◌}
use lib.IntN.{ℤ}
use mir.Syntax.{w64}
use mir.Val.{to_z, of_z}
use mir.ValLaws.{to_z-of_z}
use Rattle.laws.proofs.Signed.{Within, mag_within}

pub weight_seen : (w : ℤ) → Within 8_192_000_000_000_001 w → to_z w64 (of_z w64 w) ≡ w
weight_seen w h = to_z-of_z w64 w (record { sfits = omega (arith, mag_within w h) })

pub seen_within : (w : ℤ) → Within 8_192_000_000_000_001 w → Within 8_192_000_000_000_001 (to_z w64 (of_z w64 w))
seen_within w h = rw (weight_seen w h) h

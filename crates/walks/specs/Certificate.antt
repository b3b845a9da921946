-- How times found in any way are believed: each arc gets a weight that counts the arcs of a walk beside its sum, and values are checked against the weights, arc by arc.
-- `proofs.Certificate` shows that values that pass are the greatest sums of the weights, and what they say of the times and of the number of passes.
-- Assumes nothing.
use Rattle.std.specs.Prelude.{ℕ, ◌<◌, ◌≡◌, ℤ, pos, ◌+ℤ◌, ◌-ℤ◌, ◌*ℤ◌, ◌≤ℤ◌}
use mathlib.Core.List.{List, Memᴰ}
use Rattle.walks.specs.Walks.{Arc}

-- more than a plan has events, so more than a walk without a cycle has arcs
abbrev pub scale : ℕ
scale = 8_192

-- an arc with its weight: what it adds, 8,192 times, less 1
unfoldable pub weighted : Arc → Arc
weighted a = record { from = a.from; to = a.to; adds = (pos scale *ℤ a.adds) -ℤ pos 1 }

-- an arc that gives v its value exactly
pub record Tight (arcs : List Arc) (val : ℕ → ℤ) (v : ℕ) : Type 0 where
  pub arc : Arc
  pub of_arcs : Memᴰ arc arcs
  pub ends : arc.to ≡ v
  pub exact : val v ≡ val arc.from +ℤ (weighted arc).adds

-- values of n events: 0 at the start, allowed by every weight, and each but the start's given exactly by an arc
pub record Certificate (arcs : List Arc) (n : ℕ) (val : ℕ → ℤ) : Type 0 where
  pub zeroed : val 0 ≡ pos 0
  pub all : (a : Arc) → Memᴰ a arcs → (val a.from +ℤ (weighted a).adds) ≤ℤ val a.to
  pub tight : (v : ℕ) → 0 < v → v < n → Tight arcs val v

-- Names every definition of this module, for a proof that computes with them all.
unfoldable pub open_certificate : Unit {0}
unfolding weighted
open_certificate = tt

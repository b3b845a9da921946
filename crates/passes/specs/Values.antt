-- Values in an array, as the certificate of `walks` speaks of them: found in any way, then checked.
-- Assumes nothing.
use Rattle.std.specs.Prelude.{ℕ, Bool, true, false, ◌≤◌, ◌<◌, ◌≡◌, ◌⊎◌, ℤ, pos, negsuc, ◌+ℤ◌, ◌*ℤ◌, ◌≤ℤ◌, ◌<ℤ◌, length, get_or}
use mathlib.Core.List.{List, Memᴰ}
use Rattle.laws.proofs.Signed.{Within}
use Rattle.walks.specs.Walks.{Arc}
use Rattle.walks.specs.Certificate.{scale, weighted, Tight, Certificate}

-- the value of an event
abbrev pub value : List ℤ → ℕ → ℤ
value values v = get_or values v (pos 0)

-- no value is so large that a sum would not fit: at most 2^60 either way
abbrev pub InRange : List ℤ → Type 0
InRange values = (v : ℕ) → Within 1_152_921_504_606_846_976 (value values v)

-- every arc is allowed by the values
abbrev pub Allowed : List Arc → List ℤ → Type 0
Allowed arcs values = (a : Arc) → Memᴰ a arcs → (value values a.from +ℤ (weighted a).adds) ≤ℤ value values a.to

-- an event that is marked now was marked before, or an arc gives it its value exactly
abbrev pub Marks : List Arc → List ℤ → List Bool → List Bool → Type 0
Marks arcs values marks marks' = (v : ℕ) → get_or marks' v false ≡ true → (get_or marks v false ≡ true) ⊎ Tight arcs (value values) v

-- values that pass the checks, of times that are not below 0
pub record Certified (arcs : List Arc) (values : List ℤ) : Type 0 where
  pub certificate : Certificate arcs (length values) (value values)
  pub not_below : (v : ℕ) → v < length values → negsuc 8_191 <ℤ value values v

-- a value as a time and a number of arcs: 8,192 times the one, less the other
pub record Rounds (value time : ℤ) (hops : ℕ) : Type 0 where
  pub holds : (value +ℤ pos hops) ≡ (pos scale *ℤ time)
  pub few : hops < scale
  pub no_less : pos 0 ≤ℤ time

-- values rounded up to times, and the greatest number of arcs
pub record Rounded (values times : List ℤ) (most : ℕ) : Type 0 where
  pub hops : ℕ → ℕ
  pub each : (v : ℕ) → v < length values → Rounds (value values v) (value times v) (hops v)
  pub none_more : (v : ℕ) → v < length values → hops v ≤ most
  pub reached : (v : ℕ) × (v < length values) × (hops v ≡ most)

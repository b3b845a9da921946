-- Sums, pass numbers, parents and a certificate of some graphs. Assumes nothing.
use Rattle.std.specs.Prelude.{None, Some}
use Prim.Native.Nat.{ℕ, zero, suc, ◌<◌}
use native.Mathlib.Omega.{arith}
use mathlib.Core.Path.{◌≡◌, refl, sym, subst}
use mathlib.Core.Logic.{⊎_elim}
use mathlib.Core.List.Memᴰ
use mathlib.Core.List.{List, [], ◌∷◌, Memᴰ}
use lib.IntN.{ℤ, pos, negsuc, ◌+ℤ◌}
use lib.Signed.{◌≤ℤ◌, le_z_yes}
use Rattle.walks.specs.Walks.{Arc}
use Rattle.walks.specs.Passes.{open_passes, sums, pass_number}
use Rattle.walks.specs.Parents.{open_parents, parents, steps_back, trail}
use Rattle.walks.specs.Certificate.{open_certificate, weighted, Tight, Certificate}

arc : ℕ → ℕ → ℤ → Arc
arc u v w = record { from = u; to = v; adds = w }

-- the greatest sum at 3 takes three arcs, and one to 2 adds less than nothing; 4 is not reached
line : List Arc
line = arc 2 3 (pos 4) ∷ arc 1 2 (pos 3) ∷ arc 0 1 (pos 2) ∷ arc 0 3 (pos 8) ∷ arc 3 2 (negsuc 8) ∷ arc 4 0 (pos 1) ∷ []

line_sums : sums line 5 0 ∷ sums line 5 1 ∷ sums line 5 2 ∷ sums line 5 3 ∷ sums line 5 4 ∷ []
    ≡ (Some (pos 0) ∷ None ∷ None ∷ None ∷ None ∷ [])
    ∷ (Some (pos 0) ∷ Some (pos 2) ∷ None ∷ Some (pos 8) ∷ None ∷ [])
    ∷ (Some (pos 0) ∷ Some (pos 2) ∷ Some (pos 5) ∷ Some (pos 8) ∷ None ∷ [])
    ∷ (Some (pos 0) ∷ Some (pos 2) ∷ Some (pos 5) ∷ Some (pos 9) ∷ None ∷ [])
    ∷ (Some (pos 0) ∷ Some (pos 2) ∷ Some (pos 5) ∷ Some (pos 9) ∷ None ∷ [])
    ∷ []
unfolding open_passes arc line
line_sums = refl

-- the smallest number at which they agree, and none where a closed walk gains for ever
gain : List Arc
gain = arc 0 1 (pos 2) ∷ arc 1 0 (negsuc 0) ∷ []

even : List Arc
even = arc 0 1 (pos 2) ∷ arc 1 0 (negsuc 1) ∷ []

numbers : pass_number line 5 ∷ pass_number gain 2 ∷ pass_number even 2 ∷ pass_number [] 3 ∷ [] ≡ Some 3 ∷ None ∷ Some 1 ∷ Some 0 ∷ []
unfolding open_passes arc line gain even
numbers = refl

-- the arc that raised an event last is its parent: 3 gets another in the third pass; the start has none
line_parents : parents line 5 0 ∷ parents line 5 1 ∷ parents line 5 2 ∷ parents line 5 3 ∷ []
    ≡ (None ∷ None ∷ None ∷ None ∷ None ∷ [])
    ∷ (None ∷ Some 2 ∷ None ∷ Some 3 ∷ None ∷ [])
    ∷ (None ∷ Some 2 ∷ Some 1 ∷ Some 3 ∷ None ∷ [])
    ∷ (None ∷ Some 2 ∷ Some 1 ∷ Some 0 ∷ None ∷ [])
    ∷ []
unfolding open_passes open_parents arc line
line_parents = refl

-- an arc that brings the same sum is not
tie : List Arc
tie = arc 0 1 (pos 2) ∷ arc 0 1 (pos 2) ∷ []

tie_parents : parents tie 2 1 ≡ None ∷ Some 0 ∷ []
unfolding open_passes open_parents arc tie
tie_parents = refl

-- back from an event that gains for ever, the arcs of the cycle, the last first
gain_trail : trail gain (parents gain 2 2) 2 (steps_back gain (parents gain 2 2) 2 0) ≡ arc 1 0 (negsuc 0) ∷ arc 0 1 (pos 2) ∷ []
unfolding open_passes open_parents arc gain
gain_trail = refl

-- values of two events that pass the certificate's checks: 1 is reached by one arc that adds 2, so 8,192 times 2, less 1
values : ℕ → ℤ
values zero = pos 0
values (suc v) = pos 16_383

even_allowed : (a : Arc) → Memᴰ a even → (values a.from +ℤ (weighted a).adds) ≤ℤ values a.to
unfolding open_certificate arc even values
even_allowed a m =
    ⊎_elim
    (λ (e : a ≡ arc 0 1 (pos 2)). subst (λ (z : Arc). (values z.from +ℤ (weighted z).adds) ≤ℤ values z.to) (sym e) (le_z_yes tt))
    (λ r. ⊎_elim
    (λ (e : a ≡ arc 1 0 (negsuc 1)). subst (λ (z : Arc). (values z.from +ℤ (weighted z).adds) ≤ℤ values z.to) (sym e) (le_z_yes tt))
    (λ q. absurd (Memᴰ.not-nil q))
    (Memᴰ.cases_cons r))
    (Memᴰ.cases_cons m)

even_certified : Certificate even 2 values
unfolding open_certificate arc even values
even_certified = record { zeroed = refl; all = even_allowed; tight = exact }
  where
    exact : (v : ℕ) → 0 < v → v < 2 → Tight even values v
    exact zero p l = absurd (omega arith)
    exact (suc zero) p l = record { arc = arc 0 1 (pos 2); of_arcs = Memᴰ.head refl; ends = refl; exact = refl }
    exact (suc (suc v)) p l = absurd (omega arith)

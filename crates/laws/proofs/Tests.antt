-- Tests that pass or fail, as equations. Assumes nothing.
use Prim.Native.Nat.{ℕ, ◌+◌, ◌≤◌, ◌<◌}
use native.Mathlib.Omega.{arith}
use mathlib.Core.Path.{◌≡◌, refl, subst}
use mathlib.Core.Logic.{◌⊎◌, inl, inr, ⊎_elim}
use mathlib.Core.Bool.{Bool, true, false, ◌||◌}
use lib.Dec.{T, ltb, ltb→lt, nltb→le}

-- a test that passes
pub passes : (b : Bool) → T b → b ≡ true
passes true t = refl
passes false t = absurd t

-- one that does not
pub fails : (b : Bool) → ¬ T b → b ≡ false
fails true h = absurd (h tt)
fails false h = refl

-- one of two tests is enough
pub yes_or : (a b : Bool) → T a ⊎ T b → T (a || b)
yes_or true b h = tt
yes_or false b (inl t) = absurd t
yes_or false b (inr t) = t

-- a number is below another, or not
pub below_or_not : (i j : ℕ) → (i < j) ⊎ (j ≤ i)
below_or_not i j = by (ltb i j) refl
  where
    by : (t : Bool) → ltb i j ≡ t → (i < j) ⊎ (j ≤ i)
    by true e = inl (ltb→lt i j (rw e tt))
    by false e = inr (nltb→le i j (rw e tt))

-- what holds of each number below i, and of i, holds of each below the next
pub one_more : (P : ℕ → Type 0) (i : ℕ) → ((j : ℕ) → j < i → P j) → P i → (j : ℕ) → j < i + 1 → P j
one_more P i all at j h =
    ⊎_elim
    (λ (k : j < i). all j k)
    (λ (k : i ≤ j). let e : i ≡ j = omega arith in subst P e at)
    (below_or_not j i)

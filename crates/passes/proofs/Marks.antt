-- Sums and parents in arrays: what stands at a place, and what a store comes to. Assumes nothing.
use Rattle.std.specs.Prelude.{None, Some}
use Prim.Native.Nat.{ℕ}
use mathlib.Core.Path.{◌≡◌, refl, ap, sym, ◌∙◌}
use mathlib.Core.Logic.{◌≢◌}
use mathlib.Core.Bool.{Bool, true, false, cond}
use mathlib.Core.List.{List, [], ◌∷◌, ◌++◌, map}
use lib.Dec.{T, eqb_refl}
use lib.IntN.{ℤ}
use lib.Signed.{lt_z, ◌<ℤ◌, <ℤ_irrefl}
use lib.ListN.{length, get_or, set, length-map, get_or-map}
use Rattle.std.proofs.lemmas.List.{map-append, map-set}
use Rattle.laws.proofs.Options.{none-ne-some, some-injective}
use Rattle.laws.proofs.Tests.{passes}
use Rattle.walks.specs.Passes.{same_number}
use Rattle.walks.specs.Parents.{raises}
use Rattle.walks.proofs.PassNumber.{same_number_eq}
use Rattle.passes.specs.Marks.{low, sum_at, sums_in}

-- ---- one sum

-- the mark stands for none
pub low_none : sum_at low ≡ None
unfolding sum_at same_number
low_none = by (same_number low low) (eqb_refl 4_611_686_018_427_387_903)
  where
    by : (b : Bool) → T b → cond b None (Some low) ≡ None
    by true t = refl
    by false t = absurd t

-- every other number stands for itself
pub sum_there : (x : ℤ) → x ≢ low → sum_at x ≡ Some x
unfolding sum_at
sum_there x h = by (same_number x low) refl
  where
    by : (b : Bool) → same_number x low ≡ b → cond b None (Some x) ≡ Some x
    by true e = absurd (h (same_number_eq x low (rw e tt)))
    by false e = refl

-- what is above the mark is not the mark
pub above_there : (x : ℤ) → low <ℤ x → sum_at x ≡ Some x
above_there x h = sum_there x (λ e. <ℤ_irrefl (rw e at h))

-- numbers that stand for the same are the same
pub sum_at_injective : (x y : ℤ) → sum_at x ≡ sum_at y → x ≡ y
unfolding sum_at
sum_at_injective x y = by (same_number x low) (same_number y low) refl refl
  where
    by : (b c : Bool) → same_number x low ≡ b → same_number y low ≡ c → cond b None (Some x) ≡ cond c None (Some y) → x ≡ y
    by true true p q e = same_number_eq x low (rw p tt) ∙ sym (same_number_eq y low (rw q tt))
    by true false p q e = absurd (none-ne-some _ e)
    by false true p q e = absurd (none-ne-some _ (sym e))
    by false false p q e = some-injective _ _ e

-- the test of the code is the one by which a sum is raised: the mark is below every sum
pub raises_is : (x y : ℤ) → low <ℤ y → raises (sum_at x) (Some y) ≡ lt_z x y
unfolding sum_at raises
raises_is x y h = by (same_number x low) refl
  where
    by : (b : Bool) → same_number x low ≡ b → raises (cond b None (Some x)) (Some y) ≡ lt_z x y
    by true e = sym (ap (λ (z : ℤ). lt_z z y) (same_number_eq x low (rw e tt)) ∙ passes (lt_z low y) h.lt)
    by false e = refl

-- ---- sums in an array

-- one more at the end, seen through two functions
pub map_behind : {A B : Type 0} (f : B → ℕ) (g : A → B) (l : List A) (a : A) → map f (map g (l ++ (a ∷ []))) ≡ map f (map g l) ++ (f (g a) ∷ [])
map_behind f g l a = simp map-append

-- the sum at a place
pub sum_of : (l : List ℤ) (v : ℕ) → get_or (sums_in l) v None ≡ sum_at (get_or l v low)
unfolding sums_in
sum_of l v = ap (get_or (map sum_at l) v) (sym low_none) ∙ get_or-map sum_at l v low

-- a store of a sum
pub sums_set : (l : List ℤ) (v : ℕ) (x : ℤ) → low <ℤ x → sums_in (set l v x) ≡ set (sums_in l) v (Some x)
unfolding sums_in
sums_set l v x h = map-set sum_at l v x ∙ ap (set (map sum_at l) v) (above_there x h)

-- there are as many
pub sums_in_length : (l : List ℤ) → length (sums_in l) ≡ length l
unfolding sums_in
sums_in_length l = length-map l sum_at

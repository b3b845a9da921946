-- How a reader meets the number of a field: by its length, its first byte, and then digit by digit. Assumes nothing.
use Rattle.std.specs.Prelude.{None, Some}
use Prim.Native.Nat.{ℕ, suc, ◌+◌, ◌*◌, ◌-◌, ◌^◌, ◌≤◌, ◌<◌}
use native.Mathlib.Nat.{not-suc-le-zero, pow-suc, mul_comm}
use native.Mathlib.Numerals.{add-one}
use native.Mathlib.Omega.{arith}
use mathlib.Core.Path.{◌≡◌, refl, ap, ◌∙◌}
use mathlib.Core.Bool.{Bool, true, false, ◌&&◌, cond}
use mathlib.Core.List.{List, [], ◌∷◌}
use lib.Dec.{eqb, leb}
use lib.ListN.{length, drop, get_or, drop_of_length-le}
use lib.Seq.{drop-cons}
use borrow.Author.Tests.{eq-eqb, ne_eqb, le-leb, lt-leb}
use Rattle.rfc4180.specs.Number.{decimal, number}

-- the digits from place i on, after those that make v
module _ (s : List ℕ) (i v : ℕ) where
  decimal_here : i < length s →
      decimal v (drop i s)
      ≡ elim (leb 48 (get_or s i 0) && leb (get_or s i 0) 57) [ true ↦ decimal (10 * v + (get_or s i 0 - 48)) (drop (suc i) s) | false ↦ None ]
  unfolding decimal
  decimal_here h = ap (decimal v) (drop-cons s i 0 h)

  pub decimal_low : i < length s → get_or s i 0 < 48 → decimal v (drop i s) ≡ None
  decimal_low h k = decimal_here h ∙ simp (lt-leb _ _ k)

  pub decimal_high : i < length s → 48 ≤ get_or s i 0 → 57 < get_or s i 0 → decimal v (drop i s) ≡ None
  decimal_high h k m = decimal_here h ∙ simp (le-leb _ _ k, lt-leb _ _ m)

  pub decimal_more : i < length s → 48 ≤ get_or s i 0 → get_or s i 0 ≤ 57 → decimal v (drop i s) ≡ decimal (v * 10 + (get_or s i 0 - 48)) (drop (i + 1) s)
  decimal_more h k m = decimal_here h ∙ simp (le-leb _ _ k, le-leb _ _ m) (rw (mul_comm 10 v, add-one i) refl)

  pub decimal_end : length s ≤ i → decimal v (drop i s) ≡ Some v
  unfolding decimal
  decimal_end h = ap (decimal v) (drop_of_length-le s h)

-- a field of no bytes
pub number_nil : (s : List ℕ) → length s ≡ 0 → number s ≡ None
unfolding number
number_nil [] h = refl
number_nil (b ∷ s) h = let z : 1 ≤ 0 = omega arith in absurd (not-suc-le-zero z)

-- of more than ten
pub number_long : (s : List ℕ) → 10 < length s → number s ≡ None
unfolding number
number_long [] h = refl
number_long (b ∷ []) h = let z : 1 ≤ 0 = omega arith in absurd (not-suc-le-zero z)
number_long (b ∷ c ∷ s) h = by (eqb b 48) (leb (length (b ∷ c ∷ s)) 10) (lt-leb _ _ h)
  where
    by : (t u : Bool) → u ≡ false → cond t None (cond u (decimal 0 (b ∷ c ∷ s)) None) ≡ None
    by true u e = refl
    by false u e = rw e refl

-- of "0" alone
pub number_zero : (s : List ℕ) → get_or s 0 0 ≡ 48 → length s ≡ 1 → number s ≡ Some 0
unfolding number decimal
number_zero [] z h = let z : 1 ≤ 0 = omega arith in absurd (not-suc-le-zero z)
number_zero (b ∷ []) z h = rw z refl
number_zero (b ∷ c ∷ s) z h = let z : 1 ≤ 0 = omega arith in absurd (not-suc-le-zero z)

-- of 0 in front of others
pub number_zeros : (s : List ℕ) → get_or s 0 0 ≡ 48 → 1 < length s → number s ≡ None
unfolding number
number_zeros [] z h = refl
number_zeros (b ∷ []) z h = let z : 1 ≤ 0 = omega arith in absurd (not-suc-le-zero z)
number_zeros (b ∷ c ∷ s) z h = ap (λ (t : Bool). cond t None (cond (leb (length (b ∷ c ∷ s)) 10) (decimal 0 (b ∷ c ∷ s)) None)) (eq-eqb b 48 z)

-- of up to ten that do not begin with 0
pub number_digits : (s : List ℕ) → 0 < length s → length s ≤ 10 → (get_or s 0 0 ≡ 48 → ⊥) → number s ≡ decimal 0 s
unfolding number
number_digits [] h k z = absurd (not-suc-le-zero h)
number_digits (b ∷ []) h k z = refl
number_digits (b ∷ c ∷ s) h k z =
    ap (λ (t : Bool). cond t None (cond (leb (length (b ∷ c ∷ s)) 10) (decimal 0 (b ∷ c ∷ s)) None)) (ne_eqb b 48 z)
    ∙ ap (λ (t : Bool). cond t (decimal 0 (b ∷ c ∷ s)) None) (le-leb (length (b ∷ c ∷ s)) 10 k)

-- a digit more
pub ten_suc : (i : ℕ) → 10 ^ (i + 1) ≡ 10 ^ i * 10
ten_suc i = rw (add-one, pow-suc)

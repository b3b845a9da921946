-- Lists whose numbers rise. Assumes nothing.
use Prim.Native.Nat.{ℕ, zero, suc, ◌<◌}
use native.Mathlib.Nat.{eq-or-lt_of_le}
use native.Mathlib.Omega.{arith}
use mathlib.Core.Path.{◌≡◌, ap}
use mathlib.Core.Logic.{⊎_elim}
use mathlib.Core.List.Memᴰ
use mathlib.Core.List.{List, [], ◌∷◌, Memᴰ}
use lib.ListN.{length, get_or}
use Rattle.laws.proofs.Tests.{below_or_not}

-- each number is below the next, x's the first
abbrev pub Rises : {A : Type 0} → (A → ℕ) → A → List A → Type 0
Rises f x [] = Unit {0}
Rises f x (y ∷ ys) = (f x < f y) × Rises f y ys

-- a list of which this is so from its first on
abbrev pub Rising : {A : Type 0} → (A → ℕ) → List A → Type 0
Rising f [] = Unit {0}
Rising f (x ∷ xs) = Rises f x xs

-- what follows the first rises too
pub rising_rest : {A : Type 0} (f : A → ℕ) (x : A) (xs : List A) → Rises f x xs → Rising f xs
rising_rest f x [] h = tt
rising_rest f x (y ∷ ys) h = h.1

-- the first is below all others
pub rises_first : {A : Type 0} (f : A → ℕ) (x : A) (xs : List A) (i : ℕ) (d : A) → Rises f x xs → i < length xs → f x < f (get_or xs i d)
rises_first f x [] i d h l = absurd (omega arith)
rises_first f x (y ∷ ys) zero d h l = h.0
rises_first f x (y ∷ ys) (suc i) d h l = omega (arith, h.0, rises_first f y ys i d h.1 (omega arith))

pub rises_member : {A : Type 0} (f : A → ℕ) (x : A) (xs : List A) (y : A) → Rises f x xs → Memᴰ y xs → f x < f y
rises_member f x [] y h m = absurd (Memᴰ.not-nil m)
rises_member f x (z ∷ zs) y h m =
    ⊎_elim (λ (e : y ≡ z). let q : f y ≡ f z = ap f e in omega (arith, q, h.0)) (λ t. omega (arith, h.0, rises_member f z zs y h.1 t)) (Memᴰ.cases_cons m)

-- of two places, what stands at the later has the greater number
rises_apart : {A : Type 0} (f : A → ℕ) (x : A) (xs : List A) (i j : ℕ) (d : A) → Rises f x xs → i < j → j < length (x ∷ xs)
    → f (get_or (x ∷ xs) i d) < f (get_or (x ∷ xs) j d)
rises_apart f x xs i zero d h l k = absurd (omega arith)
rises_apart f x xs zero (suc j) d h l k = rises_first f x xs j d h (omega arith)
rises_apart f x [] (suc i) (suc j) d h l k = absurd (omega arith)
rises_apart f x (y ∷ ys) (suc i) (suc j) d h l k = rises_apart f y ys i j d h.1 (omega arith) (omega arith)

-- of two places, what stands at the later has the greater number
pub rising_apart : {A : Type 0} (f : A → ℕ) (l : List A) (i j : ℕ) (d : A) → Rising f l → i < j → j < length l → f (get_or l i d) < f (get_or l j d)
rising_apart f [] i j d h l k = absurd (omega arith)
rising_apart f (x ∷ xs) i j d h l k = rises_apart f x xs i j d h l k

-- and what has the greater number stands at the later
pub rising_place : {A : Type 0} (f : A → ℕ) (l : List A) (i j : ℕ) (d : A) → Rising f l → i < length l → f (get_or l i d) < f (get_or l j d) → i < j
rising_place f l i j d h k q = ⊎_elim (λ a. a) (λ a. absurd (⊎_elim same below (eq-or-lt_of_le a))) (below_or_not i j)
  where
    same : j ≡ i → ⊥
    same e = omega (arith, q, ap (λ (n : ℕ). f (get_or l n d)) e)

    below : j < i → ⊥
    below a = omega (arith, q, rising_apart f l j i d h a k)

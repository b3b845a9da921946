-- The first number below a bound with a property that can be decided; the pigeonhole principle.
-- Assumes nothing.
use mathlib.Core.Path.{◌≡◌, sym, ◌∙◌, subst}
use Prim.Native.Nat.{ℕ, zero, suc, ◌≤◌, ◌<◌}
use native.Mathlib.Decide.{ℕ_discrete}
use native.Mathlib.Omega.{arith}

-- ---- the first

-- there is a first one below n, or there is none
pub data FirstBelow (P : ℕ → Type 0) (n : ℕ) : Type 0 where
  found : (j : ℕ) → j < n → P j → ((i : ℕ) → i < j → ¬ P i) → FirstBelow P n
  nowhere : ((i : ℕ) → i < n → ¬ P i) → FirstBelow P n

-- a search finds which
pub first : (P : ℕ → Type 0) → ((i : ℕ) → Dec (P i)) → (n : ℕ) → FirstBelow P n
first P d zero = nowhere (λ i h. absurd (omega arith))
first P d (suc n) = go (first P d n) (d n)
  where
    last : ((i : ℕ) → i < n → ¬ P i) → ¬ P n → (i : ℕ) → i < suc n → Dec (i ≡ n) → ¬ P i
    last h q i b (yes e) p = q (subst P e p)
    last h q i b (no e) p = h i (omega arith) p

    go : FirstBelow P n → Dec (P n) → FirstBelow P (suc n)
    go (found j h p l) x = found j (omega arith) p l
    go (nowhere h) (yes p) = found n (omega arith) p h
    go (nowhere h) (no q) = nowhere (λ i b. last h q i b (ℕ_discrete i n))

-- a decision of the opposite
pub not? : {A : Type 0} → Dec A → Dec (¬ A)
not? (yes a) = no (λ f. f a)
not? (no f) = yes f

-- what is decided and cannot fail holds
pub sure : {A : Type 0} → ¬ ¬ A → Dec A → A
sure h (yes a) = a
sure h (no f) = absurd (h f)

-- ---- n + 1 numbers below n: two are equal

-- two places of f up to n with the same number
pub record Twice (f : ℕ → ℕ) (n : ℕ) : Type 0 where
  pub low : ℕ
  pub high : ℕ
  pub below : low < high
  pub within : high ≤ n
  pub equal : f low ≡ f high

-- one of two numbers
if_eq : {A : Type 0} → Dec A → ℕ → ℕ → ℕ
if_eq (yes p) a b = a
if_eq (no f) a b = b

-- f with the value z for the value n
swap : (ℕ → ℕ) → ℕ → ℕ → ℕ → ℕ
swap f n z j = if_eq (ℕ_discrete (f j) n) z (f j)

-- the last number stands at no other place, or that is the pair; else f without it, the number n put in its place, has only numbers below n - 1 to take
pub pigeon : (n : ℕ) (f : ℕ → ℕ) → ((i : ℕ) → i ≤ n → f i < n) → Twice f n
unfolding swap if_eq
pigeon zero f h = absurd (none_below (f 0) (h 0 (omega arith)))
  where
    none_below : (a : ℕ) → a < 0 → ⊥
    none_below a b = omega arith
pigeon (suc n) f h = go (first (λ j. f j ≡ f (suc n)) (λ j. ℕ_discrete (f j) (f (suc n))) (suc n)) (λ g b. pigeon n g b)
  where
    unswap : ((i : ℕ) → i < suc n → ¬ (f i ≡ f (suc n))) → (a b : ℕ) → a ≤ n → b ≤ n → (x : Dec (f a ≡ n)) (y : Dec (f b ≡ n)) → if_eq x (f (suc n)) (f a) ≡ if_eq y (f (suc n)) (f b) → f a ≡ f b
    unswap q a b l m (yes u) (yes w) e = u ∙ sym w
    unswap q a b l m (yes u) (no w) e = absurd (q b (omega arith) (sym e))
    unswap q a b l m (no u) (yes w) e = absurd (q a (omega arith) e)
    unswap q a b l m (no u) (no w) e = e

    small : ((i : ℕ) → i < suc n → ¬ (f i ≡ f (suc n))) → (i : ℕ) → i ≤ n → (x : Dec (f i ≡ n)) → if_eq x (f (suc n)) (f i) < n
    small q i b (yes e) = omega (arith, h (suc n) (omega arith), q i (omega arith))
    small q i b (no e) = omega (arith, h i (omega arith))

    go : FirstBelow (λ j. f j ≡ f (suc n)) (suc n) → ((g : ℕ → ℕ) → ((i : ℕ) → i ≤ n → g i < n) → Twice g n) → Twice f (suc n)
    go (found j b e l) ih = record { low = j; high = suc n; below = b; within = omega arith; equal = e }
    go (nowhere q) ih =
        let t : Twice (swap f n (f (suc n))) n = ih (swap f n (f (suc n))) (λ i b. small q i b (ℕ_discrete (f i) n)) in
        record {
          low = t.low;
          high = t.high;
          below = t.below;
          within = omega arith;
          equal = unswap q t.low t.high (omega arith) t.within (ℕ_discrete (f t.low) n) (ℕ_discrete (f t.high) n) t.equal;
        }

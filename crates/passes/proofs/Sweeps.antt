-- The working memory of the sweeps: what they ask of it holds of it at first, and what they leave is as long as it was. Assumes nothing.
use Prim.Native.Nat.{ℕ, zero, suc, ◌≤◌}
use native.Mathlib.Omega.{arith}
use mathlib.Core.Path.{◌≡◌, sym, ◌∙◌}
use mathlib.Core.Bool.{true}
use mathlib.Core.List.{List, ◌++◌}
use lib.IntN.{ℤ, pos, negsuc}
use lib.ListN.{length, take, drop, set, replicate, length-append, length-set, length-replicate}
use Rattle.std.proofs.lemmas.List.{length-take-le, take-replicate}
use Rattle.network.specs.BoundArrays.{bounds_in}
use Rattle.passes.specs.Solving.{network_fits}
use Rattle.passes.specs.Marks.{Coded}
use Rattle.passes.specs.Values.{InRange}
use Rattle.passes.proofs.Codes.{none_coded}

-- the values of k events at first: the start has 0, and each other the least
abbrev pub first_values : ℕ → List ℤ
first_values k = set (replicate k (negsuc 1_152_921_504_606_846_975)) 0 (pos 0)

-- what sweeps ask for: a network, and values and parents of its events
abbrev pub Sweepable : ℕ → List ℕ → List ℕ → List ℤ → List ℕ → Type 0
Sweepable m ends ranges values parents =
    (network_fits m (length values) ends ranges ≡ true) × ((length parents ≡ length values) × InRange values × Coded (bounds_in m ends ranges) parents)

-- ---- at first

-- as many values as events
values_long : (n k : ℕ) → n ≤ k → n ≡ length (take n (first_values k))
values_long n k h =
    sym (length-take-le n (first_values k) (omega (arith, length-set {A = ℤ}, length-replicate {A = ℤ})))

-- in their range, as any list that begins with 0 and has the least behind it
least_range : (k : ℕ) → InRange (replicate k (negsuc 1_152_921_504_606_846_975))
least_range zero v = record { above = omega arith; under = omega arith }
least_range (suc k) zero = record { above = omega arith; under = omega arith }
least_range (suc k) (suc v) = least_range k v

first_range : (n k : ℕ) → n ≤ k → InRange (take n (first_values k))
first_range zero k h v = record { above = omega arith; under = omega arith }
first_range (suc n) zero h v = absurd (omega arith)
first_range (suc n) (suc k) h zero = record { above = omega arith; under = omega arith }
first_range (suc n) (suc k) h (suc v) =
    rw (take-replicate n k (negsuc 1_152_921_504_606_846_975) (omega arith)) (least_range n v)

-- so the working memory for k events can be swept, for as many as there are
pub first_sweepable : (m n k : ℕ) (ends ranges : List ℕ) → network_fits m n ends ranges ≡ true → n ≤ k
    → Sweepable m ends ranges (take n (first_values k)) (take n (replicate k 0))
first_sweepable m n k ends ranges fit h =
    let long : n ≡ length (take n (first_values k)) = values_long n k h in
    let codes : length {A = ℕ} (take n (replicate k 0)) ≡ n = length-take-le {A = ℕ} n (replicate k 0) (omega (arith, length-replicate {A = ℕ})) in (
      rw (sym long) fit,
      (codes ∙ long, first_range n k h, rw (take-replicate {X = ℕ} n k 0 h) (none_coded (bounds_in m ends ranges) n)),
    )

-- ---- afterwards

-- the working memory for k events, in the front of which u is left of n
abbrev pub memory_left : ℕ → ℕ → List ℤ → List ℤ
memory_left n k u = u ++ drop n (first_values k)

-- is as long as it was
module _ (n k : ℕ) (u : List ℤ) (h : n ≤ k) (e : length u ≡ length (take n (first_values k))) where
  pub left_long : n ≤ length (memory_left n k u)
  left_long = omega (arith, e, values_long n k h, length-append {A = ℤ})

  pub left_front : n ≡ length (take n (memory_left n k u))
  left_front = sym (length-take-le n (memory_left n k u) left_long)

-- Numbers in the front of a slice of zeros. Assumes nothing.
use Prim.Native.Nat.{ℕ, zero, suc, ◌+◌, ◌-◌, ◌≤◌}
use native.Mathlib.Nat.{sub-zero}
use native.Mathlib.Omega.{arith}
use mathlib.Core.Path.{◌≡◌, refl, ap, sym, ◌∙◌}
use mathlib.Core.List.{List, [], ◌++◌, append_assoc}
use lib.ListN.{length, take, drop, replicate, length-append, length-replicate, replicate-append-replicate}
use lib.Seq.{sets, sets-eq, drop-drop, take_at, drop_at}
use Rattle.words.specs.Words.{written, padded}

-- an array of zeros holds nothing yet
pub padded_none : (n : ℕ) → padded n [] ≡ replicate n 0
unfolding padded
padded_none n = ap (λ (k : ℕ). replicate k 0) (sub-zero n)

-- zeros after some zeros
pub zeros_after : (k n : ℕ) → drop k (replicate {A = ℕ} n 0) ≡ replicate (n - k) 0
zeros_after zero n = ap (λ (i : ℕ). replicate i 0) (sym (sub-zero n))
zeros_after (suc k) zero = ap (λ (i : ℕ). replicate i 0) {x = 0} {y = 0 - suc k} (omega arith)
zeros_after (suc k) (suc n) = zeros_after k n ∙ ap (λ (i : ℕ). replicate i 0) {x = n - k} {y = suc n - suc k} (omega arith)

-- what fits is padded to just its size
pub padded_length : (n : ℕ) (l : List ℕ) → length l ≤ n → length (padded n l) ≡ n
unfolding padded
padded_length n l h = omega (arith, length-append l (replicate (n - length l) 0), length-replicate {A = ℕ} (n - length l) 0)

-- numbers stored behind those that are there
pub padded_more : (n : ℕ) (l vs : List ℕ) → length l + length vs ≤ n → sets (padded n l) (length l) vs ≡ padded n (l ++ vs)
unfolding padded
padded_more n l vs h =
    let z : List ℕ = replicate (n - length l) 0 in
    let front : take (length l) (padded n l) ≡ l = take_at l z (length l) refl in
    let back : drop (length l + length vs) (padded n l) ≡ replicate (n - length (l ++ vs)) 0 =
    sym (drop-drop (length vs) (length l) (padded n l)) ∙ ap (drop (length vs)) (drop_at l z (length l) refl) ∙ zeros_after (length vs) (n - length l)
    ∙ ap (λ (k : ℕ). replicate k 0) {x = n - length l - length vs} {y = n - length (l ++ vs)} (omega (arith, length-append l vs)) in
    sets-eq vs (padded n l) (length l) (omega (arith, h, padded_length n l (omega arith)))
    ∙ ap (λ (x : List ℕ). x ++ vs ++ drop (length l + length vs) (padded n l)) front
    ∙ ap (λ (x : List ℕ). l ++ vs ++ x) back

-- numbers written over the front of zeros
pub written_zeros : (n : ℕ) (l : List ℕ) → written l (replicate n 0) ≡ padded n l
unfolding written padded
written_zeros n l = ap (λ (x : List ℕ). l ++ x) (zeros_after (length l) n)

-- a longer slice has more zeros
pub padded_split : (m n : ℕ) (l : List ℕ) → length l ≤ m → m ≤ n → padded n l ≡ padded m l ++ replicate (n - m) 0
unfolding padded
padded_split m n l h f =
    ap (λ (k : ℕ). l ++ replicate k 0) {x = n - length l} {y = m - length l + (n - m)} (omega arith)
    ∙ ap (λ (x : List ℕ). l ++ x) (sym (replicate-append-replicate (m - length l) (n - m) 0))
    ∙ sym (append_assoc l (replicate (m - length l) 0) (replicate (n - m) 0))

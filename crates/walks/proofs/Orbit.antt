-- Steps among the events below n: n of them land on a cycle, and what holds of the first n events met holds of all.
-- Assumes nothing.
use mathlib.Core.Path.{◌≡◌, sym, ap, ◌∙◌, subst}
use mathlib.Core.Logic.{◌≢◌, by_cases}
use Prim.Native.Nat.{ℕ, zero, suc, ◌+◌, ◌-◌, ◌≤◌, ◌<◌}
use native.Mathlib.Nat.{zero-add, suc-add}
use native.Mathlib.Decide.{ℕ_discrete, dec_lt}
use native.Mathlib.Omega.{arith}
use Rattle.walks.specs.Parents.{repeated, Cyclic}
use Rattle.walks.proofs.Search.{FirstBelow, found, nowhere, first, Twice, pigeon}

module _ (g : ℕ → ℕ) where
  -- a steps and b more
  pub repeated_add : (a b v : ℕ) → repeated g (a + b) v ≡ repeated g b (repeated g a v)
  unfolding repeated
  repeated_add zero b v = rw zero-add
  repeated_add (suc a) b v = rw suc-add (repeated_add a b (g v))

  -- of the steps that come back to x, the fewest meet no event twice: two that met would make a shorter return
  first_return : (b x p : ℕ) → 0 < p → p ≤ b → repeated g p x ≡ x → Cyclic g b x
  first_return b x p h k e = go (first (λ i. repeated g (suc i) x ≡ x) (λ i. ℕ_discrete (repeated g (suc i) x) x) p)
    where
      apart : (q : ℕ) → repeated g (suc q) x ≡ x → ((i : ℕ) → i < q → ¬ (repeated g (suc i) x ≡ x)) → (i j : ℕ) → i < j → j < suc q → repeated g i x ≢ repeated g j x
      apart q c l i j a b d =
          let s : suc (i + (q - j)) ≡ i + suc (q - j) = omega arith in
          let u : j + suc (q - j) ≡ suc q = omega arith in
          l (i + (q - j)) (omega arith) (ap (λ m. repeated g m x) s ∙ repeated_add i (suc (q - j)) x ∙ ap (repeated g (suc (q - j))) d
          ∙ sym (repeated_add j (suc (q - j)) x) ∙ ap (λ m. repeated g m x) u ∙ c)

      go : FirstBelow (λ i. repeated g (suc i) x ≡ x) p → Cyclic g b x
      go (found q d c l) = record { period = suc q; positive = omega arith; short = omega arith; closes = c; simple = apart q c l }
      go (nowhere n) =
          let s : suc (p - 1) ≡ p = omega arith in
          absurd (n (p - 1) (omega arith) (ap (λ m. repeated g m x) s ∙ e))

  -- steps that stay below n
  pub repeated_below : (n : ℕ) → ((u : ℕ) → u < n → g u < n) → (j u : ℕ) → u < n → repeated g j u < n
  unfolding repeated
  repeated_below n inside zero u h = h
  repeated_below n inside (suc j) u h = repeated_below n inside j (g u) (inside u h)

  module _ (n v : ℕ) (inside : (u : ℕ) → u < n → g u < n) (low : v < n) where
    -- two of the first n + 1 events are the same
    twice : Twice (λ j. repeated g j v) n
    twice = pigeon n (λ j. repeated g j v) (λ j _. repeated_below n inside j v low)

    -- and so are those as many steps on from each
    again : (t : Twice (λ j. repeated g j v) n) (c : ℕ) → repeated g (t.low + c) v ≡ repeated g (t.high + c) v
    again t c = repeated_add t.low c v ∙ ap (repeated g c) t.equal ∙ sym (repeated_add t.high c v)

    -- n steps on lies an event on a cycle
    pub lands : Cyclic g n (repeated g n v)
    lands = go twice
      where
        go : Twice (λ j. repeated g j v) n → Cyclic g n (repeated g n v)
        go t =
            let p : ℕ = t.high - t.low in
            let a : n + p ≡ t.high + (n - t.low) = omega arith in
            let b : t.low + (n - t.low) ≡ n = omega arith in
            first_return n (repeated g n v) p (omega arith) (omega arith)
            (sym (repeated_add n p v) ∙ ap (λ m. repeated g m v) a ∙ sym (again t (n - t.low)) ∙ ap (λ m. repeated g m v) b)

    -- what holds for n steps holds for ever
    pub forever : (Q : ℕ → Type 0) → ((j : ℕ) → j < n → Q (repeated g j v)) → (j : ℕ) → Q (repeated g j v)
    forever Q h j = upto twice j j (omega arith)
      where
        upto : Twice (λ j. repeated g j v) n → (m j : ℕ) → j ≤ m → Q (repeated g j v)
        upto t zero j b = h j (omega arith)
        upto t (suc m) j b = by_cases (dec_lt j n) (λ a. h j a) (λ a.
            let c : ℕ = j - t.high in
            let e : t.high + c ≡ j = omega arith in
            subst Q (again t c ∙ ap (λ m. repeated g m v) e) (upto t m (t.low + c) (omega arith)))

-- Whether bounds in arrays fit: bound by bound, or all at once. Assumes nothing.
use Prim.Native.Nat.{ℕ, zero, suc, ◌+◌, ◌*◌, ◌/◌, ◌≤◌, ◌<◌}
use native.Mathlib.Numerals.{add-one}
use native.Mathlib.Omega.{arith}
use mathlib.Core.Path.{◌≡◌, refl, ap, sym, ◌∙◌}
use mathlib.Core.Bool.{Bool, true, false, ◌&&◌}
use mathlib.Core.List.{List, ◌∷◌}
use lib.ListN.{length, get_or, take, drop, drop_of_length-le}
use lib.Seq.{drop-cons}
use Rattle.std.specs.Prelude.{sum_by}
use Rattle.std.proofs.lemmas.List.{get_or-take, length-take-le}
use Rattle.std.proofs.lemmas.List.Sums.{get_or-le-sum_by}
use Rattle.laws.proofs.Tests.{passes, fails}
use Rattle.network.specs.Bounds.{Bound}
use Rattle.network.specs.BoundArrays.{bounds_in}
use Rattle.passes.specs.Solving.{bounds_fit}
use Rattle.passes.specs.Places.{bound_at}
use Rattle.passes.proofs.Fitting.{bounds_length, hi_number_of, bound_is, Fitting, fitting, fitting_passes, place_fits}

-- ---- bounds that fit, one by one

module _ (m n : ℕ) (ends ranges : List ℕ) where
  abbrev bs : List Bound
  bs = bounds_in m ends ranges

  -- one that does not
  pub bound_fails : (i : ℕ) → i < m → (Fitting n (bound_at i ends ranges) → ⊥) → false ≡ bounds_fit n bs
  bound_fails i h f =
      sym (fails (bounds_fit n bs) (λ t. f (fitting n (bound_at i ends ranges) (place_fits n m ends ranges i h (passes (bounds_fit n bs) t)))))

  -- what the loop keeps: the bounds from i on decide
  abbrev pub Left : ℕ → Type 0
  Left i = bounds_fit n bs ≡ bounds_fit n (drop i bs)

  -- a bound that fits leaves those after it
  pub next_left : (i : ℕ) → i < m → Fitting n (bound_at i ends ranges) → Left i → Left (i + 1)
  unfolding bounds_fit
  next_left i h f c =
      let b : Bound = bound_at i ends ranges in
      let l : i < length bs = omega (arith, bounds_length m ends ranges) in
      let e : bounds_fit n bs ≡ bounds_fit n (drop (suc i) bs) =
      c ∙ ap (bounds_fit n) (drop-cons bs i b l ∙ ap (λ (x : Bound). x ∷ drop (suc i) bs) (bound_is m ends ranges i b h))
      ∙ ap (λ (x : Bool). x && bounds_fit n (drop (suc i) bs)) (fitting_passes n b f)
      in
      rw (add-one i) e

  -- after the last all fit
  pub none_left : (i : ℕ) → m ≤ i → Left i → true ≡ bounds_fit n bs
  unfolding bounds_fit
  none_left i h c =
      let l : length bs ≤ i = omega (arith, bounds_length m ends ranges) in
      sym (c ∙ ap (bounds_fit n) (drop_of_length-le bs l))

  -- where each fits
  pub all_fit : ((i : ℕ) → i < m → Fitting n (bound_at i ends ranges)) → bounds_fit n bs ≡ true
  all_fit f = from m 0 (omega arith) refl
    where
      from : (k i : ℕ) → k + i ≡ m → Left i → bounds_fit n bs ≡ true
      from zero i e l = sym (none_left i (omega arith) l)
      from (suc k) i e l = from k (i + 1) (omega arith) (next_left i (omega arith) (f i (omega arith)) l)

  -- as where no event is greater than one that is there, and no number as great as 2^39
  pub small_fit : (g : ℕ) → ((i : ℕ) → i < 2 * m → get_or ends i 0 ≤ g) → g < n → ((i : ℕ) → i < 2 * m → get_or ranges i 0 < 549_755_813_888) → bounds_fit n bs ≡ true
  small_fit g e k r =
      all_fit (λ i h. record {
        from_in = omega (arith, k, e (2 * i) (omega arith));
        to_in = omega (arith, k, e (2 * i + 1) (omega arith));
        lo_fits = omega (arith, r (2 * i) (omega arith));
        hi_fits = omega (arith, r (2 * i + 1) (omega arith), hi_number_of (get_or ranges (2 * i + 1) 0));
      })

  -- as the code finds it: of numbers added up to 0, each is 0
  pub front_small : 2 * m ≤ length ends → 2 * m ≤ length ranges → (g s : ℕ) → ((i : ℕ) → i < length (take (2 * m) ends) → get_or (take (2 * m) ends) i 0 ≤ g) → g < n
      → s ≡ sum_by (λ x. x / 549_755_813_888) (take (2 * m) ranges) → s ≡ 0 → bounds_fit n bs ≡ true
  front_small h k g s below few sum-is none =
      small_fit g
      (λ i l. let e : get_or (take (2 * m) ends) i 0 ≡ get_or ends i 0 = get_or-take (2 * m) ends i 0 l in
      omega (arith, e, below i (omega (arith, length-take-le (2 * m) ends h))))
      few
      (λ i l. let e : get_or (take (2 * m) ranges) i 0 ≡ get_or ranges i 0 = get_or-take (2 * m) ranges i 0 l in
      let q : get_or (take (2 * m) ranges) i 0 / 549_755_813_888 ≤ sum_by (λ x. x / 549_755_813_888) (take (2 * m) ranges) =
      get_or-le-sum_by (λ x. x / 549_755_813_888) (take (2 * m) ranges) i 0 (omega (arith, length-take-le (2 * m) ranges k))
      in
      omega (arith, e, q))

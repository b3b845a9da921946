-- What a network as the code holds it says of its bounds. Assumes nothing.
use Rattle.std.specs.Prelude.{Option, None, Some}
use Prim.Native.Nat.{ℕ, zero, suc, ◌+◌, ◌-◌, ◌*◌, ◌/◌, ◌%◌, ◌≤◌, ◌<◌}
use native.Mathlib.Omega.{arith}
use Rattle.std.specs.Option.{SomeIff}
use mathlib.Core.Path.{◌≡◌, refl, ap, ◌∙◌, subst}
use mathlib.Core.List.{List}
use lib.ListN.{length, get_or}
use Rattle.network.specs.Bounds.{Bound}
use Rattle.std.proofs.lemmas.Bool.Decides.{nat_tests}
use Rattle.network.specs.BoundArrays.{hi_of, bounds_in}
use Rattle.passes.specs.declared.arrays.Network.{Network}
use Rattle.passes.specs.Solving.{no_bound, bounds_fit, network_fits}
use Rattle.passes.specs.Marks.{Code, of_forward, of_backward}
use Rattle.passes.specs.Networks.{bounds_of, bound_of, HiOf}
use Rattle.passes.proofs.Fitting.{Fitting, fitting, place_fits, bounds_length, bound_is, hi_number_of}

-- the limits
pub record Limits (m n : ℕ) (ends ranges : List ℕ) : Type 0 where
  pub few_bounds : m ≤ 12_288
  pub ends_long : 2 * m ≤ length ends
  pub ranges_long : 2 * m ≤ length ranges
  pub some_event : 1 ≤ n
  pub few_events : n ≤ 4096

-- within them the bounds decide
pub network_is : (m n : ℕ) (ends ranges : List ℕ) → Limits m n ends ranges → bounds_fit n (bounds_in m ends ranges) ≡ network_fits m n ends ranges
unfolding network_fits
network_is m n ends ranges l = grind (arith, nat_tests)

module _ (net : Network) where
  -- there are as many bounds as it says
  pub bounds_long : length (bounds_of net) ≡ net.bounds
  bounds_long = bounds_length net.bounds net.ends.now net.ranges.now

  module _ (i : ℕ) (h : i < net.bounds) where
    pub place_there : i < length (bounds_of net)
    place_there = omega (arith, bounds_long)

    -- the bound at a place is one of them
    pub bound_there : (d : Bound) → get_or (bounds_of net) i d ≡ bound_of net i
    bound_there d = bound_is net.bounds net.ends.now net.ranges.now i d h

    -- and fits
    pub fits : Fitting net.events (bound_of net i)
    fits = fitting net.events (bound_of net i) (place_fits net.events net.bounds net.ends.now net.ranges.now i h net.all_fit)

    -- its hi, which is one less than the number that stands for it
    pub hi_told : (o : Option ℕ) → SomeIff o (1 ≤ get_or net.ranges.now (2 * i + 1) 0) (get_or net.ranges.now (2 * i + 1) 0 - 1) → HiOf (bound_of net i) o
    unfolding hi_of
    hi_told None p = by (get_or net.ranges.now (2 * i + 1) 0) p
      where
        by : (x : ℕ) → ¬ (1 ≤ x) → hi_of x ≡ None
        by zero q = refl
        by (suc x) q = absurd (q (omega arith))
    hi_told (Some k) p =
        let s : get_or net.ranges.now (2 * i + 1) 0 ≡ suc k = omega (arith, p.0, p.1) in
        (ap hi_of s, omega (arith, fits.hi_fits, hi_number_of (get_or net.ranges.now (2 * i + 1) 0)))

    -- the codes of its arcs
    pub forward_code : Code (bounds_of net) (2 * i + 1)
    forward_code = of_forward i place_there refl

    pub backward_code : (k : ℕ) → (bound_of net i).hi ≡ Some k → Code (bounds_of net) (2 * i + 2)
    backward_code k e = of_backward i k place_there (ap (λ (b : Bound). b.hi) (bound_there no_bound) ∙ e) refl

-- a number in the second array is small, also where it is one more than a hi
pub range_small : (net : Network) (c : ℕ) → c < 2 * net.bounds → get_or net.ranges.now c 0 ≤ 1_000_000_000_001
range_small net c h =
    by (c % 2) refl (omega arith)
  where
    by : (r : ℕ) → c % 2 ≡ r → r < 2 → get_or net.ranges.now c 0 ≤ 1_000_000_000_001
    by zero e l =
        let k : c / 2 < net.bounds = omega arith in
        let q : 2 * (c / 2) ≡ c = omega arith in
        subst (λ (j : ℕ). get_or net.ranges.now j 0 ≤ 1_000_000_000_001) q (omega (arith, (fits net (c / 2) k).lo_fits))
    by (suc zero) e l =
        let k : c / 2 < net.bounds = omega arith in
        let q : 2 * (c / 2) + 1 ≡ c = omega arith in
        subst (λ (j : ℕ). get_or net.ranges.now j 0 ≤ 1_000_000_000_001) q
        (omega (arith, (fits net (c / 2) k).hi_fits, hi_number_of (get_or net.ranges.now (2 * (c / 2) + 1) 0)))
    by (suc (suc r)) e l = absurd (omega arith)

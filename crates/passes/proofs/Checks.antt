-- Values in arrays: raised in place they stay in their range; checked, each way out of a check says what it is to say; rounded, they are times. Assumes nothing.
use Prim.Native.Nat.{ℕ, ◌+◌, ◌-◌, ◌/◌, ◌%◌, ◌≤◌, ◌<◌}
use native.Mathlib.Omega.{arith}
use mathlib.Core.Path.{◌≡◌, refl, ap, sym, ◌∙◌, subst}
use mathlib.Core.Logic.{◌⊎◌, inl, inr, ⊎_elim}
use mathlib.Core.Bool.{Bool, true, false}
use mathlib.Core.List.{List}
use lib.Dec.{T}
use borrow.Author.Count.{below_more}
use lib.IntN.{ℤ, pos, negsuc, nat_abs, ◌+ℤ◌}
use lib.Signed.{lt_z, ◌≤ℤ◌, ◌<ℤ◌}
use lib.ListN.{length, set, length-set, get_or-eq_default}
use lib.Seq.{get_or-set_same, get_or-set_other}
use mir.Syntax.{w64}
use mir.Val.{SFits, to_z, of_z}
use mir.ValLaws.{to_z-of_z}
use mir.Facts.{to_z_pos}
use Rattle.std.specs.Ordering.{ord_max, nat_cmp}
use Rattle.std.proofs.lemmas.Bool.{cases_lt}
use Rattle.std.proofs.lemmas.Grind.{common_steps}
use Rattle.laws.proofs.Signed.{signed, sum, product, Within, mag_within, up_sum}
use Rattle.walks.specs.Certificate.{scale}
use Rattle.passes.specs.Values.{value, InRange, Rounds, Rounded}

-- ---- tests, as the code makes them

-- a value in the range reads as itself
pub range_seen : (z : ℤ) → Within 1_152_921_504_606_846_976 z → to_z w64 (of_z w64 z) ≡ z
range_seen z w = to_z-of_z w64 z (record { sfits = omega (arith, mag_within z w) })

-- two numbers are compared as locals hold them: by their bits
pub seen_test : (a b : ℤ) → SFits w64 a → SFits w64 b → (t : Bool) → lt_z (to_z w64 (of_z w64 a)) (to_z w64 (of_z w64 b)) ≡ t → lt_z a b ≡ t
seen_test a b f g t h = rw (to_z-of_z w64 a f, to_z-of_z w64 b g) at h

-- a test that failed has not passed
pub failed : {A : Type 0} → false ≡ true → A
failed e = absurd (subst T (sym e) tt)

-- ---- rounded

-- a value with 8,191 more, and the number of arcs that it counts
abbrev lifted : List ℤ → ℕ → ℕ
lifted values v = nat_abs (value values v +ℤ pos 8191)

abbrev hops_of : List ℤ → ℕ → ℕ
hops_of values v = 8191 - lifted values v % 8192

module _ (z : ℤ) (w : Within 1_152_921_504_606_846_976 z) (low : negsuc 8191 <ℤ z) where
  -- it is a natural
  natural : z +ℤ pos 8191 ≡ pos (nat_abs (z +ℤ pos 8191))
  natural = by (z +ℤ pos 8191) (omega (signed, low, sum z (pos 8191)))
    where
      by : (y : ℤ) → pos 0 ≤ℤ y → y ≡ pos (nat_abs y)
      by (pos n) h = refl
      by (negsuc n) h = absurd (omega (signed, h))

  -- so it rounds up to a time
  rounds : (x : ℕ) → x ≡ nat_abs (z +ℤ pos 8191) → Rounds z (pos (x / 8192)) (8191 - x % 8192)
  rounds x e =
      let q : z +ℤ pos 8191 ≡ pos x = natural ∙ ap pos (sym e) in
      let h : ℕ = 8191 - x % 8192 in
      record {
        holds = omega (signed, q, sum z (pos 8191), sum z (pos h), product scale (pos (x / 8192)));
        few = omega arith;
        no_less = omega signed;
      }

  time_fits : nat_abs (z +ℤ pos 8191) / 8192 < 9_223_372_036_854_775_808
  time_fits = omega (signed, natural, up_sum z (pos 8191), w.above)

-- the first i values are rounded
pub record Rounding (values₀ values : List ℤ) (most i : ℕ) : Type 0 where
  pub long : length values ≡ length values₀
  pub done : (v : ℕ) → v < i → value values v ≡ pos (lifted values₀ v / 8192)
  pub left : (v : ℕ) → i ≤ v → value values v ≡ value values₀ v
  pub none_more : (v : ℕ) → v < i → hops_of values₀ v ≤ most
  pub reached : ((i ≡ 0) × (most ≡ 0)) ⊎ ((v : ℕ) × (v < i) × (hops_of values₀ v ≡ most))

-- one more: `most` becomes the greater of what it was and of the new number
module _ {values₀ values : List ℤ} {most i : ℕ} (r : Rounding values₀ values most i) (h : i < length values₀) (range : InRange values₀)
    (low : (v : ℕ) → v < length values₀ → negsuc 8191 <ℤ value values₀ v) where
  at_hand : to_z w64 (of_z w64 (value values i)) ≡ value values₀ i
  at_hand = rw (r.left i (omega arith)) (range_seen (value values₀ i) (range i))

  module _ (x m : ℕ) (e : x ≡ nat_abs (to_z w64 (of_z w64 (value values i)) +ℤ pos 8191)) (g : m ≡ ord_max nat_cmp most (8191 - x % 8192)) where
    x_is : x ≡ lifted values₀ i
    x_is = rw at_hand at e

    greater : ((most < hops_of values₀ i) × (m ≡ hops_of values₀ i)) ⊎ ((hops_of values₀ i ≤ most) × (m ≡ most))
    greater =
        let k : m ≡ ord_max nat_cmp most (hops_of values₀ i) = rw x_is at g in
        ⊎_elim (λ (l : most < hops_of values₀ i). inl (l, grind (arith, common_steps))) (λ (l : hops_of values₀ i ≤ most). inr (l, grind (arith, common_steps)))
        (cases_lt most (hops_of values₀ i))

    at_most : (hops_of values₀ i ≤ m) × (most ≤ m)
    at_most = ⊎_elim (λ q. (omega (arith, q.1), omega (arith, q.0, q.1))) (λ q. (omega (arith, q.0, q.1), omega (arith, q.1))) greater

    reach : (v : ℕ) × (v < i + 1) × (hops_of values₀ v ≡ m)
    reach =
        ⊎_elim (λ (q : (most < hops_of values₀ i) × (m ≡ hops_of values₀ i)). (i, omega arith, sym q.1))
        (λ q. ⊎_elim (λ (z : (i ≡ 0) × (most ≡ 0)). (i, omega arith, omega (arith, q.0, q.1, z.1))) (λ z. (z.0, omega (arith, z.1), z.2 ∙ sym q.1)) r.reached) greater

    pub lifted_rounded : Rounding values₀ (set values i (to_z w64 (x / 8192))) m (i + 1)
    lifted_rounded =
        let t : to_z w64 (x / 8192) ≡ pos (lifted values₀ i / 8192) =
        rw x_is (to_z_pos w64 (time_fits (value values₀ i) (range i) (low i h))) in
        rw t (record {
          long = length-set values i (pos (lifted values₀ i / 8192)) ∙ r.long;
          done = below_more (λ (v : ℕ). value (set values i (pos (lifted values₀ i / 8192))) v ≡ pos (lifted values₀ v / 8192)) i
              (λ v l. get_or-set_other values i v (pos (lifted values₀ i / 8192)) (pos 0) (λ q. omega arith) ∙ r.done v l)
              (get_or-set_same values i (pos (lifted values₀ i / 8192)) (pos 0) (omega (arith, r.long)));
          left = λ v l. get_or-set_other values i v (pos (lifted values₀ i / 8192)) (pos 0) (λ q. omega arith) ∙ r.left v (omega arith);
          none_more = below_more (λ (v : ℕ). hops_of values₀ v ≤ m) i (λ v l. omega (arith, r.none_more v l, at_most.1)) at_most.0;
          reached = inr reach;
        })

-- all
pub all_rounded : {values₀ values : List ℤ} {most i : ℕ} → Rounding values₀ values most i → length values₀ ≤ i → i ≤ length values₀ → 1 ≤ length values₀
    → InRange values₀ → ((v : ℕ) → v < length values₀ → negsuc 8191 <ℤ value values₀ v) → Rounded values₀ values most
all_rounded {values₀} r h k p range low = record {
  hops = hops_of values₀;
  each = λ x b. rw (r.done x (omega arith)) (rounds (value values₀ x) (range x) (low x b) (lifted values₀ x) refl);
  none_more = λ x b. r.none_more x (omega arith);
  reached = ⊎_elim (λ q. absurd (omega arith)) (λ (v, l, e). (v, omega arith, e)) r.reached;
}

-- a value that is rounded is no farther from 0, so the times are in the range
round_near : (z t : ℤ) (h : ℕ) → Within 1_152_921_504_606_846_976 z → Rounds z t h → Within 1_152_921_504_606_846_976 t
round_near z (pos n) h w r = record {
  above = omega (signed, r.holds, sum z (pos h), product scale (pos n), r.few, w.above);
  under = omega arith;
}
round_near z (negsuc n) h w r = absurd (omega (signed, r.no_less))

pub rounded_range : (values₀ values : List ℤ) (most : ℕ) → Rounded values₀ values most → length values ≡ length values₀ → InRange values₀ → InRange values
rounded_range values₀ values most r long range v =
    ⊎_elim (λ (l : v < length values). let l₀ : v < length values₀ = omega (arith, l, long) in
    round_near (value values₀ v) (value values v) (r.hops v) (range v) (r.each v l₀))
    (λ (l : length values ≤ v). rw (get_or-eq_default {A = ℤ} values (pos 0) {n = v} l) (record { above = omega arith; under = omega arith }))
    (cases_lt v (length values))

-- Visits linked for counting: where the next visit of a remainder counts in place of one, that one is left out, and as many are counted.
-- Assumes nothing.
use Rattle.std.proofs.lemmas.Bool.Decides.{nat_tests}
use Prim.Native.Nat.{ℕ, zero, suc, ◌-◌, ◌%◌, ◌≤◌, ◌<◌}
use native.Mathlib.Omega.{arith}
use mathlib.Core.Path.{◌≡◌, refl, ap, ap₂, sym, ◌∙◌, subst}
use mathlib.Core.Logic.{◌≢◌}
use mathlib.Core.Bool.{Bool, true, false, cond}
use mathlib.Core.List.{List, ◌∷◌}
use lib.Dec.{T, ltb, eqb}
use mir.Facts.{and_yes}
use lib.ListN.{get_or}
use borrow.Author.Tests.{eqb-true, eqb-false}
use Rattle.limits.specs.declared.row.Stop.{Stop}
use Rattle.limits.specs.Counts.{counts, later_carts, stop_at, stops_in, stands_for, left_out, left_by, LinkedBy, Does, Chained}
use Rattle.limits.proofs.Few.{counted_cart, passed_over}
use Rattle.limits.proofs.Links.{other_cell}

-- ---- a visit that another stands for

-- the cart and the cell are the same, and the step is not earlier
stands_says : (h u : Stop) → T (stands_for h u) → (u.cart ≡ h.cart) × (u.cell ≡ h.cell) × (u.step ≤ h.step)
unfolding stands_for
stands_says h u t = grind (arith, nat_tests)

-- where the one counts the other does
stands_counts : (v h u : Stop) (k : ℕ) → u.cart ≡ h.cart → u.cell ≡ h.cell → u.step ≤ h.step → counts v k u ≡ true → counts v k h ≡ true
unfolding counts
stands_counts v h u k cart cell later e = grind (arith, nat_tests)

-- so that it is counted in its place
stands_same : (v h u : Stop) (k : ℕ) (us : List Stop) → T (stands_for h u) → later_carts v k (u ∷ (h ∷ us)) ≡ later_carts v k (h ∷ us)
unfolding later_carts
stands_same v h u k us t = let (cart, cell, later) = stands_says h u t in by (counts v k u) refl cart cell later
  where
    by : (b : Bool) → counts v k u ≡ b → u.cart ≡ h.cart → u.cell ≡ h.cell → u.step ≤ h.step
        → cond b (suc (later_carts v u.cart (h ∷ us))) (later_carts v k (h ∷ us)) ≡ later_carts v k (h ∷ us)
    by true e cart cell later =
        ap suc (passed_over v h u.cart us (counted_cart v h u.cart cart) ∙ ap (λ (c : ℕ). later_carts v c us) cart)
        ∙ ap (λ (b : Bool). cond b (suc (later_carts v h.cart us)) (later_carts v k us)) (sym (stands_counts v h u k cart cell later e))
    by false e cart cell later = refl

-- what is counted behind a visit decides
behind_same : (v u : Stop) (k : ℕ) (us ws : List Stop) → ((m : ℕ) → later_carts v m us ≡ later_carts v m ws) → later_carts v k (u ∷ us) ≡ later_carts v k (u ∷ ws)
unfolding later_carts
behind_same v u k us ws h = ap₂ (λ (a b : ℕ). cond (counts v k u) (suc a) b) (h u.cart) (h k)

module _ (ns ts cs : List ℕ) (n : ℕ) where
  -- the last l visits
  abbrev last : ℕ → List Stop
  last l = stops_in ns ts cs l (n - l)

  -- with one more
  last_cons : (l : ℕ) → l < n → last (suc l) ≡ stop_at ns ts cs (n - suc l) ∷ last l
  unfolding stops_in
  last_cons l h = let next : suc (n - suc l) ≡ n - l = omega arith in ap (λ (i : ℕ). stop_at ns ts cs (n - suc l) ∷ stops_in ns ts cs l i) next

  -- ---- one more visit

  module _ (b l : ℕ) (h : l < n) where
    -- of another remainder
    other_does : (m : ℕ) → Does ns ts cs n b l m → get_or cs (n - suc l) 0 % 1024 ≢ b → Does ns ts cs n b (suc l) m
    unfolding stop_at
    other_does m d apart =
        let u : Stop = stop_at ns ts cs (n - suc l) in
        record {
          fewer = omega (arith, d.fewer);
          there = d.there;
          same = λ v k r. ap (later_carts v k) (last_cons l h)
              ∙ passed_over v u k (last l) (other_cell v u k (λ s. apart (ap (λ (x : ℕ). x % 1024) (sym s) ∙ r)))
              ∙ d.same v k r;
        }

    -- of this one, and linked
    linked_does : get_or cs (n - suc l) 0 % 1024 ≡ b → Does ns ts cs n b (suc l) (suc l)
    linked_does e = record { fewer = omega arith; there = λ _. e; same = λ v k r. refl }

    -- of this one, and left out
    left_does : (m : ℕ) → Does ns ts cs n b l m → T (left_out ns ts cs n (n - suc l) m) → Does ns ts cs n b (suc l) m
    unfolding left_out
    left_does zero d t = absurd t
    left_does (suc m) d t =
        let u : Stop = stop_at ns ts cs (n - suc l) in
        let first : last (suc m) ≡ stop_at ns ts cs (n - suc m) ∷ last m = last_cons m (omega (arith, d.fewer)) in
        let (_, stands) = and_yes (ltb 0 (suc m)) (stands_for (stop_at ns ts cs (n - suc m)) u) t in
        record {
          fewer = omega (arith, d.fewer);
          there = d.there;
          same = λ v k r. ap (later_carts v k) (last_cons l h)
              ∙ behind_same v u k (last l) (last (suc m)) (λ c. d.same v c r)
              ∙ ap (λ (us : List Stop). later_carts v k (u ∷ us)) first
              ∙ stands_same v (stop_at ns ts cs (n - suc m)) u k (last m) stands
              ∙ ap (later_carts v k) (sym first);
        }

  -- ---- linking

  -- those that the linking does not leave out do for all
  does_by : (b l : ℕ) → l ≤ n → Does ns ts cs n b l (left_by (left_out ns ts cs n) cs b l (n - l))
  unfolding left_by
  does_by b zero h = record { fewer = omega arith; there = λ k. absurd (omega arith); same = λ v k r. refl }
  does_by b (suc l) h =
      let u : ℕ = n - suc l in
      let next : n - l ≡ suc u = omega arith in
      subst
      (λ (i : ℕ). let m = left_by (left_out ns ts cs n) cs b l i in Does ns ts cs n b (suc l) (cond (eqb (get_or cs u 0 % 1024) b) (cond (left_out ns ts cs n u m) m (suc l)) m))
      next (by (eqb (get_or cs u 0 % 1024) b) refl (left_out ns ts cs n u m) refl (does_by b l (omega arith)))
    where
      m : ℕ
      m = left_by (left_out ns ts cs n) cs b l (n - l)

      by : (t : Bool) → eqb (get_or cs (n - suc l) 0 % 1024) b ≡ t → (o : Bool) → left_out ns ts cs n (n - suc l) m ≡ o → Does ns ts cs n b l m
          → Does ns ts cs n b (suc l) (cond t (cond o m (suc l)) m)
      by true e true f d = left_does b l h m d (subst T (sym f) tt)
      by true e false f d = linked_does b l h (eqb-true (get_or cs (n - suc l) 0 % 1024) b e)
      by false e o f d = other_does b l h m d (eqb-false (get_or cs (n - suc l) 0 % 1024) b e)

  pub chained : (heads nexts : List ℕ) → LinkedBy (left_out ns ts cs n) cs heads nexts n n → Chained ns ts cs heads nexts n n
  chained heads nexts k =
      record {
        heads_do = λ b h. subst (Does ns ts cs n b n) (sym (k.heads_are b h)) (does_by b n (omega arith));
        nexts_do = λ l h. subst (Does ns ts cs n (get_or cs (n - suc l) 0 % 1024) l) (sym (k.nexts_are l h)) (does_by (get_or cs (n - suc l) 0 % 1024) l (omega arith));
      }

  -- ---- the visits linked, one after the other

  module _ (heads nexts : List ℕ) (c : Chained ns ts cs heads nexts n n) (v : Stop) where
    -- at the first all carts are yet to be counted
    pub chain_begins : (left : ℕ) → left ≡ get_or heads (v.cell % 1024) 0
        → (left ≤ n) × (0 < left → get_or cs (n - left) 0 % 1024 ≡ v.cell % 1024) × (later_carts v 0 (last left) ≡ later_carts v 0 (stops_in ns ts cs n 0))
    chain_begins left e = grind (arith, nat_tests)

    -- those from the next on do for the others
    next_does_at : (l : ℕ) → suc l ≤ n → get_or cs (n - suc l) 0 % 1024 ≡ v.cell % 1024 → (next : ℕ) → next ≡ get_or nexts (n - suc l) 0 → Does ns ts cs n (v.cell % 1024) l next
    next_does_at l h same next e = subst (λ (b : ℕ). Does ns ts cs n b l next) same (subst (Does ns ts cs n (get_or cs (n - suc l) 0 % 1024) l) (sym e) (c.nexts_do l h))

    -- fewer are left from the next on, and it is of the same remainder
    pub chain_goes : (left : ℕ) → 0 < left → left ≤ n → get_or cs (n - left) 0 % 1024 ≡ v.cell % 1024 → (next : ℕ) → next ≡ get_or nexts (n - left) 0
        → (next < left) × (0 < next → get_or cs (n - next) 0 % 1024 ≡ v.cell % 1024)
    chain_goes zero some h same next e = absurd (omega arith)
    chain_goes (suc l) some h same next e = let d : Does ns ts cs n (v.cell % 1024) l next = next_does_at l h same next e in (omega (arith, d.fewer), d.there)

    -- the visit at hand is counted
    pub chain_counts : (left : ℕ) → 0 < left → left ≤ n → get_or cs (n - left) 0 % 1024 ≡ v.cell % 1024 → (next : ℕ) → next ≡ get_or nexts (n - left) 0
        → (k : ℕ) → counts v k (stop_at ns ts cs (n - left)) ≡ true → later_carts v k (last left) ≡ suc (later_carts v (get_or ns (n - left) 0) (last next))
    unfolding later_carts stop_at
    chain_counts zero some h same next e k q = absurd (omega arith)
    chain_counts (suc l) some h same next e k q =
        ap (later_carts v k) (last_cons l h)
        ∙ ap (λ (b : Bool). cond b (suc (later_carts v (get_or ns (n - suc l) 0) (last l))) (later_carts v k (last l))) q
        ∙ ap suc ((next_does_at l h same next e).same v (get_or ns (n - suc l) 0) refl)

    -- or not
    pub chain_passes : (left : ℕ) → 0 < left → left ≤ n → get_or cs (n - left) 0 % 1024 ≡ v.cell % 1024 → (next : ℕ) → next ≡ get_or nexts (n - left) 0
        → (k : ℕ) → counts v k (stop_at ns ts cs (n - left)) ≡ false → later_carts v k (last left) ≡ later_carts v k (last next)
    chain_passes zero some h same next e k q = absurd (omega arith)
    chain_passes (suc l) some h same next e k q =
        ap (later_carts v k) (last_cons l h) ∙ passed_over v (stop_at ns ts cs (n - suc l)) k (last l) q ∙ (next_does_at l h same next e).same v k refl

-- The number found by the passes is the number of passes as document 01 words it. Assumes nothing.
use Rattle.std.specs.Prelude.{Option, None, Some}
use Prim.Native.Nat.{ℕ, zero, suc, ◌+◌, ◌≤◌, ◌<◌}
use native.Mathlib.Nat.{eq-or-lt_of_le}
use native.Mathlib.Omega.{arith}
use mathlib.Core.Path.{◌≡◌, refl, ap, ap₂, sym, ◌∙◌, subst}
use mathlib.Core.Logic.{⊎_elim}
use mathlib.Core.Bool.{Bool, true, false}
use mathlib.Core.List.{List, [], ◌∷◌}
use lib.Dec.{T, eqb→eq, eqb_refl}
use lib.IntN.{ℤ, pos, negsuc}
use lib.ListN.{get_or}
use lib.Seq.{ext_get_or}
use mir.Facts.{and_yes, yes_and}
use Rattle.laws.proofs.Options.{none-ne-some, some-injective}
use Rattle.walks.specs.Walks.{Arc, Agree, PassNumber}
use Rattle.walks.specs.Passes.{Sums, sums, same_number, same_sum, agree, first_agreeing, pass_number}
use Rattle.walks.proofs.Greatest.{EndsBelow, sums_length, sum_is_greatest, greatest_is_sum}

-- ---- the test of two lists of sums

pub same_number_eq : (x y : ℤ) → T (same_number x y) → x ≡ y
unfolding same_number
same_number_eq (pos a) (pos b) t = ap pos (eqb→eq a b t)
same_number_eq (pos a) (negsuc b) t = absurd t
same_number_eq (negsuc a) (pos b) t = absurd t
same_number_eq (negsuc a) (negsuc b) t = ap negsuc (eqb→eq a b t)

same_sum_eq : (x y : Option ℤ) → T (same_sum x y) → x ≡ y
unfolding same_sum
same_sum_eq None None t = refl
same_sum_eq None (Some y) t = absurd t
same_sum_eq (Some x) None t = absurd t
same_sum_eq (Some x) (Some y) t = ap Some (same_number_eq x y t)

same_sum_refl : (x : Option ℤ) → T (same_sum x x)
unfolding same_sum same_number
same_sum_refl None = tt
same_sum_refl (Some (pos a)) = eqb_refl a
same_sum_refl (Some (negsuc a)) = eqb_refl a

pub agree_eq : (xs ys : Sums) → T (agree xs ys) → xs ≡ ys
unfolding agree
agree_eq [] [] t = refl
agree_eq [] (y ∷ ys) t = absurd t
agree_eq (x ∷ xs) [] t = absurd t
agree_eq (x ∷ xs) (y ∷ ys) t =
    let both = and_yes (same_sum x y) (agree xs ys) t in
    ap₂ ◌∷◌ (same_sum_eq x y both.0) (agree_eq xs ys both.1)

agree_refl : (xs : Sums) → T (agree xs xs)
unfolding agree
agree_refl [] = tt
agree_refl (x ∷ xs) = yes_and (same_sum x x) (agree xs xs) (same_sum_refl x) (agree_refl xs)

-- ---- the first number at which it passes

module _ (arcs : List Arc) (n : ℕ) where
  -- the sums after k passes and after k + 1 are the same
  abbrev pub still : ℕ → Bool
  still k = agree (sums arcs n k) (sums arcs n (suc k))

  -- sums that are the same at every event are the same
  pub same_everywhere : (k : ℕ) → ((v : ℕ) → v < n → get_or (sums arcs n k) v None ≡ get_or (sums arcs n (suc k)) v None) → sums arcs n k ≡ sums arcs n (suc k)
  same_everywhere k h =
      ext_get_or None (sums arcs n k) (sums arcs n (suc k)) (sums_length arcs n k ∙ sym (sums_length arcs n (suc k)))
      (λ v l. h v (subst (λ (m : ℕ). v < m) (sums_length arcs n k) l))

  -- and pass the test
  pub agrees_of : (k : ℕ) → sums arcs n k ≡ sums arcs n (suc k) → T (still k)
  agrees_of k e = subst (λ (s : Sums). T (agree (sums arcs n k) s)) e (agree_refl (sums arcs n k))

  pub record First (k j f : ℕ) : Type 0 where
    pub agrees : T (still j)
    pub before : (i : ℕ) → k ≤ i → i < j → ¬ T (still i)
    pub below : j < k + f

  pub first_is : (f k j : ℕ) → first_agreeing arcs n f k ≡ Some j → First k j f
  unfolding first_agreeing
  first_is zero k j e = absurd (none-ne-some _ e)
  first_is (suc f) k j e = by (still k) refl (first_is f (suc k) j) e
    where
      by : (b : Bool) → still k ≡ b → (first_agreeing arcs n f (suc k) ≡ Some j → First (suc k) j f)
          → elim b [ true ↦ Some k | false ↦ first_agreeing arcs n f (suc k) ] ≡ Some j
          → First k j (suc f)
      by true q r e =
          let k-is-j : k ≡ j = some-injective _ _ e in
          record {
            agrees = subst (λ (i : ℕ). T (still i)) k-is-j (subst T (sym q) tt);
            before = λ i l m. absurd (omega arith);
            below = omega arith;
          }
      by false q r e =
          let later : First (suc k) j f = r e in
          record {
            agrees = later.agrees;
            before = λ i l m. ⊎_elim (λ (h : k ≡ i). λ t. subst T q (subst (λ (x : ℕ). T (still x)) (sym h) t)) (λ h. later.before i h m) (eq-or-lt_of_le l);
            below = omega (arith, later.below);
          }

  module _ (p : 0 < n) (i : EndsBelow arcs n) where
    -- the test passes exactly where the greatest sums agree
    to_agree : (k : ℕ) → T (still k) → Agree arcs n k
    to_agree k t v l w =
        let e : sums arcs n k ≡ sums arcs n (suc k) = agree_eq (sums arcs n k) (sums arcs n (suc k)) t in (
          λ g. sum_is_greatest arcs n p i (suc k) v w (ap (λ (s : Sums). get_or s v None) (sym e) ∙ greatest_is_sum arcs n p i k v w g),
          λ g. sum_is_greatest arcs n p i k v w (ap (λ (s : Sums). get_or s v None) e ∙ greatest_is_sum arcs n p i (suc k) v w g),
        )

    same_at : (k v : ℕ) (x y : Option ℤ) → Agree arcs n k → v < n → get_or (sums arcs n k) v None ≡ x → get_or (sums arcs n (suc k)) v None ≡ y → x ≡ y
    same_at k v None None h l e f = refl
    same_at k v None (Some y) h l e f = sym e ∙ greatest_is_sum arcs n p i k v y ((h v l y).1 (sum_is_greatest arcs n p i (suc k) v y f))
    same_at k v (Some x) y h l e f = sym (sym f ∙ greatest_is_sum arcs n p i (suc k) v x ((h v l x).0 (sum_is_greatest arcs n p i k v x e)))

    of_agree : (k : ℕ) → Agree arcs n k → T (still k)
    of_agree k h =
        agrees_of k (same_everywhere k
        (λ v l. same_at k v (get_or (sums arcs n k) v None) (get_or (sums arcs n (suc k)) v None) h l refl refl))

    -- what the passes find is "the smallest k for which the greatest sums … agree", and it is below the number of events
    pub pass_number_is : (k : ℕ) → pass_number arcs n ≡ Some k → PassNumber arcs n k × (k < n)
    unfolding pass_number
    pass_number_is k e =
        let found : First 0 k n = first_is n 0 k e in
        (record { agrees = to_agree k found.agrees; smallest = λ j l h. found.before j (omega arith) l (of_agree j h) }, omega (arith, found.below))

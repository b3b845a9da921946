-- A zero byte of a table lies in one of its records, a zero byte of a record in one of its fields, and a field that is a number has none.
-- Assumes nothing.
use Rattle.std.specs.Prelude.{Option, None, Some}
use Prim.Native.Nat.{ℕ, ◌+◌, ◌*◌, ◌-◌}
use native.Mathlib.Omega.{arith}
use mathlib.Core.Path.{◌≡◌, refl, sym, ◌∙◌, subst}
use mathlib.Core.Logic.{◌≢◌}
use mathlib.Core.Bool.{Bool, true, false, ◌&&◌, not, cond}
use mathlib.Core.List.{List, [], ◌∷◌}
use lib.Dec.{T, leb, eqb, eqb→eq, leb→le}
use lib.ListN.{length}
use mir.Facts.{and_yes, eqb_no}
use Rattle.laws.proofs.Options.{none-ne-some}
use Rattle.rfc4180.specs.Records.{push, pieces, unended, records, widen, fields}
use Rattle.rfc4180.specs.Number.{decimal, number, numbers}

-- no byte is 0
abbrev pub NoZero : List ℕ → Type 0
NoZero [] = Unit {0}
NoZero (b ∷ bs) = (b ≢ 0) × NoZero bs

-- none in any of these
abbrev pub NoZeros : List (List ℕ) → Type 0
NoZeros [] = Unit {0}
NoZeros (p ∷ ps) = NoZero p × NoZeros ps

-- a test for it, for a text that is written out
abbrev pub no_zero : List ℕ → Bool
no_zero [] = true
no_zero (b ∷ bs) = not (eqb b 0) && no_zero bs

-- and what it says
pub no_zero_is : (bs : List ℕ) → T (no_zero bs) → NoZero bs
no_zero_is [] t = tt
no_zero_is (b ∷ bs) t = let both = and_yes (not (eqb b 0)) (no_zero bs) t in (eqb_no both.0, no_zero_is bs both.1)

-- ---- records

-- what a test finds to be k, other than 0, is not 0
not_0 : (b k : ℕ) → k ≢ 0 → T (eqb b k) → b ≢ 0
not_0 b k n t e = n (sym (eqb→eq b k t) ∙ e)

-- a byte in front is in the pieces, unless it is the CR of an end
push_nonzero : (b : ℕ) (ps : List (List ℕ)) → NoZeros (push b ps) → (b ≢ 0) × NoZeros ps
unfolding push
push_nonzero b [] h = (h.0.0, tt)
push_nonzero b ([] ∷ ps) h = (h.0.0, (tt, h.1))
push_nonzero b ((c ∷ p) ∷ ps) h = by (eqb b 13 && eqb c 10) refl h
  where
    by : (t : Bool) → (eqb b 13 && eqb c 10) ≡ t → NoZeros (cond t ([] ∷ p ∷ ps) ((b ∷ c ∷ p) ∷ ps)) → (b ≢ 0) × NoZeros ((c ∷ p) ∷ ps)
    by true e h =
        let both = and_yes (eqb b 13) (eqb c 10) (subst T (sym e) tt) in
        (not_0 b 13 (λ q. omega (arith, q)) both.0, ((not_0 c 10 (λ q. omega (arith, q)) both.1, h.1.0), h.1.1))
    by false e h = (h.0.0, (h.0.1, h.1))

-- hence a table's bytes are in its pieces
pieces_nonzero : (t : List ℕ) → NoZeros (pieces t) → NoZero t
unfolding pieces
pieces_nonzero [] h = tt
pieces_nonzero (b ∷ bs) h = let both = push_nonzero b (pieces bs) h in (both.0, pieces_nonzero bs both.1)

-- nothing after the last end has no byte
unended_nonzero : (ps : List (List ℕ)) → NoZeros (unended ps) → NoZeros ps
unfolding unended
unended_nonzero [] h = tt
unended_nonzero ([] ∷ []) h = (tt, tt)
unended_nonzero ([] ∷ p ∷ ps) h = (tt, unended_nonzero (p ∷ ps) h.1)
unended_nonzero ((b ∷ bs) ∷ ps) h = (h.0, unended_nonzero ps h.1)

-- a table whose records have no zero byte has none
pub records_nonzero : (t : List ℕ) → NoZeros (records t) → NoZero t
unfolding records
records_nonzero t h = pieces_nonzero t (unended_nonzero (pieces t) h)

-- ---- fields

-- a byte in front is in the first field
widen_nonzero : (b : ℕ) (fs : List (List ℕ)) → NoZeros (widen b fs) → (b ≢ 0) × NoZeros fs
unfolding widen
widen_nonzero b [] h = (h.0.0, tt)
widen_nonzero b (f ∷ fs) h = (h.0.0, (h.0.1, h.1))

-- a record whose fields have no zero byte has none
pub fields_nonzero : (r : List ℕ) → NoZeros (fields r) → NoZero r
unfolding fields
fields_nonzero [] h = tt
fields_nonzero (b ∷ bs) h = by (eqb b 44) refl (fields_nonzero bs) h
  where
    by : (t : Bool) → eqb b 44 ≡ t → (NoZeros (fields bs) → NoZero bs) → NoZeros (cond t ([] ∷ fields bs) (widen b (fields bs))) → (b ≢ 0) × NoZero bs
    by true e more h = (not_0 b 44 (λ q. omega (arith, q)) (subst T (sym e) tt), more h.1)
    by false e more h = let both = widen_nonzero b (fields bs) h in (both.0, more both.1)

-- ---- numbers

-- decimal digits are not 0
decimal_nonzero : (n : ℕ) (bs : List ℕ) (m : ℕ) → decimal n bs ≡ Some m → NoZero bs
unfolding decimal
decimal_nonzero n [] m e = tt
decimal_nonzero n (b ∷ bs) m e = by (leb 48 b && leb b 57) refl (decimal_nonzero (10 * n + (b - 48)) bs m) e
  where
    by : (t : Bool) → (leb 48 b && leb b 57) ≡ t → (decimal (10 * n + (b - 48)) bs ≡ Some m → NoZero bs)
        → elim t [ true ↦ decimal (10 * n + (b - 48)) bs | false ↦ None ] ≡ Some m
        → (b ≢ 0) × NoZero bs
    by true q more e =
        let l = leb→le 48 b (and_yes (leb 48 b) (leb b 57) (subst T (sym q) tt)).0 in
        (λ z. omega (arith, l, z), more e)
    by false q more e = absurd (none-ne-some _ e)

-- a number has digits alone
pub number_nonzero : (f : List ℕ) (n : ℕ) → number f ≡ Some n → NoZero f
unfolding number
number_nonzero [] n e = tt
number_nonzero (b ∷ []) n e = decimal_nonzero 0 (b ∷ []) n e
number_nonzero (b ∷ c ∷ cs) n e = by (eqb b 48) (leb (length (b ∷ c ∷ cs)) 10) e
  where
    by : (t u : Bool) → cond t None (cond u (decimal 0 (b ∷ c ∷ cs)) None) ≡ Some n → NoZero (b ∷ c ∷ cs)
    by true u e = absurd (none-ne-some _ e)
    by false true e = decimal_nonzero 0 (b ∷ c ∷ cs) n e
    by false false e = absurd (none-ne-some _ e)

-- and so have fields that are all numbers
pub numbers_nonzero : (fs : List (List ℕ)) (ns : List ℕ) → numbers fs ≡ Some ns → NoZeros fs
unfolding numbers
numbers_nonzero [] ns e = tt
numbers_nonzero (f ∷ fs) ns e = by (number f) (numbers fs) refl refl (numbers_nonzero fs) e
  where
    by : (o : Option ℕ) (os : Option (List ℕ)) → number f ≡ o → numbers fs ≡ os → ((ms : List ℕ) → numbers fs ≡ Some ms → NoZeros fs)
        → elim o [ None ↦ None | Some n ↦ elim os [ None ↦ None | Some ms ↦ Some (n ∷ ms) ] ] ≡ Some ns
        → NoZero f × NoZeros fs
    by None os q qs more e = absurd (none-ne-some _ e)
    by (Some n) None q qs more e = absurd (none-ne-some _ e)
    by (Some n) (Some ms) q qs more e = (number_nonzero f n q, more ms qs)

-- One list copied over another of the same length, place by place, and a place where that changed something. Assumes nothing.
use Rattle.std.specs.Prelude.{Option, None, Some, MatchOption}
use Prim.Native.Nat.{ℕ, zero, suc, ◌+◌, ◌<◌}
use native.Mathlib.Numerals.{add-one}
use native.Mathlib.Omega.{arith}
use mathlib.Core.Path.{◌≡◌, refl, sym, ap, ◌∙◌}
use mathlib.Core.Logic.{◌≢◌}
use mathlib.Core.List.{List, [], ◌∷◌, ◌++◌}
use lib.ListN.{length, take, drop, get_or, set}
use lib.Seq.{take-suc, set-get_or}
use Rattle.laws.proofs.Members.{any_default}

module _ {A : Type 0} where
  -- the store of one place more
  store : (s d : List A) (i : ℕ) (z : A) → i < length s → i < length d → set (take i s ++ drop i d) i (get_or s i z) ≡ take (suc i) s ++ drop (suc i) d
  store [] d i z h k = absurd (omega arith)
  store (x ∷ xs) [] i z h k = absurd (omega arith)
  store (x ∷ xs) (y ∷ ys) zero z h k = refl
  store (x ∷ xs) (y ∷ ys) (suc i) z h k = ap (λ (l : List A). x ∷ l) (store xs ys i z (omega arith) (omega arith))

  -- what stands after the places copied is as it was
  ahead : (s d : List A) (i : ℕ) (z : A) → i < length s → i < length d → get_or (take i s ++ drop i d) i z ≡ get_or d i z
  ahead [] d i z h k = absurd (omega arith)
  ahead (x ∷ xs) [] i z h k = absurd (omega arith)
  ahead (x ∷ xs) (y ∷ ys) zero z h k = refl
  ahead (x ∷ xs) (y ∷ ys) (suc i) z h k = ahead xs ys i z (omega arith) (omega arith)

  -- what is said of the places that were copied: one that differed, or that none did
  abbrev pub Changed : List A → List A → ℕ → Option ℕ → Type 0
  Changed s d i changed = MatchOption changed (take i d ≡ take i s) (λ v. (v < length s) × ((z : A) → get_or d v z ≢ get_or s v z))

  -- the first i places of d have become those of s
  pub record Copied (s d : List A) (i : ℕ) (now : List A) (changed : Option ℕ) : Type 0 where
    pub part : now ≡ take i s ++ drop i d
    pub told : Changed s d i changed

  module _ (s d : List A) (i : ℕ) (now : List A) (changed : Option ℕ) (z : A) (h : i < length s) (e : length d ≡ length s) (p : Copied s d i now changed) where
    was : get_or now i z ≡ get_or d i z
    was = ap (λ (l : List A). get_or l i z) p.part ∙ ahead s d i z h (omega arith)

    next : set now i (get_or s i z) ≡ take (i + 1) s ++ drop (i + 1) d
    next = rw add-one (ap (λ (l : List A). set l i (get_or s i z)) p.part ∙ store s d i z h (omega arith))

    -- one that differs
    pub one_moved : get_or now i z ≢ get_or s i z → Copied s d (i + 1) (set now i (get_or s i z)) (Some i)
    one_moved f =
        let k : i < length d = omega arith in
        record { part = next; told = (h, λ y q. f (was ∙ any_default d i z y k ∙ q ∙ any_default s i y z h)) }

    -- one that does not
    pub one_same : get_or now i z ≡ get_or s i z → Copied s d (i + 1) now changed
    one_same f =
        let k : i < length d = omega arith in
        let same : take i d ≡ take i s → take (i + 1) d ≡ take (i + 1) s = λ t.
        rw add-one (take-suc d i z k ∙ ap (λ (l : List A). l ++ (get_or d i z ∷ [])) t
        ∙ ap (λ (x : A). take i s ++ (x ∷ [])) (sym was ∙ f) ∙ sym (take-suc s i z h))
        in
        record {
          part = sym (set-get_or now i z) ∙ ap (set now i) f ∙ next;
          told = more changed same p.told;
        }
      where
        more : (o : Option ℕ) → (take i d ≡ take i s → take (i + 1) d ≡ take (i + 1) s) → Changed s d i o → Changed s d (i + 1) o
        more None same t = same t
        more (Some v) same t = t

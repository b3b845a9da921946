-- The members of lists that are made from others. Assumes nothing.
use Rattle.std.specs.Prelude.{None, Some}
use Prim.Native.Nat.{ℕ, zero, suc, ◌<◌}
use native.Mathlib.Omega.{arith}
use mathlib.Core.Path.{◌≡◌, refl, sym, subst}
use mathlib.Core.Logic.{⊎_elim}
use mathlib.Core.List.Memᴰ
use mathlib.Core.List.{List, [], ◌∷◌, tail, flat_map, Memᴰ}
use lib.ListN.{length, get_or, drop, replicate}
use Rattle.laws.proofs.Options.{none-ne-some}

-- ---- lists put together of lists

-- what stands in one of the lists stands in all of them together
pub to_flat : {A B : Type 0} (f : A → List B) (l : List A) (a : A) (b : B) → Memᴰ a l → Memᴰ b (f a) → Memᴰ b (flat_map f l)
unfolding flat_map
to_flat f [] a b m n = absurd (Memᴰ.not-nil m)
to_flat {A} {B} f (x ∷ xs) a b m n =
    ⊎_elim
    (λ e. Memᴰ.append_left (flat_map f xs) (subst (λ (y : A). Memᴰ b (f y)) e n))
    (λ t. Memᴰ.append_right (f x) (to_flat f xs a b t n))
    (Memᴰ.cases_cons m)

-- what stands in all of them together stands in one of them
pub of_flat : {A B : Type 0} (f : A → List B) (l : List A) (b : B) → Memᴰ b (flat_map f l) → (a : A) × Memᴰ a l × Memᴰ b (f a)
unfolding flat_map
of_flat f [] b m = absurd (Memᴰ.not-nil m)
of_flat {A} {B} f (x ∷ xs) b m =
    ⊎_elim
    (λ n. (x, Memᴰ.head refl, n))
    (λ t. let (a, here, there) = of_flat f xs b t in (a, Memᴰ.tail here, there))
    (Memᴰ.append_cases (f x) m)

-- ---- places

-- what stands at a place is there
pub at_place : {A : Type 0} (l : List A) (i : ℕ) (d : A) → i < length l → Memᴰ (get_or l i d) l
at_place [] i d h = absurd (omega arith)
at_place (x ∷ xs) zero d h = Memᴰ.head refl
at_place (x ∷ xs) (suc i) d h = Memᴰ.tail (at_place xs i d (omega arith))

-- and what is there stands at a place
pub place_of : {A : Type 0} (l : List A) (a d : A) → Memᴰ a l → (i : ℕ) × (i < length l) × (get_or l i d ≡ a)
place_of [] a d m = absurd (Memᴰ.not-nil m)
place_of (x ∷ xs) a d m =
    ⊎_elim
    (λ e. (0, omega arith, sym e))
    (λ t. let (i, h, e) = place_of xs a d t in (suc i, omega (arith, h), e))
    (Memᴰ.cases_cons m)

-- what stands at a place of a list does not hang on what would stand past its end
pub any_default : {A : Type 0} (l : List A) (i : ℕ) (d e : A) → i < length l → get_or l i d ≡ get_or l i e
any_default [] i d e h = absurd (omega arith)
any_default (x ∷ xs) zero d e h = refl
any_default (x ∷ xs) (suc i) d e h = any_default xs i d e (omega arith)

-- nothing stands in a list of none
pub none_there : {A : Type 0} (n i : ℕ) (x : A) → get_or (replicate n None) i None ≡ Some x → ⊥
none_there zero i x e = none-ne-some _ e
none_there (suc n) zero x e = none-ne-some _ e
none_there (suc n) (suc i) x e = none_there n i x e

-- ---- a list without its first

pub of_drop : {A : Type 0} (k : ℕ) (l : List A) (x : A) → Memᴰ x (drop k l) → Memᴰ x l
of_drop zero l x m = m
of_drop (suc k) [] x m = m
of_drop (suc k) (y ∷ ys) x m = Memᴰ.tail (of_drop k ys x m)

pub of_tail : {A : Type 0} (l : List A) (x : A) → Memᴰ x (tail l) → Memᴰ x l
of_tail [] x m = m
of_tail (y ∷ ys) x m = Memᴰ.tail m

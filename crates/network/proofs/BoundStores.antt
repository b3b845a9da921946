-- Bounds stored in an array, one after the other: two numbers each. Assumes nothing.
use Prim.Native.Nat.{ℕ, zero, suc, ◌+◌, ◌*◌, ◌-◌, ◌≤◌, ◌<◌, min}
use native.Mathlib.Nat.{add-zero, min-eq_left, min-eq_right}
use native.Mathlib.Omega.{arith}
use mathlib.Core.Path.{◌≡◌, refl, ap, sym, ◌∙◌}
use mathlib.Core.Logic.{⊎_elim}
use mathlib.Core.List.{List, [], ◌∷◌, ◌++◌, flat_map, append_assoc, append-nil}
use lib.ListN.{length, take, drop, set, length-append, length-drop, drop_of_length-le}
use lib.Seq.{sets, sets-eq}
use borrow.Rule.Slice.PartMut.{mid_of, put_mid}
use Rattle.laws.proofs.Tests.{below_or_not}
use Rattle.rfc4180.proofs.Reading.{rest_is}
use Rattle.std.proofs.lemmas.List.{set_past}
use Rattle.words.specs.Words.{written}
use Rattle.network.specs.Bounds.{Bound}
use Rattle.network.specs.BoundArrays.{bound_ends, bound_range}

-- numbers stored behind others
pub sets_append : {A : Type 0} (vs ws s : List A) (i : ℕ) → sets s i (vs ++ ws) ≡ sets (sets s i vs) (i + length vs) ws
sets_append [] ws s i = ap (λ (n : ℕ). sets s n ws) (sym (add-zero i))
sets_append (v ∷ vs) ws s i =
    let next : suc i + length vs ≡ i + suc (length vs) = omega arith in
    sets_append vs ws (set s i v) (suc i) ∙ ap (λ (n : ℕ). sets (sets (set s i v) (suc i) vs) n ws) next

-- numbers stored behind the end are not
pub sets_past : {A : Type 0} (vs s : List A) (i : ℕ) → length s ≤ i → sets s i vs ≡ s
sets_past [] s i h = refl
sets_past (v ∷ vs) s i h = ap (λ l. sets l (suc i) vs) (set_past s i v h) ∙ sets_past vs s (suc i) (omega arith)

-- behind the first number of a list
sets_behind : (x : ℕ) (xs vs : List ℕ) (i : ℕ) → sets (x ∷ xs) (suc i) vs ≡ x ∷ sets xs i vs
sets_behind x xs [] i = refl
sets_behind x xs (v ∷ vs) i = sets_behind x (set xs i v) vs (suc i)

-- in the part from a place on
sets_part : (m : ℕ) (s vs : List ℕ) → take m s ++ sets (drop m s) 0 vs ≡ sets s m vs
sets_part zero s vs = refl
sets_part (suc m) [] vs = sets_past vs [] 0 (omega arith) ∙ sym (sets_past vs [] (suc m) (omega arith))
sets_part (suc m) (x ∷ xs) vs = ap (λ (l : List ℕ). x ∷ l) (sets_part m xs vs) ∙ sym (sets_behind x xs vs m)

-- so what is stored in the part of a slice from place m on, or from its end on where that comes first
pub part_stored : (vs s t : List ℕ) (m n : ℕ) → n ≡ min m (length s) → t ≡ sets (mid_of n (length s - n) s) 0 vs → put_mid n (length s - n) s t ≡ sets s m vs
part_stored vs s t m n e q =
    let none : drop (length s - n) (drop n s) ≡ [] = drop_of_length-le (drop n s) {i = length s - n} (omega (arith, length-drop n s)) in
    ap (λ (x : List ℕ). take n s ++ (t ++ x)) none ∙ ap (λ (x : List ℕ). take n s ++ x) (append-nil t)
    ∙ ap (λ (x : List ℕ). take n s ++ x) (q ∙ ap (λ (x : List ℕ). sets x 0 vs) (rest_is s n))
    ∙ sets_part n s vs
    ∙ ⊎_elim
    (λ (l : m < length s). ap (λ (i : ℕ). sets s i vs) (e ∙ min-eq_left (omega arith)))
    (λ (l : length s ≤ m). sets_past vs s n (omega (arith, e, min-eq_right l)) ∙ sym (sets_past vs s m l))
    (below_or_not m (length s))

-- what is stored from the first place on is written over the front
pub front_stored : (vs s : List ℕ) → length vs ≤ length s → sets s (2 * 0) vs ≡ written vs s
unfolding written
front_stored vs s h =
    let all : 0 + length vs ≡ length vs = omega arith in
    sets-eq vs s 0 (omega arith) ∙ ap (λ (n : ℕ). vs ++ drop n s) all

-- the numbers of two lists
pub flat_append : {A : Type 0} (g : A → List ℕ) (xs ys : List A) → flat_map g (xs ++ ys) ≡ flat_map g xs ++ flat_map g ys
unfolding flat_map
flat_append g [] ys = refl
flat_append g (x ∷ xs) ys = ap (λ (l : List ℕ). g x ++ l) (flat_append g xs ys) ∙ sym (append_assoc (g x) (flat_map g xs) (flat_map g ys))

-- bounds in an array: each by its ends, or each by its range
pub record Pairs (g : Bound → List ℕ) : Type 0 where
  pub two : (b : Bound) → length (g b) ≡ 2

pub by_ends : Pairs bound_ends
unfolding bound_ends
by_ends = record { two = λ b. refl }

pub by_range : Pairs bound_range
unfolding bound_range
by_range = record { two = λ b. refl }

module _ (g : Bound → List ℕ) (p : Pairs g) where
  -- how many numbers they are
  pub pairs_length : (bs : List Bound) → length (flat_map g bs) ≡ 2 * length bs
  unfolding flat_map
  pairs_length [] = refl
  pairs_length (b ∷ bs) = omega (arith, length-append (g b) (flat_map g bs), p.two b, pairs_length bs)

  -- bounds stored behind others
  pub more_stored : (s t : List ℕ) (k j : ℕ) (xs ys : List Bound) → j ≡ k + length xs → t ≡ sets s (2 * k) (flat_map g xs)
      → sets t (2 * j) (flat_map g ys) ≡ sets s (2 * k) (flat_map g (xs ++ ys))
  more_stored s t k j xs ys e q =
      let place : 2 * j ≡ 2 * k + length (flat_map g xs) = omega (arith, pairs_length xs) in
      ap (λ (x : List ℕ). sets x (2 * j) (flat_map g ys)) q
      ∙ ap (λ (n : ℕ). sets (sets s (2 * k) (flat_map g xs)) n (flat_map g ys)) place
      ∙ sym (sets_append (flat_map g xs) (flat_map g ys) s (2 * k))
      ∙ ap (λ (l : List ℕ). sets s (2 * k) l) (sym (flat_append g xs ys))

  -- behind one
  pub one_stored : (s t : List ℕ) (k : ℕ) (b : Bound) (ys : List Bound) → t ≡ sets s (2 * k) (g b)
      → sets t (2 * (k + 1)) (flat_map g ys) ≡ sets s (2 * k) (flat_map g (b ∷ ys))
  unfolding flat_map
  one_stored s t k b ys q = more_stored s t k (k + 1) (b ∷ []) ys refl (q ∙ ap (λ (l : List ℕ). sets s (2 * k) l) (sym (append-nil (g b))))

-- none
pub none_stored : (g : Bound → List ℕ) (s : List ℕ) (k : ℕ) (bs : List Bound) → bs ≡ [] → s ≡ sets s k (flat_map g bs)
unfolding flat_map
none_stored g s k bs e = ap (λ (l : List Bound). sets s k (flat_map g l)) (sym e)

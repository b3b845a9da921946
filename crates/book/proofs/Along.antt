-- The bounds that a book adds put cart after cart, in the turns of a loop. Assumes nothing.
use Prim.Native.Nat.{ℕ, zero, suc, ◌+◌, ◌-◌, ◌≤◌, ◌<◌}
use native.Mathlib.Numerals.{add-one}
use native.Mathlib.Omega.{arith}
use mathlib.Core.Path.{◌≡◌, refl, ap, ap₂, sym, ◌∙◌, subst}
use mathlib.Core.List.{List, [], ◌∷◌, ◌++◌}
use lib.ListN.{length, get_or, take, drop, length-append}
use lib.Seq.{drop-cons}
use Rattle.network.specs.Bounds.{Bound}
use Rattle.network.specs.declared.BoundArrays.{BoundArrays}
use Rattle.network.specs.BoundArrays.{Puts}
use Rattle.network.proofs.Putting.{puts_more, Putting, putting_first, putting_more}
use Rattle.schedule.specs.Book.{Report}
use Rattle.book.specs.Replaying.{times_of}
use Rattle.book.specs.Writing.{reported_from, waiting_from, cart_added, added_along}

-- ---- one cart

-- no more reports than events
reported_most : (e n : ℕ) (us : List ℕ) → length (reported_from e n us) ≤ n
unfolding reported_from
reported_most e zero us = omega arith
reported_most e (suc n) [] = omega arith
reported_most e (suc n) (u ∷ us) = omega (arith, reported_most (suc e) n us)

-- a bound for each event that waits
waiting_count : (clock e n : ℕ) → length (waiting_from clock e n) ≡ n
unfolding waiting_from
waiting_count clock e zero = refl
waiting_count clock e (suc n) = ap suc (waiting_count clock (suc e) n)

-- and so one for each event
cart_count : (clock : ℕ) (log : List Report) (c e n : ℕ) → length (cart_added clock log c e n) ≡ n
unfolding cart_added
cart_count clock log c e n =
    let rs : List Bound = reported_from e n (times_of c log) in
    omega (arith, length-append rs (waiting_from clock (e + length rs) (n - length rs)), waiting_count clock (e + length rs) (n - length rs), reported_most e n (times_of c log))

-- the reports are put, and then what waits
pub cart_put : (a b d : BoundArrays) (clock : ℕ) (log : List Report) (c e next n : ℕ) → n ≡ e + length (reported_from e (next - e) (times_of c log))
    → Puts a b (reported_from e (next - e) (times_of c log)) → Puts b d (waiting_from clock n (next - n))
    → Puts a d (cart_added clock log c e (next - e))
unfolding cart_added
cart_put a b d clock log c e next n q p w =
    let rs : List Bound = reported_from e (next - e) (times_of c log) in
    let left : next - n ≡ next - e - length rs = omega (arith, q) in
    let same : waiting_from clock n (next - n) ≡ waiting_from clock (e + length rs) (next - e - length rs) =
    ap₂ (waiting_from clock) q left in
    puts_more a b d rs (waiting_from clock (e + length rs) (next - e - length rs)) p (subst (Puts b d) same w)

-- ---- all carts

module _ (firsts : List ℕ) (carts clock : ℕ) (log : List Report) where
  -- what is to be put from the i-th cart on
  abbrev pub along_from : ℕ → List Bound
  along_from i = added_along clock log (suc i) (get_or firsts i 0) (take (carts - i) (drop (suc i) firsts))

  -- all of it
  abbrev pub all_along : List Bound
  all_along = added_along clock log 1 (get_or firsts 0 0) (take carts (drop 1 firsts))

  -- at first that is all
  along_first : along_from 0 ≡ all_along
  along_first = let z : carts - 0 ≡ carts = omega arith in ap (λ (n : ℕ). added_along clock log 1 (get_or firsts 0 0) (take n (drop 1 firsts))) z

  -- the cart at hand, and those after it
  along_next : (i : ℕ) → i < carts → carts < length firsts
      → along_from i ≡ cart_added clock log (i + 1) (get_or firsts i 0 + 1) (get_or firsts (i + 1) 0 - (get_or firsts i 0 + 1)) ++ along_from (i + 1)
  unfolding added_along
  along_next i h l =
      let f : ℕ = get_or firsts i 0 in
      let g : ℕ = get_or firsts (suc i) 0 in
      let m : carts - i ≡ suc (carts - suc i) = omega arith in
      ap (λ (n : ℕ). added_along clock log (suc i) f (take n (drop (suc i) firsts))) m
      ∙ ap (λ (x : List ℕ). added_along clock log (suc i) f (take (suc (carts - suc i)) x)) (drop-cons firsts (suc i) 0 (omega arith))
      ∙ ap (λ (n : ℕ). cart_added clock log n (suc f) (g - suc f) ++ along_from (suc i)) (sym (add-one i))
      ∙ ap (λ (n : ℕ). cart_added clock log (i + 1) n (g - n) ++ along_from (suc i)) (sym (add-one f))
      ∙ ap (λ (n : ℕ). cart_added clock log (i + 1) (f + 1) (get_or firsts n 0 - (f + 1)) ++ along_from n) (sym (add-one i))

  -- none is left
  pub along_last : (i : ℕ) → carts ≤ i → along_from i ≡ []
  unfolding added_along
  along_last i h =
      let z : carts - i ≡ 0 = omega arith in ap (λ (n : ℕ). added_along clock log (suc i) (get_or firsts i 0) (take n (drop (suc i) firsts))) z

  -- before the i-th cart: n bounds are put
  pub record Walking (a b : BoundArrays) (n i : ℕ) : Type 0 where
    pub below : n ≤ get_or firsts i 0
    pub count : n + length (along_from i) ≡ length all_along
    pub putting : Putting a b all_along (along_from i)

  -- none is put yet
  pub first_walking : (a : BoundArrays) → Walking a a 0 0
  first_walking a = record { below = omega arith; count = omega (arith, ap length along_first); putting = putting_first a all_along (along_from 0) along_first }

  module _ (a b : BoundArrays) (n i : ℕ) (w : Walking a b n i) where
    -- those of a cart are put
    pub next_walking : i < carts → carts < length firsts → get_or firsts i 0 < get_or firsts (i + 1) 0 → (b' : BoundArrays)
        → Puts b b' (cart_added clock log (i + 1) (get_or firsts i 0 + 1) (get_or firsts (i + 1) 0 - (get_or firsts i 0 + 1)))
        → Walking a b' (n + (get_or firsts (i + 1) 0 - (get_or firsts i 0 + 1))) (i + 1)
    next_walking h l rise b' p =
        let m : ℕ = get_or firsts (i + 1) 0 - (get_or firsts i 0 + 1) in
        let one : List Bound = cart_added clock log (i + 1) (get_or firsts i 0 + 1) m in
        let many : length one ≡ m = cart_count clock log (i + 1) (get_or firsts i 0 + 1) m in
        record {
          below = omega (arith, w.below, rise);
          count = omega (arith, w.count, ap length (along_next i h l), length-append one (along_from (i + 1)), many);
          putting = putting_more w.putting b' one (along_from (i + 1)) (along_next i h l) p;
        }

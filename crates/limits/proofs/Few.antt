-- At most one order bound goes from a visit to each other cart, so that many moves and carts are needed for many order bounds. Assumes nothing.
use Rattle.std.proofs.lemmas.Bool.Decides.{nat_tests}
use Prim.Native.Nat.{ℕ, suc, ◌+◌, ◌*◌, ◌-◌, ◌≤◌, ◌<◌}
use native.Mathlib.Nat.{zero-add, suc-mul, mul_comm, add-mul}
use native.Mathlib.Omega.{arith}
use mathlib.Core.Path.{◌≡◌, refl, ap, sym, ◌∙◌, subst}
use mathlib.Core.Logic.{◌≢◌}
use mathlib.Core.Bool.{Bool, true, false, not, ◌&&◌, cond}
use mathlib.Core.List.{List, [], ◌∷◌, ◌++◌, map}
use lib.Dec.{leb, ltb, eqb}
use lib.ListN.{length}
use borrow.Author.Tests.{eqb-true, eqb-false, eq-eqb, le-leb}
use Rattle.tables.proofs.PathRecords.{paths_in_length}
use Rattle.tables.specs.Arrays.{paths_in}
use Rattle.network.specs.Events.{Visit, visits_after, visits_of}
use Rattle.limits.specs.declared.row.Stop.{Stop}
use Rattle.limits.specs.Counts.{total, moves_after, moves, stop, stops, counts, later_carts, not_last, orders_from, orders_among}
use Rattle.limits.proofs.RowBounds.{goes_no_further}
use Rattle.limits.proofs.Counts.{visits_after_moves}

-- ---- from one visit

-- a visit of v's own cart is not counted
pub own_cart : (v u : Stop) (k : ℕ) → v.cart ≡ u.cart → counts v k u ≡ false
unfolding counts
own_cart v u k h =
    ap (λ (b : Bool). not b && not (eqb k u.cart) && (ltb v.step u.step && eqb v.cell u.cell)) (eq-eqb v.cart u.cart h)

-- nor one of the cart counted last
pub counted_cart : (v u : Stop) (k : ℕ) → k ≡ u.cart → counts v k u ≡ false
unfolding counts
counted_cart v u k h = grind (arith, nat_tests)

-- a visit that is not counted is passed over
pub passed_over : (v u : Stop) (k : ℕ) (us : List Stop) → counts v k u ≡ false → later_carts v k (u ∷ us) ≡ later_carts v k us
unfolding later_carts
passed_over v u k us e = ap (λ (b : Bool). cond b (suc (later_carts v u.cart us)) (later_carts v k us)) e

-- so are all of v's own cart
own_passed : (v : Stop) (k n : ℕ) (vs : List Visit) (rest : List Stop) → v.cart ≡ n → later_carts v k (map (stop n) vs ++ rest) ≡ later_carts v k rest
unfolding stop
own_passed v k n [] rest h = refl
own_passed v k n (x ∷ xs) rest h =
    passed_over v (stop n x) k (map (stop n) xs ++ rest) (own_cart v (stop n x) k h) ∙ own_passed v k n xs rest h

-- and all of the cart counted last
last_passed : (v : Stop) (n : ℕ) (vs : List Visit) (rest : List Stop) → later_carts v n (map (stop n) vs ++ rest) ≡ later_carts v n rest
unfolding stop
last_passed v n [] rest = refl
last_passed v n (x ∷ xs) rest =
    passed_over v (stop n x) n (map (stop n) xs ++ rest) (counted_cart v (stop n x) n refl) ∙ last_passed v n xs rest

-- those of one cart count at most once
one_more : (v : Stop) (k n : ℕ) (vs : List Visit) (rest : List Stop) (most : ℕ) → ((m : ℕ) → later_carts v m rest ≤ most)
    → later_carts v k (map (stop n) vs ++ rest) ≤ suc most
unfolding later_carts stop
one_more v k n [] rest most h = omega (arith, h k)
one_more v k n (x ∷ xs) rest most h = by (counts v k (stop n x)) (one_more v k n xs rest most h)
  where
    by : (b : Bool) → later_carts v k (map (stop n) xs ++ rest) ≤ suc most
        → cond b (suc (later_carts v n (map (stop n) xs ++ rest))) (later_carts v k (map (stop n) xs ++ rest)) ≤ suc most
    by true g = omega (arith, h n, last_passed v n xs rest)
    by false g = g

-- no more than there are carts
carts_most : (v : Stop) (k n : ℕ) (ps : List (List ℕ)) → later_carts v k (stops n ps) ≤ length ps
unfolding stops later_carts
carts_most v k n [] = omega arith
carts_most v k n (p ∷ ps) = one_more v k n (visits_of p) (stops (suc n) ps) (length ps) (λ m. carts_most v m (suc n) ps)

-- than other carts, where v's is among them
others_most : (v : Stop) (k n : ℕ) (ps : List (List ℕ)) → n ≤ v.cart → v.cart < n + length ps → later_carts v k (stops n ps) < length ps
unfolding stops
others_most v k n [] l h = absurd (omega arith)
others_most v k n (p ∷ ps) l h = by (eqb v.cart n) refl (λ m g. others_most v m (suc n) ps g (omega arith))
  where
    by : (b : Bool) → eqb v.cart n ≡ b → ((m : ℕ) → suc n ≤ v.cart → later_carts v m (stops (suc n) ps) < length ps)
        → later_carts v k (map (stop n) (visits_of p) ++ stops (suc n) ps) < suc (length ps)
    by true e rest = omega (arith, own_passed v k n (visits_of p) (stops (suc n) ps) (eqb-true v.cart n e), carts_most v k (suc n) ps)
    by false e rest =
        let apart : v.cart ≢ n = eqb-false v.cart n e in
        let after : suc n ≤ v.cart = omega arith in
        omega (arith, one_more v k n (visits_of p) (stops (suc n) ps) (length ps - 1) (λ m. omega (arith, rest m after)))

-- ---- from all visits

-- those of one cart, before those of others: all but the last give at most so many
cart_most : (all : List Stop) (most n : ℕ) → ((x : Visit) → later_carts (stop n x) 0 all < most) → (x : Visit) (xs : List Visit) (rest : List Stop)
    → ((y : Visit) → not_last (stop n y) rest ≡ false)
    → orders_from all (map (stop n) (x ∷ xs) ++ rest) + length xs ≤ length xs * most + orders_from all rest
unfolding orders_from not_last stop
cart_most all most n h x [] rest g = omega (arith, ap (λ (b : Bool). cond b (later_carts (stop n x) 0 all) 0) (g x))
cart_most all most n h x (y ∷ ys) rest g =
    omega (
      arith,
      ap (λ (b : Bool). cond b (later_carts (stop n x) 0 all) 0) (eq-eqb n n refl),
      h x,
      suc-mul (length ys) most,
      cart_most all most n h y ys rest g,
    )

-- those of all carts
stops_most : (all : List Stop) (most : ℕ) (n : ℕ) (ps : List (List ℕ)) → ((m : ℕ) (x : Visit) → n ≤ m → m < n + length ps → later_carts (stop m x) 0 all < most)
    → orders_from all (stops n ps) + total moves ps ≤ total moves ps * most
unfolding stop stops total visits_of moves orders_from
stops_most all most n [] h = omega arith
stops_most all most n (p ∷ ps) h =
    by p (stops_most all most (suc n) ps (λ m x l g. h m x (omega arith) (omega arith)))
  where
    rest : List Stop
    rest = stops (suc n) ps

    by : (q : List ℕ) → orders_from all rest + total moves ps ≤ total moves ps * most
        → orders_from all (map (stop n) (visits_of q) ++ rest) + (moves q + total moves ps) ≤ (moves q + total moves ps) * most
    by [] g = subst (λ (m : ℕ). orders_from all rest + m ≤ m * most) (sym (zero-add (total moves ps))) g
    by (c ∷ cs) g =
        let same : length (visits_after c 1 cs) ≡ moves_after c cs = visits_after_moves cs c 1 in
        omega (
          arith,
          add-mul (moves_after c cs) (total moves ps) most,
          subst (λ (m : ℕ). orders_from all (map (stop n) (record { step = 0; cell = c } ∷ visits_after c 1 cs) ++ rest) + m ≤ m * most + orders_from all rest) same
              (cart_most all most n (λ x. h n x (omega arith) (omega arith)) (record { step = 0; cell = c }) (visits_after c 1 cs) rest
              (λ y. goes_no_further (stop n y) (suc n) ps (omega arith))),
        )

-- for each move at most one to each other cart
pub orders_few : (ps : List (List ℕ)) → orders_among (stops 1 ps) + total moves ps ≤ length ps * total moves ps
unfolding stop orders_among
orders_few ps =
    omega (
      arith,
      mul_comm (length ps) (total moves ps),
      stops_most (stops 1 ps) (length ps) 1 ps (λ m x l h. others_most (stop m x) 0 1 ps l h),
    )

-- where as many would not be too many
pub few_enough : (n w : ℕ) (s : List ℕ) (m most : ℕ) → m ≡ total moves (paths_in n w s) → n * m ≤ most + m → true ≡ leb (orders_among (stops 1 (paths_in n w s))) most
few_enough n w s m most e h =
    let ps : List (List ℕ) = paths_in n w s in
    let known : orders_among (stops 1 ps) + m ≤ n * m =
    subst (λ (c : ℕ). orders_among (stops 1 ps) + m ≤ c * m) (paths_in_length n w s) (subst (λ (x : ℕ). orders_among (stops 1 ps) + x ≤ length ps * x) (sym e) (orders_few ps)) in
    sym (le-leb (orders_among (stops 1 ps)) most (omega arith))

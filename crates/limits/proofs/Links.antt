-- Visits linked by their cells' remainders: a visit to v's cell is among those of its remainder, so that no other need be looked at.
-- Assumes nothing.
use Rattle.std.proofs.lemmas.Bool.Decides.{nat_tests}
use Prim.Native.Nat.{ℕ, zero, suc, ◌+◌, ◌-◌, ◌%◌, ◌≤◌, ◌<◌}
use native.Mathlib.Nat.{eq-or-lt_of_le}
use native.Mathlib.Numerals.{add-one}
use native.Mathlib.Omega.{arith}
use mathlib.Core.Path.{◌≡◌, refl, ap, sym, ◌∙◌, subst}
use mathlib.Core.Logic.{◌≢◌, ⊎_elim}
use mathlib.Core.Bool.{Bool, true, false, cond}
use mathlib.Core.List.{List, [], ◌∷◌}
use lib.Dec.{eqb}
use lib.ListN.{length, get_or, set}
use lib.Seq.{get_or-set_same, get_or-set_other}
use borrow.Author.Tests.{eqb-true, eqb-false}
use Rattle.network.specs.Bounds.{no_earlier}
use Rattle.limits.specs.declared.row.Stop.{Stop}
use Rattle.limits.specs.Counts.{counts, stop_at, stops_in, left_by, left_in, LinkedBy, Linked}
use Rattle.limits.specs.Row.{Entry, later_bounds, entry_at, placed, entry_in, row_in}

-- ---- where the next of a remainder is

-- no more are left than there are
pub left_most : (out : ℕ → ℕ → Bool) (cells : List ℕ) (b l i : ℕ) → left_by out cells b l i ≤ l
unfolding left_by
left_most out cells b zero i = omega arith
left_most out cells b (suc l) i = by (eqb (get_or cells i 0 % 1024) b) (out i (left_by out cells b l (suc i))) (left_most out cells b l (suc i))
  where
    by : (t o : Bool) → left_by out cells b l (suc i) ≤ l → cond t (cond o (left_by out cells b l (suc i)) (suc l)) (left_by out cells b l (suc i)) ≤ suc l
    by true true h = omega arith
    by true false h = omega arith
    by false o h = omega arith

-- what is found is of that remainder
pub left_there : (cells : List ℕ) (b n l i : ℕ) → i + l ≡ n → 0 < left_in cells b l i → get_or cells (n - left_in cells b l i) 0 % 1024 ≡ b
unfolding left_by
left_there cells b n zero i e h = absurd (omega arith)
left_there cells b n (suc l) i e h = by (eqb (get_or cells i 0 % 1024) b) refl h (left_there cells b n l (suc i) (omega arith))
  where
    by : (t : Bool) → eqb (get_or cells i 0 % 1024) b ≡ t → 0 < cond t (suc l) (left_in cells b l (suc i))
        → (0 < left_in cells b l (suc i) → get_or cells (n - left_in cells b l (suc i)) 0 % 1024 ≡ b)
        → get_or cells (n - cond t (suc l) (left_in cells b l (suc i))) 0 % 1024 ≡ b
    by true q h rest =
        let here : n - suc l ≡ i = omega arith in
        ap (λ (m : ℕ). get_or cells m 0 % 1024) here ∙ eqb-true (get_or cells i 0 % 1024) b q
    by false q h rest = rest h

-- a visit to another cell is not counted
pub other_cell : (v u : Stop) (k : ℕ) → v.cell ≢ u.cell → counts v k u ≡ false
unfolding counts
other_cell v u k h = grind (arith, nat_tests)

-- those before the next of v's remainder are passed over
pub left_skip : (numbers times cells : List ℕ) (v : Entry) (k b n l i : ℕ) → v.visit.cell % 1024 ≡ b → i + l ≡ n
    → later_bounds v k (row_in numbers times cells l i) ≡ later_bounds v k (row_in numbers times cells (left_in cells b l i) (n - left_in cells b l i))
unfolding left_by later_bounds row_in placed entry_at entry_in stops_in stop_at
left_skip numbers times cells v k b n zero i r e = refl
left_skip numbers times cells v k b n (suc l) i r e =
    by (eqb (get_or cells i 0 % 1024) b) refl (left_skip numbers times cells v k b n l (suc i) r (omega arith))
  where
    rest : List Entry
    rest = row_in numbers times cells l (suc i)

    by : (t : Bool) → eqb (get_or cells i 0 % 1024) b ≡ t
        → later_bounds v k rest ≡ later_bounds v k (row_in numbers times cells (left_in cells b l (suc i)) (n - left_in cells b l (suc i)))
        → later_bounds v k (entry_in numbers times cells i ∷ rest)
        ≡ later_bounds v k (row_in numbers times cells (cond t (suc l) (left_in cells b l (suc i))) (n - cond t (suc l) (left_in cells b l (suc i))))
    by true q more =
        let here : i ≡ n - suc l = omega arith in
        ap (λ (m : ℕ). later_bounds v k (row_in numbers times cells (suc l) m)) here
    by false q more =
        let u : Stop = stop_at numbers times cells i in
        let apart : v.visit.cell ≢ u.cell = λ s. eqb-false (get_or cells i 0 % 1024) b q (ap (λ (x : ℕ). x % 1024) (sym s) ∙ r) in
        ap (λ (t : Bool). cond t (no_earlier (v.event + 1) (entry_at i u - 1) ∷ later_bounds v u.cart rest) (later_bounds v k rest)) (other_cell v.visit u k apart) ∙ more

-- ---- linking

-- a number put in a list is no more than k, as the others
pub set_most : (xs : List ℕ) (r v k : ℕ) → v ≤ k → (j : ℕ) → get_or xs j 0 ≤ k → get_or (set xs r v) j 0 ≤ k
set_most [] r v k g j h = h
set_most (x ∷ xs) zero v k g zero h = g
set_most (x ∷ xs) zero v k g (suc j) h = h
set_most (x ∷ xs) (suc r) v k g zero h = h
set_most (x ∷ xs) (suc r) v k g (suc j) h = set_most xs r v k g j h

module _ (out : ℕ → ℕ → Bool) (cells heads nexts : List ℕ) (n : ℕ) where
  -- no visit is linked yet
  pub none_linked : ((b : ℕ) → b < 1024 → get_or heads b 0 ≡ 0) → LinkedBy out cells heads nexts n 0
  unfolding left_by
  none_linked h = record { heads_are = h; nexts_are = λ l k. absurd (omega arith) }

  -- one more, before those that are
  module _ (left : ℕ) (k : LinkedBy out cells heads nexts n left) (l : left < n) (r : ℕ) (q : get_or cells (n - suc left) 0 % 1024 ≡ r) (small : r < 1024) where
    -- the first of each remainder, unless the visit is left out
    first_of : r < length heads → (heads' : List ℕ) → heads' ≡ cond (out (n - suc left) (get_or heads r 0)) heads (set heads r (suc left))
        → (b : ℕ) → b < 1024 → get_or heads' b 0 ≡ left_by out cells b (suc left) (n - suc left)
    unfolding left_by
    first_of wide heads' z b h = by (eqb (get_or cells (n - suc left) 0 % 1024) b) refl (out (n - suc left) (get_or heads r 0)) refl
      where
        next : ℕ → ℕ
        next m = left_by out cells m left (suc (n - suc left))

        same : (m : ℕ) → m < 1024 → get_or heads m 0 ≡ next m
        same m w = let place : n - left ≡ suc (n - suc left) = omega arith in k.heads_are m w ∙ ap (λ (x : ℕ). left_by out cells m left x) place

        by : (t : Bool) → eqb (get_or cells (n - suc left) 0 % 1024) b ≡ t → (o : Bool) → out (n - suc left) (get_or heads r 0) ≡ o
            → get_or heads' b 0 ≡ cond t (cond (out (n - suc left) (next b)) (next b) (suc left)) (next b)
        by true e o f =
            let here : b ≡ r = sym (eqb-true (get_or cells (n - suc left) 0 % 1024) b e) ∙ q in
            let asked : out (n - suc left) (next b) ≡ o = ap (out (n - suc left)) (sym (same b h) ∙ ap (λ (x : ℕ). get_or heads x 0) here) ∙ f in
            ap (λ (x : List ℕ). get_or x b 0) (z ∙ ap (λ (x : Bool). cond x heads (set heads r (suc left))) f) ∙ put o here ∙ sym (ap (λ (x : Bool). cond x (next b) (suc left)) asked)
          where
            put : (o : Bool) → b ≡ r → get_or (cond o heads (set heads r (suc left))) b 0 ≡ cond o (next b) (suc left)
            put true here = same b h
            put false here = ap (λ (m : ℕ). get_or (set heads r (suc left)) m 0) here ∙ get_or-set_same heads r (suc left) 0 wide
        by false e o f =
            let other : b ≢ r = λ s. eqb-false (get_or cells (n - suc left) 0 % 1024) b e (q ∙ sym s) in
            ap (λ (x : List ℕ). get_or x b 0) (z ∙ ap (λ (x : Bool). cond x heads (set heads r (suc left))) f) ∙ kept o other ∙ same b h
          where
            kept : (o : Bool) → b ≢ r → get_or (cond o heads (set heads r (suc left))) b 0 ≡ get_or heads b 0
            kept true other = refl
            kept false other = get_or-set_other heads r b (suc left) 0 other

    -- the next to each
    next_of : n ≤ length nexts → (m : ℕ) → m < suc left
        → get_or (set nexts (n - suc left) (get_or heads r 0)) (n - suc m) 0 ≡ left_by out cells (get_or cells (n - suc m) 0 % 1024) m (n - m)
    next_of room m h = ⊎_elim here there (eq-or-lt_of_le h)
      where
        here : suc m ≡ suc left → get_or (set nexts (n - suc left) (get_or heads r 0)) (n - suc m) 0 ≡ left_by out cells (get_or cells (n - suc m) 0 % 1024) m (n - m)
        here e =
            let same : m ≡ left = omega arith in
            ap (λ (x : ℕ). get_or (set nexts (n - suc left) (get_or heads r 0)) (n - suc x) 0) same
            ∙ get_or-set_same nexts (n - suc left) (get_or heads r 0) 0 (omega arith)
            ∙ k.heads_are r small
            ∙ ap (λ (x : ℕ). left_by out cells x left (n - left)) (sym q)
            ∙ ap (λ (x : ℕ). left_by out cells (get_or cells (n - suc x) 0 % 1024) x (n - x)) (sym same)

        there : suc m < suc left → get_or (set nexts (n - suc left) (get_or heads r 0)) (n - suc m) 0 ≡ left_by out cells (get_or cells (n - suc m) 0 % 1024) m (n - m)
        there e =
            let other : n - suc m ≢ n - suc left = λ s. omega arith in
            get_or-set_other nexts (n - suc left) (n - suc m) (get_or heads r 0) 0 other ∙ k.nexts_are m (omega arith)

  -- both, as the code counts
  pub one_linked : (left : ℕ) → LinkedBy out cells heads nexts n left → left < n → (r : ℕ) → get_or cells (n - (left + 1)) 0 % 1024 ≡ r → r < 1024 → r < length heads → n ≤ length nexts
      → (heads' : List ℕ) → heads' ≡ cond (out (n - (left + 1)) (get_or heads r 0)) heads (set heads r (left + 1))
      → LinkedBy out cells heads' (set nexts (n - (left + 1)) (get_or heads r 0)) n (left + 1)
  one_linked left k l r q small wide room heads' =
      subst
      (λ (m : ℕ). get_or cells (n - m) 0 % 1024 ≡ r → heads' ≡ cond (out (n - m) (get_or heads r 0)) heads (set heads r m) → LinkedBy out cells heads' (set nexts (n - m) (get_or heads r 0)) n m)
      (sym (add-one left)) (λ p z. record { heads_are = first_of left k l r p small wide heads' z; nexts_are = next_of left k l r p small room }) q

-- ---- the visits of a remainder, one after the other

module _ (numbers times cells heads nexts : List ℕ) (n : ℕ) (k : Linked cells heads nexts n n) where
  -- the first of a remainder
  head_is : (b : ℕ) → b < 1024 → get_or heads b 0 ≡ left_in cells b n 0
  head_is b h = let none : n - n ≡ 0 = omega arith in k.heads_are b h ∙ ap (λ (m : ℕ). left_in cells b n m) none

  module _ (v : Entry) where
    -- at its first visit all carts are yet to be counted
    pub walk_begins : (left : ℕ) → left ≡ get_or heads (v.visit.cell % 1024) 0
        → (left ≤ n) × (0 < left → get_or cells (n - left) 0 % 1024 ≡ v.visit.cell % 1024)
        × (later_bounds v 0 (row_in numbers times cells left (n - left)) ≡ later_bounds v 0 (row_in numbers times cells n 0))
    walk_begins left e =
        let b : ℕ = v.visit.cell % 1024 in
        let first : left ≡ left_in cells b n 0 = e ∙ head_is b (omega arith) in
        subst
        (λ (x : ℕ). (x ≤ n) × (0 < x → get_or cells (n - x) 0 % 1024 ≡ b) × (later_bounds v 0 (row_in numbers times cells x (n - x)) ≡ later_bounds v 0 (row_in numbers times cells n 0)))
        (sym first)
        (left_most _ cells b n 0, left_there cells b n n 0 (omega arith), sym (left_skip numbers times cells v 0 b n n 0 refl (omega arith)))

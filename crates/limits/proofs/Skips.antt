-- Visits of a cart passed over together: where its visits are not counted, the next that is looked at is one of another cart. Assumes nothing.
use Rattle.std.proofs.lemmas.Bool.Decides.{nat_tests}
use Prim.Native.Nat.{ℕ, zero, suc, ◌+◌, ◌*◌, ◌-◌, ◌%◌, ◌≤◌, ◌<◌}
use native.Mathlib.Nat.{eq-or-lt_of_le}
use native.Mathlib.Omega.{arith}
use mathlib.Core.Path.{◌≡◌, refl, ap, sym, ◌∙◌, subst}
use mathlib.Core.Logic.{◌≢◌, ◌⊎◌, inl, inr, ⊎_elim}
use mathlib.Core.Bool.{Bool, true, false, ◌||◌, cond}
use mathlib.Core.List.{List, ◌∷◌}
use lib.Dec.{T, ltb, eqb, ltb→lt, eqb→eq}
use mir.Facts.{and_yes, or_yes}
use lib.ListN.{length, get_or, set}
use lib.Seq.{get_or-set_same, get_or-set_other}
use Rattle.network.specs.Bounds.{Bound, no_earlier}
use Rattle.limits.specs.Counts.{counts, stop_at, stops_in, left_in, Linked, same_cart, skip_of, Skipped, Grouped, next_after}
use Rattle.limits.specs.Row.{Entry, later_bounds, placed, row_in}
use Rattle.limits.proofs.Few.{own_cart, counted_cart}
use Rattle.limits.proofs.CountSteps.{later_yes, later_no}
use Rattle.limits.proofs.Links.{left_most, left_there, left_skip}

-- ---- which are passed over

-- the next visit is before those linked already
pub next_low : (cells heads nexts : List ℕ) (n : ℕ) → Linked cells heads nexts n n → (l : ℕ) → l < n → get_or nexts (n - suc l) 0 ≤ l
next_low cells heads nexts n k l h = omega (arith, k.nexts_are l h, left_most (λ i m. false) cells (get_or cells (n - suc l) 0 % 1024) l (n - l))

module _ (numbers times cells heads nexts skips : List ℕ) (n : ℕ) (g : Grouped numbers cells heads nexts skips n) where
  -- the bounds to the last l visits
  abbrev last : Entry → ℕ → ℕ → List Bound
  last v k l = later_bounds v k (row_in numbers times cells l (n - l))

  -- a visit that is not counted is passed over
  last_passed : (v : Entry) (k l : ℕ) → l < n → counts v.visit k (stop_at numbers times cells (n - suc l)) ≡ false → last v k (suc l) ≡ last v k l
  unfolding later_bounds row_in placed stops_in
  last_passed v k l h e = grind (arith, nat_tests)

  -- what is known of m visits left where l were
  abbrev Goes : Entry → ℕ → ℕ → ℕ → Type 0
  Goes v k l m = (m ≤ l) × (0 < m → get_or cells (n - m) 0 % 1024 ≡ v.visit.cell % 1024) × (last v k l ≡ last v k m)

  -- from the next visit of the remainder on
  next_goes : (v : Entry) (k l : ℕ) → l < n → get_or cells (n - suc l) 0 % 1024 ≡ v.visit.cell % 1024 → Goes v k l (get_or nexts (n - suc l) 0)
  next_goes v k l h same =
      let b : ℕ = v.visit.cell % 1024 in
      let next : get_or nexts (n - suc l) 0 ≡ left_in cells b l (n - l) = g.linked.nexts_are l h ∙ ap (λ (x : ℕ). left_in cells x l (n - l)) same in
      subst (Goes v k l) (sym next)
      (left_most _ cells b l (n - l), left_there cells b n l (n - l) (omega arith), left_skip numbers times cells v k b n l (n - l) refl (omega arith))

  -- from the next of another cart on, where visits are off, which are not counted, and after such a one those of its cart are too
  module _ (v : Entry) (k : ℕ) (Off : ℕ → Type 0) (quiet : (u : ℕ) → Off u → counts v.visit k (stop_at numbers times cells u) ≡ false)
      (onward : (u : ℕ) → Off u → T (same_cart numbers n u (get_or nexts u 0)) → Off (n - get_or nexts u 0)) where
    skip_goes : (f l : ℕ) → l < f → l < n → get_or cells (n - suc l) 0 % 1024 ≡ v.visit.cell % 1024 → Off (n - suc l) → Goes v k l (get_or skips (n - suc l) 0)
    unfolding skip_of same_cart
    skip_goes zero l low h same off = absurd (omega arith)
    skip_goes (suc f) l low h same off =
        subst (Goes v k l) (sym (g.skipped.skips_are l h))
        (by (same_cart numbers n (n - suc l) (get_or nexts (n - suc l) 0)) refl (next_goes v k l h same) (λ m less there o. skip_goes f m (omega arith) (omega arith) there o))
      where
        after : (m : ℕ) → 0 < m → Off (n - m) → Goes v k l m
            → ((m : ℕ) → m < l → get_or cells (n - suc m) 0 % 1024 ≡ v.visit.cell % 1024 → Off (n - suc m) → Goes v k m (get_or skips (n - suc m) 0)) → Goes v k l (get_or skips (n - m) 0)
        after zero some o w go = absurd (omega arith)
        after (suc m) some o (fewer, there, bounds) go =
            let (less, here, more) = go m fewer (there some) o in
            (omega (arith, less), here, bounds ∙ last_passed v k m (omega arith) (quiet (n - suc m) o) ∙ more)

        by : (t : Bool) → same_cart numbers n (n - suc l) (get_or nexts (n - suc l) 0) ≡ t → Goes v k l (get_or nexts (n - suc l) 0)
            → ((m : ℕ) → m < l → get_or cells (n - suc m) 0 % 1024 ≡ v.visit.cell % 1024 → Off (n - suc m) → Goes v k m (get_or skips (n - suc m) 0))
            → Goes v k l (cond t (get_or skips (n - get_or nexts (n - suc l) 0) 0) (get_or nexts (n - suc l) 0))
        by true e w go =
            let m : ℕ = get_or nexts (n - suc l) 0 in
            let (some, _) = and_yes (ltb 0 m) (eqb (get_or numbers (n - suc l) 0) (get_or numbers (n - m) 0)) (subst T (sym e) tt) in
            after m (ltb→lt 0 m some) (onward (n - suc l) off (subst T (sym e) tt)) w go
        by false e w go = w

  -- ---- the visits of a remainder, those of a cart that is not counted passed over together

  -- v's own cart, or the one counted last, is not counted
  abbrev Uncounted : Entry → ℕ → ℕ → Type 0
  Uncounted v k u = (v.visit.cart ≡ get_or numbers u 0) ⊎ (k ≡ get_or numbers u 0)

  -- nor is its visit
  not_counted : (v : Entry) (k u : ℕ) → Uncounted v k u → counts v.visit k (stop_at numbers times cells u) ≡ false
  unfolding stop_at
  not_counted v k u (inl e) = own_cart v.visit (stop_at numbers times cells u) k e
  not_counted v k u (inr e) = counted_cart v.visit (stop_at numbers times cells u) k e

  -- nor the next, where that is its too
  next_uncounted : (v : Entry) (k u : ℕ) → Uncounted v k u → T (same_cart numbers n u (get_or nexts u 0)) → Uncounted v k (n - get_or nexts u 0)
  unfolding same_cart
  next_uncounted v k u un t = grind (arith, nat_tests)

  -- from the visit that is looked at next on
  after_goes : (v : Entry) (k l : ℕ) → l < n → get_or cells (n - suc l) 0 % 1024 ≡ v.visit.cell % 1024
      → Goes v k l (next_after nexts skips (n - suc l) (get_or numbers (n - suc l) 0) v.visit.cart k)
  unfolding next_after
  after_goes v k l h same =
      by (eqb v.visit.cart (get_or numbers (n - suc l) 0) || eqb k (get_or numbers (n - suc l) 0)) refl
    where
      i : ℕ
      i = get_or numbers (n - suc l) 0

      by : (t : Bool) → (eqb v.visit.cart i || eqb k i) ≡ t → Goes v k l (cond t (get_or skips (n - suc l) 0) (get_or nexts (n - suc l) 0))
      by true e =
          let un : Uncounted v k (n - suc l) =
          ⊎_elim (λ t. inl (eqb→eq v.visit.cart i t)) (λ t. inr (eqb→eq k i t)) (or_yes (eqb v.visit.cart i) (eqb k i) (subst T (sym e) tt)) in
          skip_goes v k (Uncounted v k) (not_counted v k) (next_uncounted v k) (suc l) l (omega arith) h same un
      by false e = next_goes v k l h same

  module _ (v : Entry) (left : ℕ) (some : 0 < left) (within : left ≤ n) (same : get_or cells (n - left) 0 % 1024 ≡ v.visit.cell % 1024) (k next : ℕ)
      (e : next ≡ next_after nexts skips (n - left) (get_or numbers (n - left) 0) v.visit.cart k) where
    -- the same, as the code counts
    on : Goes v k (left - 1) next
    on =
        let one : suc (left - 1) ≡ left = omega arith in
        subst (Goes v k (left - 1)) (sym e)
        (subst (λ (x : ℕ). get_or cells (n - x) 0 % 1024 ≡ v.visit.cell % 1024 → Goes v k (left - 1) (next_after nexts skips (n - x) (get_or numbers (n - x) 0) v.visit.cart k)) one
        (after_goes v k (left - 1) (omega arith)) same)

    -- fewer are left, and the next is of the same remainder
    pub skip_fewer : (next < left) × (0 < next → get_or cells (n - next) 0 % 1024 ≡ v.visit.cell % 1024)
    skip_fewer = let (l, r, _) = on in (omega (arith, l), r)

    -- the visit at hand is counted
    pub skip_counts : (m : ℕ) → counts v.visit m (stop_at numbers times cells (n - left)) ≡ true → k ≡ get_or numbers (n - left) 0
        → later_bounds v m (row_in numbers times cells left (n - left))
        ≡ no_earlier (v.event + 1) (3 * (n - left) + 3 - 2 * get_or numbers (n - left) 0 - 1) ∷ later_bounds v k (row_in numbers times cells next (n - next))
    skip_counts m q own =
        let (_, _, rest) = on in
        let all : left ≡ n - (n - left) = omega arith in
        let fewer : n - (n - left + 1) ≡ left - 1 = omega arith in
        let after : n - left + 1 ≡ n - (left - 1) = omega arith in
        let bound : Bound = no_earlier (v.event + 1) (3 * (n - left) + 3 - 2 * get_or numbers (n - left) 0 - 1) in
        ap (λ (x : ℕ). later_bounds v m (row_in numbers times cells x (n - left))) all
        ∙ later_yes numbers times cells v m n (n - left) (omega arith) q
        ∙ ap (λ (x : ℕ). bound ∷ later_bounds v x (row_in numbers times cells (n - (n - left + 1)) (n - left + 1))) (sym own)
        ∙ ap (λ (x : ℕ). bound ∷ later_bounds v k (row_in numbers times cells x (n - left + 1))) fewer
        ∙ ap (λ (x : ℕ). bound ∷ later_bounds v k (row_in numbers times cells (left - 1) x)) after
        ∙ ap (λ (bs : List Bound). bound ∷ bs) rest

    -- or not
    pub skip_passes : (m : ℕ) → counts v.visit m (stop_at numbers times cells (n - left)) ≡ false → k ≡ m
        → later_bounds v m (row_in numbers times cells left (n - left)) ≡ later_bounds v k (row_in numbers times cells next (n - next))
    skip_passes m q own =
        let (_, _, rest) = on in
        let all : left ≡ n - (n - left) = omega arith in
        let fewer : n - (n - left + 1) ≡ left - 1 = omega arith in
        let after : n - left + 1 ≡ n - (left - 1) = omega arith in
        ap (λ (x : ℕ). later_bounds v m (row_in numbers times cells x (n - left))) all
        ∙ later_no numbers times cells v m n (n - left) (omega arith) q
        ∙ ap (λ (x : ℕ). later_bounds v x (row_in numbers times cells (n - (n - left + 1)) (n - left + 1))) (sym own)
        ∙ ap (λ (x : ℕ). later_bounds v k (row_in numbers times cells x (n - left + 1))) fewer
        ∙ ap (λ (x : ℕ). later_bounds v k (row_in numbers times cells (left - 1) x)) after
        ∙ rest

-- ---- storing them

-- where the next is of the same cart there is one
pub same_some : (carts : List ℕ) (n u m : ℕ) → true ≡ same_cart carts n u m → 0 < m
unfolding same_cart
same_some carts n u m e = let (some, _) = and_yes (ltb 0 m) (eqb (get_or carts u 0) (get_or carts (n - m) 0)) (subst T e tt) in ltb→lt 0 m some

module _ (carts nexts : List ℕ) (n : ℕ) (low : (l : ℕ) → l < n → get_or nexts (n - suc l) 0 ≤ l) where
  -- none yet
  pub none_skipped : (skips : List ℕ) → Skipped carts nexts skips n 0
  none_skipped skips = record { skips_are = λ l h. absurd (omega arith) }

  -- what is stored at a place before those linked changes none of theirs
  skip_kept : (skips : List ℕ) (left x : ℕ) → left < n → (l : ℕ) → l < suc left → skip_of carts nexts skips n (n - suc l) ≡ skip_of carts nexts (set skips (n - suc left) x) n (n - suc l)
  unfolding skip_of same_cart
  skip_kept skips left x h l k =
      by (same_cart carts n (n - suc l) (get_or nexts (n - suc l) 0)) refl
    where
      m : ℕ
      m = get_or nexts (n - suc l) 0

      by : (t : Bool) → same_cart carts n (n - suc l) (get_or nexts (n - suc l) 0) ≡ t
          → cond t (get_or skips (n - m) 0) m ≡ cond t (get_or (set skips (n - suc left) x) (n - m) 0) m
      by true e =
          let (some, _) = and_yes (ltb 0 m) (eqb (get_or carts (n - suc l) 0) (get_or carts (n - m) 0)) (subst T (sym e) tt) in
          let other : n - m ≢ n - suc left = λ s. omega (arith, low l (omega arith), ltb→lt 0 m some) in
          sym (get_or-set_other skips (n - suc left) (n - m) x 0 other)
      by false e = refl

  -- one more
  one_suc : (skips : List ℕ) (left x : ℕ) → Skipped carts nexts skips n left → left < n → n ≤ length skips → x ≡ skip_of carts nexts skips n (n - suc left)
      → Skipped carts nexts (set skips (n - suc left) x) n (suc left)
  one_suc skips left x c h room e = record { skips_are = λ l k. ⊎_elim (here l) (there l) (eq-or-lt_of_le k) }
    where
      here : (l : ℕ) → suc l ≡ suc left → get_or (set skips (n - suc left) x) (n - suc l) 0 ≡ skip_of carts nexts (set skips (n - suc left) x) n (n - suc l)
      here l q =
          let same : l ≡ left = omega arith in
          ap (λ (y : ℕ). get_or (set skips (n - suc left) x) (n - suc y) 0) same
          ∙ get_or-set_same skips (n - suc left) x 0 (omega arith)
          ∙ e
          ∙ skip_kept skips left x h left (omega arith)
          ∙ ap (λ (y : ℕ). skip_of carts nexts (set skips (n - suc left) x) n (n - suc y)) (sym same)

      there : (l : ℕ) → suc l < suc left → get_or (set skips (n - suc left) x) (n - suc l) 0 ≡ skip_of carts nexts (set skips (n - suc left) x) n (n - suc l)
      there l q =
          let other : n - suc l ≢ n - suc left = λ s. omega arith in
          get_or-set_other skips (n - suc left) (n - suc l) x 0 other ∙ c.skips_are l (omega arith) ∙ skip_kept skips left x h l (omega arith)

  -- the same, as the code counts, backwards: the next visit is one of those after it
  pub low_at : (u : ℕ) → 0 < u → u ≤ n → get_or nexts (u - 1) 0 ≤ n - u
  low_at u some h = let at : n - suc (n - u) ≡ u - 1 = omega arith in subst (λ (y : ℕ). get_or nexts y 0 ≤ n - u) at (low (n - u) (omega arith))

  pub one_skipped : (skips : List ℕ) (u : ℕ) → Skipped carts nexts skips n (n - u) → 0 < u → u ≤ n → n ≤ length skips → (m : ℕ) → m ≡ get_or nexts (u - 1) 0
      → (t : Bool) → t ≡ same_cart carts n (u - 1) m → (x : ℕ) → x ≡ cond t (get_or skips (n - m) 0) (get_or nexts (u - 1) 0)
      → Skipped carts nexts (set skips (u - 1) x) n (n - (u - 1))
  unfolding skip_of
  one_skipped skips u c some h room m e t q x z =
      let v : ℕ = u - 1 in
      let at : n - suc (n - u) ≡ v = omega arith in
      let more : suc (n - u) ≡ n - v = omega arith in
      subst (Skipped carts nexts (set skips v x) n) more
      (subst (λ (y : ℕ). x ≡ skip_of carts nexts skips n y → Skipped carts nexts (set skips y x) n (suc (n - u))) at (one_suc skips (n - u) x c (omega arith) room)
      (z ∙ ap (λ (b : Bool). cond b (get_or skips (n - m) 0) (get_or nexts v 0)) q ∙ ap (λ (k : ℕ). cond (same_cart carts n v k) (get_or skips (n - k) 0) (get_or nexts v 0)) e))

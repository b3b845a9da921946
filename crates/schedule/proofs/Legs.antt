-- The legs of a list of items: each is that of a bound with the item's number. Assumes nothing.
use Rattle.std.specs.Prelude.{Option, None, Some}
use Prim.Native.Nat.{ℕ, suc, ◌+◌}
use mathlib.Core.Path.{◌≡◌, refl, ap, ap₂, sym, ◌∙◌, subst}
use mathlib.Core.Logic.{⊎_elim}
use mathlib.Core.Bool.{Bool, true, false, cond}
use mathlib.Core.List.Memᴰ
use mathlib.Core.List.{List, [], ◌∷◌, Memᴰ}
use lib.Dec.{T, eqb, eqb→eq}
use lib.ListN.{length}
use Rattle.laws.proofs.Options.{none-ne-some, some-injective}
use Rattle.floor.specs.Plan.{Plan}
use Rattle.network.specs.Bounds.{Bound, bounds}
use Rattle.schedule.specs.Book.{Book}
use Rattle.schedule.specs.Added.{added_bounds, all_bounds, Numbered, numbered, added_numbered, numbered_bounds}
use Rattle.schedule.specs.Chain.{Item, Leg, leg, leg_of, legs, closed_below_0}

-- ---- a list of items

-- one item more
pub legs_cons : (bs : List Numbered) (i : Item) (is : List Item) (l : Leg) (ls : List Leg) → leg_of bs i ≡ Some l → legs bs is ≡ Some ls
    → legs bs (i ∷ is) ≡ Some (l ∷ ls)
unfolding legs
legs_cons bs i is l ls e f = by (leg_of bs i) (legs bs is) e f
  where
    by : (o : Option Leg) (q : Option (List Leg)) → o ≡ Some l → q ≡ Some ls
        → ◌≡◌ {A = Option (List Leg)} (elim o [ None ↦ None | Some x ↦ elim q [ None ↦ None | Some xs ↦ Some (x ∷ xs) ] ]) (Some (l ∷ ls))
    by None q e f = absurd (none-ne-some _ e)
    by (Some x) None e f = absurd (none-ne-some _ f)
    by (Some x) (Some xs) e f = ap₂ (λ (y : Leg) (ys : List Leg). Some (y ∷ ys)) (some-injective _ _ e) (some-injective _ _ f)

-- and one less: what a list of items says, taken apart
legs_parts : (bs : List Numbered) (i : Item) (is : List Item) (ls : List Leg) → legs bs (i ∷ is) ≡ Some ls
    → (l : Leg) × (more : List Leg) × (leg_of bs i ≡ Some l) × (legs bs is ≡ Some more) × (ls ≡ l ∷ more)
unfolding legs
legs_parts bs i is ls e = by (leg_of bs i) (legs bs is) refl refl e
  where
    by : (o : Option Leg) (q : Option (List Leg)) → leg_of bs i ≡ o → legs bs is ≡ q
        → ◌≡◌ {A = Option (List Leg)} (elim o [ None ↦ None | Some x ↦ elim q [ None ↦ None | Some xs ↦ Some (x ∷ xs) ] ]) (Some ls)
        → (l : Leg) × (more : List Leg) × (leg_of bs i ≡ Some l) × (legs bs is ≡ Some more) × (ls ≡ l ∷ more)
    by None q a c e = absurd (none-ne-some _ e)
    by (Some x) None a c e = absurd (none-ne-some _ e)
    by (Some x) (Some xs) a c e = (x, xs, a, c, sym (some-injective _ _ e))

-- there is a leg for each item
pub legs_long : (bs : List Numbered) (is : List Item) (ls : List Leg) → legs bs is ≡ Some ls → length ls ≡ length is
unfolding legs
legs_long bs [] ls e = ap length (sym (some-injective _ _ e))
legs_long bs (i ∷ is) ls e = let (l, more, f, g, h) = legs_parts bs i is ls e in ap length h ∙ ap suc (legs_long bs is more g)

-- a chain's items have legs
pub closed_legs : (o : Option (List Leg)) → T (closed_below_0 o) → (ls : List Leg) × (o ≡ Some ls)
unfolding closed_below_0
closed_legs None t = absurd t
closed_legs (Some ls) t = (ls, refl)

-- ---- an item's bound

-- a bound with the item's number, whose leg in the item's direction is l
pub record ItemBound (bs : List Numbered) (i : Item) (l : Leg) : Type 0 where
  pub numbered : Numbered
  pub there : Memᴰ numbered bs
  pub same_number : numbered.number ≡ i.number
  pub its_leg : leg numbered.bound i.direction ≡ Some l

item_bound : (bs : List Numbered) (i : Item) (l : Leg) → leg_of bs i ≡ Some l → ItemBound bs i l
unfolding leg_of
item_bound [] i l e = absurd (none-ne-some _ e)
item_bound (x ∷ bs) i l e = by (eqb x.number i.number) refl e (item_bound bs i l)
  where
    by : (t : Bool) → eqb x.number i.number ≡ t → cond t (leg x.bound i.direction) (leg_of bs i) ≡ Some l
        → (leg_of bs i ≡ Some l → ItemBound bs i l) → ItemBound (x ∷ bs) i l
    by true q e more =
        record { numbered = x; there = Memᴰ.head refl; same_number = eqb→eq x.number i.number (subst T (sym q) tt); its_leg = e }
    by false q e more =
        let b : ItemBound bs i l = more e in
        record { numbered = b.numbered; there = Memᴰ.tail b.there; same_number = b.same_number; its_leg = b.its_leg }

-- each item of a list with legs has one
pub items_bounds : (bs : List Numbered) (is : List Item) (ls : List Leg) → legs bs is ≡ Some ls → (i : Item) → Memᴰ i is
    → (l : Leg) × ItemBound bs i l
items_bounds bs [] ls e i m = absurd (Memᴰ.not-nil m)
items_bounds bs (x ∷ is) ls e i m =
    let (y, more, f, g, h) = legs_parts bs x is ls e in
    ⊎_elim (λ (q : i ≡ x). subst (λ (z : Item). (l : Leg) × ItemBound bs z l) (sym q) (y, item_bound bs x y f)) (items_bounds bs is more g i)
    (Memᴰ.cases_cons m)

-- and each leg is that of an item
pub legs_bounds : (bs : List Numbered) (is : List Item) (ls : List Leg) → legs bs is ≡ Some ls → (l : Leg) → Memᴰ l ls
    → (i : Item) × ItemBound bs i l
unfolding legs
legs_bounds bs [] ls e l m = absurd (Memᴰ.not-nil (subst (Memᴰ l) (sym (some-injective _ _ e)) m))
legs_bounds bs (i ∷ is) ls e l m =
    let (y, more, f, g, h) = legs_parts bs i is ls e in
    ⊎_elim (λ (q : l ≡ y). subst (λ (z : Leg). (i : Item) × ItemBound bs i z) (sym q) (i, item_bound bs i y f)) (legs_bounds bs is more g l)
    (Memᴰ.cases_cons (subst (Memᴰ l) h m))

-- ---- the numbered bounds

-- the numbered bounds are the bounds
own_bound : (bs : List Bound) (i : ℕ) (x : Numbered) → Memᴰ x (numbered i bs) → Memᴰ x.bound bs
unfolding numbered
own_bound [] i x m = absurd (Memᴰ.not-nil m)
own_bound (b ∷ bs) i x m =
    ⊎_elim (λ (e : x ≡ record { number = i; bound = b }). Memᴰ.head (ap (λ (y : Numbered). y.bound) e)) (λ t. Memᴰ.tail (own_bound bs (suc i) x t))
    (Memᴰ.cases_cons m)

pub numbered_bound : (p : Plan) (b : Book) (x : Numbered) → Memᴰ x (numbered_bounds p b) → Memᴰ x.bound (all_bounds p b)
unfolding numbered_bounds all_bounds added_numbered
numbered_bound p b x m =
    ⊎_elim (λ h. Memᴰ.append_left (added_bounds p b) (own_bound (bounds p) 0 x h))
    (λ h. let (c, k, e) = Memᴰ.of_map (λ (b : Bound). record { number = 10_000 + b.to; bound = b }) (added_bounds p b) h in
    Memᴰ.append_right (bounds p) (subst (λ (y : Numbered). Memᴰ y.bound (added_bounds p b)) e k))
    (Memᴰ.append_cases (numbered 0 (bounds p)) m)

-- The sums after k passes are the greatest over walks from the start of at most k arcs. Assumes nothing.
use Rattle.std.specs.Prelude.{Option, None, Some}
use Prim.Native.Nat.{ℕ, zero, suc, ◌≤◌, ◌<◌}
use native.Mathlib.Omega.{arith}
use mathlib.Core.Path.{◌≡◌, refl, ap, sym, ◌∙◌, subst}
use mathlib.Core.Logic.{◌⊎◌, inl, inr, ⊎_elim}
use mathlib.Core.Bool.{Bool, true, false, cond}
use mathlib.Core.List.Memᴰ
use mathlib.Core.List.{List, [], ◌∷◌, Memᴰ}
use lib.IntN.{ℤ, pos, ◌+ℤ◌}
use lib.Signed.{lt_z, ◌≤ℤ◌}
use lib.ListN.{length, get_or, set, length-set, length-replicate}
use lib.Seq.{get_or-set_same}
use Rattle.laws.proofs.Options.{none-ne-some, some-injective}
use Rattle.laws.proofs.Members.{none_there}
use Rattle.walks.specs.Walks.{Arc, Walk, stay, go, WalkWithin, Greatest}
use Rattle.walks.specs.Passes.{Sums, greater, plus, raise, raise_all, pass, at_start, sums}
use Rattle.laws.proofs.Signed.{signed, sum}

-- a sum that is there, and is at least w
pub record AtLeast (o : Option ℤ) (w : ℤ) : Type 0 where
  pub value : ℤ
  pub there : o ≡ Some value
  pub least : w ≤ℤ value

-- what is at least w is so of the value itself
pub least_of : (x w : ℤ) → AtLeast (Some x) w → w ≤ℤ x
least_of x w h = omega (signed, some-injective _ _ h.there, h.least)

pub at_least : (x w : ℤ) → w ≤ℤ x → AtLeast (Some x) w
at_least x w h = record { value = x; there = refl; least = h }

-- ---- the greater of two

greater_left : (o q : Option ℤ) (w : ℤ) → AtLeast o w → AtLeast (greater o q) w
unfolding greater
greater_left None q w h = absurd (none-ne-some _ h.there)
greater_left (Some x) None w h = h
greater_left (Some x) (Some y) w h = by (lt_z x y) refl (least_of x w h)
  where
    by : (b : Bool) → lt_z x y ≡ b → w ≤ℤ x → AtLeast (cond b (Some y) (Some x)) w
    by true e l = at_least y w (omega signed)
    by false e l = at_least x w l

greater_right : (o q : Option ℤ) (w : ℤ) → AtLeast q w → AtLeast (greater o q) w
unfolding greater
greater_right None q w h = h
greater_right (Some x) None w h = absurd (none-ne-some _ h.there)
greater_right (Some x) (Some y) w h = by (lt_z x y) refl (least_of y w h)
  where
    by : (b : Bool) → lt_z x y ≡ b → w ≤ℤ y → AtLeast (cond b (Some y) (Some x)) w
    by true e l = at_least y w l
    by false e l = at_least x w (omega signed)

-- it is one of the two
pub one_of : (o q : Option ℤ) (x : ℤ) → greater o q ≡ Some x → (o ≡ Some x) ⊎ (q ≡ Some x)
unfolding greater
one_of None q x e = inr e
one_of (Some a) None x e = inl e
one_of (Some a) (Some b) x e = by (lt_z a b) e
  where
    by : (t : Bool) → cond t (Some b) (Some a) ≡ Some x → (Some a ≡ Some x) ⊎ (Some b ≡ Some x)
    by true e = inr e
    by false e = inl e

-- ---- a sum and one arc more

plus_least : (o : Option ℤ) (w a : ℤ) → AtLeast o w → AtLeast (plus o a) (w +ℤ a)
unfolding plus
plus_least None w a h = absurd (none-ne-some _ h.there)
plus_least (Some x) w a h = let l = least_of x w h in at_least (x +ℤ a) (w +ℤ a) (omega (signed, sum x a, sum w a))

pub plus_from : (o : Option ℤ) (a x : ℤ) → plus o a ≡ Some x → (w : ℤ) × (o ≡ Some w) × (x ≡ w +ℤ a)
unfolding plus
plus_from None a x e = absurd (none-ne-some _ e)
plus_from (Some w) a x e = (w, refl, sym (some-injective _ _ e))

-- what stands at v after a store at i
pub set_cases : {A : Type 0} (l : List A) (i : ℕ) (a : A) (v : ℕ) (d : A) → ((v ≡ i) × (get_or (set l i a) v d ≡ a)) ⊎ (get_or (set l i a) v d ≡ get_or l v d)
set_cases [] i a v d = inr refl
set_cases (x ∷ xs) zero a zero d = inl (refl, refl)
set_cases (x ∷ xs) zero a (suc v) d = inr refl
set_cases (x ∷ xs) (suc i) a zero d = inr refl
set_cases (x ∷ xs) (suc i) a (suc v) d = ⊎_elim (λ c. inl (ap suc c.0, c.1)) inr (set_cases xs i a v d)

-- ---- there is a sum, or none, for every event

pub raise_length : (arcs : List Arc) (old new : Sums) → length (raise_all arcs old new) ≡ length new
unfolding raise_all raise
raise_length [] old new = refl
raise_length (a ∷ as') old new = raise_length as' old (raise old new a) ∙ length-set new _ _

pub sums_length : (arcs : List Arc) (n k : ℕ) → length (sums arcs n k) ≡ n
unfolding sums pass at_start
sums_length arcs zero zero = refl
sums_length arcs (suc n) zero = ap suc (length-replicate n None)
sums_length arcs n (suc k) = raise_length arcs (sums arcs n k) (sums arcs n k) ∙ sums_length arcs n k

-- ---- a pass brings what each arc adds, and lowers nothing

module _ (old : Sums) where
  -- what an arc brings to its end
  abbrev brought : Arc → Option ℤ
  brought a = plus (get_or old a.from None) a.adds

  raise_keeps : (new : Sums) (a : Arc) (v : ℕ) (w : ℤ) → AtLeast (get_or new v None) w → AtLeast (get_or (raise old new a) v None) w
  unfolding raise
  raise_keeps new a v w h =
      ⊎_elim
      (λ c. subst (λ (o : Option ℤ). AtLeast o w) (sym c.1)
      (greater_left (get_or new a.to None) (brought a) w (subst (λ (u : ℕ). AtLeast (get_or new u None) w) c.0 h)))
      (λ c. subst (λ (o : Option ℤ). AtLeast o w) (sym c) h)
      (set_cases new a.to (greater (get_or new a.to None) (brought a)) v None)

  pub raise_all_keeps : (as' : List Arc) (new : Sums) (v : ℕ) (w : ℤ) → AtLeast (get_or new v None) w → AtLeast (get_or (raise_all as' old new) v None) w
  unfolding raise_all
  raise_all_keeps [] new v w h = h
  raise_all_keeps (a ∷ as') new v w h = raise_all_keeps as' (raise old new a) v w (raise_keeps new a v w h)

  raise_brings : (new : Sums) (a : Arc) (w : ℤ) → a.to < length new → AtLeast (get_or old a.from None) w
      → AtLeast (get_or (raise old new a) a.to None) (w +ℤ a.adds)
  unfolding raise
  raise_brings new a w l h =
      subst (λ (o : Option ℤ). AtLeast o (w +ℤ a.adds)) (sym (get_or-set_same new a.to _ None l))
      (greater_right (get_or new a.to None) (brought a) (w +ℤ a.adds) (plus_least (get_or old a.from None) w a.adds h))

  pub raise_one_length : (new : Sums) (a : Arc) → length (raise old new a) ≡ length new
  unfolding raise
  raise_one_length new a = length-set new _ _

  pub raise_all_brings : (as' : List Arc) (new : Sums) (a : Arc) (w : ℤ) → Memᴰ a as' → a.to < length new
      → AtLeast (get_or old a.from None) w
      → AtLeast (get_or (raise_all as' old new) a.to None) (w +ℤ a.adds)
  unfolding raise_all
  raise_all_brings [] new a w m l h = absurd (Memᴰ.not-nil m)
  raise_all_brings (x ∷ as') new a w m l h =
      ⊎_elim
      (λ (e : a ≡ x). raise_all_keeps as' (raise old new x) a.to (w +ℤ a.adds)
      (subst (λ (y : Arc). AtLeast (get_or (raise old new y) a.to None) (w +ℤ a.adds)) e (raise_brings new a w l h)))
      (λ t. raise_all_brings as' (raise old new x) a w t (subst (λ (z : ℕ). a.to < z) (sym (raise_one_length new x)) l) h)
      (Memᴰ.cases_cons m)

-- each arc ends at one of n events
abbrev pub EndsBelow : List Arc → ℕ → Type 0
EndsBelow arcs n = (a : Arc) → Memᴰ a arcs → a.to < n

-- no walk of at most k arcs has a greater sum
pub none_greater : (arcs : List Arc) (n k j v : ℕ) (w : ℤ) → 0 < n → EndsBelow arcs n → Walk arcs j v w → j ≤ k
    → AtLeast (get_or (sums arcs n k) v None) w
unfolding sums pass at_start
none_greater arcs zero zero j v w p i walk h = absurd (omega arith)
none_greater arcs (suc n) zero j v w p i stay h = at_least (pos 0) (pos 0) (omega signed)
none_greater arcs (suc n) zero j v w p i (go a m walk) h = absurd (omega arith)
none_greater arcs n (suc k) j v w p i stay h =
    raise_all_keeps (sums arcs n k) arcs (sums arcs n k) 0 (pos 0) (none_greater arcs n k 0 0 (pos 0) p i stay (omega arith))
none_greater arcs n (suc k) j v w p i (go {k = j'} {w = w'} a m walk) h =
    raise_all_brings (sums arcs n k) arcs (sums arcs n k) a w' m (subst (λ (z : ℕ). a.to < z) (sym (sums_length arcs n k)) (i a m))
    (none_greater arcs n k j' a.from w' p i walk (omega arith))

-- ---- what stands at an event is the sum of some walk

Reached : List Arc → ℕ → Sums → Type 0
Reached arcs k new = (v : ℕ) (x : ℤ) → get_or new v None ≡ Some x → WalkWithin arcs k v x

longer : (arcs : List Arc) (k v : ℕ) (w : ℤ) → WalkWithin arcs k v w → WalkWithin arcs (suc k) v w
longer arcs k v w r = record { count = r.count; fits = omega arith; walk = r.walk }

raise_reached : (arcs : List Arc) (k : ℕ) (old new : Sums) (a : Arc) → Memᴰ a arcs → Reached arcs k old → Reached arcs (suc k) new
    → Reached arcs (suc k) (raise old new a)
unfolding raise Reached
raise_reached arcs k old new a m r q v x e =
    ⊎_elim
    (λ c. ⊎_elim
    (λ (g : get_or new a.to None ≡ Some x). q v x (subst (λ (u : ℕ). get_or new u None ≡ Some x) (sym c.0) g))
    (λ g. let (w, f, t) = plus_from (get_or old a.from None) a.adds x g in
    let b : WalkWithin arcs k a.from w = r a.from w f in
    subst (λ (u : ℕ). WalkWithin arcs (suc k) u x) (sym c.0)
    (subst (λ (z : ℤ). WalkWithin arcs (suc k) a.to z) (sym t)
    (record { count = suc b.count; fits = omega arith; walk = go a m b.walk })))
    (one_of (get_or new a.to None) (brought old a) x (sym c.1 ∙ e)))
    (λ c. q v x (sym c ∙ e))
    (set_cases new a.to (greater (get_or new a.to None) (brought old a)) v None)

raise_all_reached : (arcs : List Arc) (k : ℕ) (old : Sums) (as' : List Arc) (new : Sums) → ((a : Arc) → Memᴰ a as' → Memᴰ a arcs)
    → Reached arcs k old → Reached arcs (suc k) new
    → Reached arcs (suc k) (raise_all as' old new)
unfolding raise_all
raise_all_reached arcs k old [] new sub r q = q
raise_all_reached arcs k old (t ∷ ts) new sub r q =
    raise_all_reached arcs k old ts (raise old new t) (λ a m. sub a (Memᴰ.tail m)) r
    (raise_reached arcs k old new t (sub t (Memᴰ.head refl)) r q)

-- a walk of at most k arcs has that sum
pub some_equal : (arcs : List Arc) (n k v : ℕ) (x : ℤ) → get_or (sums arcs n k) v None ≡ Some x → WalkWithin arcs k v x
unfolding sums pass at_start Reached
some_equal arcs zero zero v x e = absurd (none-ne-some _ e)
some_equal arcs (suc n) zero zero x e = record { count = 0; fits = omega arith; walk = subst (λ (z : ℤ). Walk arcs 0 0 z) (some-injective _ _ e) stay }
some_equal arcs (suc n) zero (suc v) x e = absurd (none_there n v x e)
some_equal arcs n (suc k) v x e =
    raise_all_reached arcs k (sums arcs n k) arcs (sums arcs n k) (λ a m. m) (some_equal arcs n k)
    (λ u y f. longer arcs k u y (some_equal arcs n k u y f)) v x e

-- ---- so the sums are the greatest, and nothing else is

module _ (arcs : List Arc) (n : ℕ) (p : 0 < n) (i : EndsBelow arcs n) where
  pub sum_is_greatest : (k v : ℕ) (x : ℤ) → get_or (sums arcs n k) v None ≡ Some x → Greatest arcs k v x
  sum_is_greatest k v x e =
      record {
        met = some_equal arcs n k v x e;
        most = λ y r. least_of x y (subst (λ (o : Option ℤ). AtLeast o y) e (none_greater arcs n k r.count v y p i r.walk r.fits));
      }

  pub greatest_is_sum : (k v : ℕ) (x : ℤ) → Greatest arcs k v x → get_or (sums arcs n k) v None ≡ Some x
  greatest_is_sum k v x g =
      let r = g.met in
      let l = none_greater arcs n k r.count v x p i r.walk r.fits in
      let m : l.value ≤ℤ x = g.most l.value (some_equal arcs n k v l.value l.there) in
      let e : l.value ≡ x = omega (signed, l.least) in
      l.there ∙ ap Some e

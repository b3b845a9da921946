-- Bounds in arrays that fit: what each of them says, and the arcs that come of them. Assumes nothing.
use Rattle.std.specs.Prelude.{Option, None, Some}
use Prim.Native.Nat.{ℕ, zero, suc, ◌+◌, ◌*◌, ◌≤◌, ◌<◌}
use native.Mathlib.Omega.{arith}
use mathlib.Core.Path.{◌≡◌, refl, ap, sym, ◌∙◌, subst}
use mathlib.Core.Logic.{⊎_elim}
use mathlib.Core.Bool.{true, ◌&&◌}
use mathlib.Core.List.Memᴰ
use mathlib.Core.List.{List, [], ◌∷◌, flat_map, Memᴰ}
use lib.Dec.{T, leb, ltb, leb→le, le→leb, ltb→lt, lt→ltb}
use lib.IntN.{pos}
use lib.ListN.{length, get_or, drop}
use lib.Seq.{get_or-drop}
use mir.Facts.{and_yes, yes_and}
use Rattle.laws.proofs.Members.{of_flat, at_place}
use Rattle.laws.proofs.Tests.{passes}
use Rattle.laws.proofs.Signed.{Within, neg_up, neg_dn}
use Rattle.network.specs.Bounds.{Bound}
use Rattle.network.specs.BoundArrays.{hi_number, hi_of, bounds_in}
use Rattle.walks.specs.Walks.{Arc}
use Rattle.walks.specs.Solutions.{Between}
use Rattle.schedule.specs.Timetable.{forward, backward, ways}
use Rattle.passes.specs.Solving.{bound_fits, bounds_fit}
use Rattle.passes.specs.Places.{bound_at}

-- ---- bounds in arrays

-- there are as many as are asked for
pub bounds_length : (m : ℕ) (ends ranges : List ℕ) → length (bounds_in m ends ranges) ≡ m
unfolding bounds_in
bounds_length zero ends ranges = refl
bounds_length (suc m) ends ranges = ap suc (bounds_length m (drop 2 ends) (drop 2 ranges))

-- a number hi comes back as itself
pub hi_number_of : (h : ℕ) → hi_number (hi_of h) ≡ h
unfolding hi_number hi_of
hi_number_of zero = refl
hi_number_of (suc h) = refl

-- the bound at a place, two numbers further in both arrays
one_further : (i : ℕ) (ends ranges : List ℕ) → bound_at i (drop 2 ends) (drop 2 ranges) ≡ bound_at (suc i) ends ranges
one_further i ends ranges =
    let e : 2 + 2 * i ≡ 2 * suc i = omega arith in
    let f : 2 + (2 * i + 1) ≡ 2 * suc i + 1 = omega arith in
    rw (get_or-drop 2 ends (2 * i) 0, get_or-drop 2 ends (2 * i + 1) 0, get_or-drop 2 ranges (2 * i) 0, get_or-drop 2 ranges (2 * i + 1) 0, e, f)

-- the bound at a place
pub bound_is : (m : ℕ) (ends ranges : List ℕ) (i : ℕ) (d : Bound) → i < m → get_or (bounds_in m ends ranges) i d ≡ bound_at i ends ranges
unfolding bounds_in
bound_is zero ends ranges i d h = absurd (omega arith)
bound_is (suc m) ends ranges zero d h = refl
bound_is (suc m) ends ranges (suc i) d h = bound_is m (drop 2 ends) (drop 2 ranges) i d (omega arith) ∙ one_further i ends ranges

-- ---- a bound that fits

-- between two of n events, its lo and hi at most 10^12
pub record Fitting (n : ℕ) (b : Bound) : Type 0 where
  pub from_in : b.from < n
  pub to_in : b.to < n
  pub lo_fits : b.lo ≤ 1_000_000_000_000
  pub hi_fits : hi_number b.hi ≤ 1_000_000_000_001

-- what the test says
pub fitting : (n : ℕ) (b : Bound) → bound_fits n b ≡ true → Fitting n b
unfolding bound_fits
fitting n b e =
    let x = and_yes (ltb b.from n && ltb b.to n && leb b.lo 1_000_000_000_000) (leb (hi_number b.hi) 1_000_000_000_001) (subst T (sym e) tt) in
    let y = and_yes (ltb b.from n && ltb b.to n) (leb b.lo 1_000_000_000_000) x.0 in
    let z = and_yes (ltb b.from n) (ltb b.to n) y.0 in
    record {
      from_in = ltb→lt b.from n z.0;
      to_in = ltb→lt b.to n z.1;
      lo_fits = leb→le b.lo 1_000_000_000_000 y.1;
      hi_fits = leb→le (hi_number b.hi) 1_000_000_000_001 x.1;
    }

-- and what says the test
pub fitting_passes : (n : ℕ) (b : Bound) → Fitting n b → bound_fits n b ≡ true
unfolding bound_fits
fitting_passes n b f =
    let x : T (ltb b.from n && ltb b.to n) = yes_and (ltb b.from n) (ltb b.to n) (lt→ltb b.from n f.from_in) (lt→ltb b.to n f.to_in) in
    let y : T (ltb b.from n && ltb b.to n && leb b.lo 1_000_000_000_000) =
    yes_and (ltb b.from n && ltb b.to n) (leb b.lo 1_000_000_000_000) x (le→leb b.lo 1_000_000_000_000 f.lo_fits)
    in
    passes (ltb b.from n && ltb b.to n && leb b.lo 1_000_000_000_000 && leb (hi_number b.hi) 1_000_000_000_001)
    (yes_and (ltb b.from n && ltb b.to n && leb b.lo 1_000_000_000_000) (leb (hi_number b.hi) 1_000_000_000_001) y
    (le→leb (hi_number b.hi) 1_000_000_000_001 f.hi_fits))

-- of all of them it says so of each
pub each_fits : (n : ℕ) (bs : List Bound) → bounds_fit n bs ≡ true → (b : Bound) → Memᴰ b bs → bound_fits n b ≡ true
unfolding bounds_fit
each_fits n [] e b m = absurd (Memᴰ.not-nil m)
each_fits n (x ∷ xs) e b m =
    let both = and_yes (bound_fits n x) (bounds_fit n xs) (rw e tt) in
    ⊎_elim
    (λ (q : b ≡ x). ap (bound_fits n) q ∙ passes (bound_fits n x) both.0)
    (λ t. each_fits n xs (passes (bounds_fit n xs) both.1) b t)
    (Memᴰ.cases_cons m)

-- at a place
pub place_fits : (n m : ℕ) (ends ranges : List ℕ) (i : ℕ) → i < m → bounds_fit n (bounds_in m ends ranges) ≡ true
    → bound_fits n (bound_at i ends ranges) ≡ true
place_fits n m ends ranges i h e =
    let l : i < length (bounds_in m ends ranges) = omega (arith, bounds_length m ends ranges) in
    let b : Bound = bound_at i ends ranges in
    ap (bound_fits n) (sym (bound_is m ends ranges i b h))
    ∙ each_fits n (bounds_in m ends ranges) e (get_or (bounds_in m ends ranges) i b) (at_place (bounds_in m ends ranges) i b l)

-- ---- its arcs

-- what is true of an arc of a bound that fits: it goes between two of n events and adds at most 10^12 either way
pub record FittingArc (n : ℕ) (a : Arc) : Type 0 where
  pub between : (a.from < n) × (a.to < n)
  pub within : Within 1_000_000_000_000 a.adds

backward_fits : (n : ℕ) (b : Bound) (o : Option ℕ) → b.from < n → b.to < n → hi_number o ≤ 1_000_000_000_001
    → (a : Arc) → Memᴰ a (backward b o) → FittingArc n a
unfolding backward hi_number
backward_fits n b None f t h a m = absurd (Memᴰ.not-nil m)
backward_fits n b (Some k) f t h a m =
    subst (FittingArc n) (sym (Memᴰ.eq_of_singleton m)) (record {
      between = (t, f);
      within = record { above = omega (arith, neg_up (pos k)); under = omega (arith, neg_dn (pos k)) };
    })

pub way_fits : (n : ℕ) (b : Bound) → Fitting n b → (a : Arc) → Memᴰ a (ways b) → FittingArc n a
unfolding ways forward
way_fits n b f a m =
    ⊎_elim
    (λ e. subst (FittingArc n) (sym e) (record {
      between = (f.from_in, f.to_in);
      within = record { above = f.lo_fits; under = omega arith };
    }))
    (backward_fits n b b.hi f.from_in f.to_in f.hi_fits a)
    (Memᴰ.cases_cons m)

-- of all of them
pub arc_fits : (n : ℕ) (bs : List Bound) → bounds_fit n bs ≡ true → (a : Arc) → Memᴰ a (flat_map ways bs) → FittingArc n a
arc_fits n bs e a m =
    let (b, here, there) = of_flat ways bs a m in
    way_fits n b (fitting n b (each_fits n bs e b here)) a there

-- they go between the events
pub arcs_between : (n : ℕ) (bs : List Bound) → bounds_fit n bs ≡ true → Between (flat_map ways bs) n
arcs_between n bs e a m = (arc_fits n bs e a m).between

-- and none adds too much
pub arcs_within : (n : ℕ) (bs : List Bound) → bounds_fit n bs ≡ true → (a : Arc) → Memᴰ a (flat_map ways bs) → Within 1_000_000_000_000 a.adds
arcs_within n bs e a m = (arc_fits n bs e a m).within

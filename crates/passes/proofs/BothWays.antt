-- Arcs followed in arrays one behind the other: both ways of a bound, and bound after bound. Assumes nothing.
use Rattle.std.specs.Prelude.{Some}
use Prim.Native.Nat.{ℕ, suc, ◌+◌, ◌*◌, ◌/◌, ◌%◌, ◌≤◌, ◌<◌}
use native.Mathlib.Nat.{add-zero}
use native.Mathlib.Numerals.{add-one}
use native.Mathlib.Omega.{arith}
use mathlib.Core.Path.{◌≡◌, refl, ap, ap₂, sym, ◌∙◌, subst}
use mathlib.Core.List.{List, [], ◌∷◌, ◌++◌, flat_map, append-nil}
use lib.IntN.{ℤ, pos, ◌-ℤ◌, neg_ℤ}
use lib.ListN.{length, get_or, take}
use mir.Syntax.{w64}
use mir.Val.{SFits, to_z, of_z}
use mir.ValLaws.{to_z-of_z}
use mir.Facts.{to_z_pos}
use Rattle.std.proofs.lemmas.Grind.{flat_map-append}
use Rattle.std.proofs.lemmas.List.{take_all, take_more}
use Rattle.laws.proofs.Signed.{Within, neg_up, neg_dn, difference, mag_within, ℕ→eq}
use Rattle.network.specs.Bounds.{Bound}
use Rattle.walks.specs.Walks.{Arc}
use Rattle.walks.specs.Passes.{Sums, raise, raise_all}
use Rattle.walks.specs.Parents.{Parents, adopt, adopt_all}
use Rattle.schedule.specs.Timetable.{ways}
use Rattle.passes.specs.Marks.{sums_in, ways_before, arc_place, parents_in, Coded, Followed}

-- ---- an arc's code

-- the bound at place i followed forward
pub forward_place : (bs : List Bound) (i : ℕ) → arc_place bs (2 * i + 1) ≡ Some (ways_before bs i)
unfolding arc_place
forward_place bs i =
    let d : 2 * i / 2 ≡ i = omega arith in
    let m : 2 * i % 2 ≡ 0 = omega arith in
    rw (add-one (2 * i)) (ap₂ (λ (x y : ℕ). Some (ways_before bs x + y)) d m ∙ ap Some (add-zero (ways_before bs i)))

-- followed backward
pub backward_place : (bs : List Bound) (i : ℕ) → arc_place bs (2 * i + 2) ≡ Some (suc (ways_before bs i))
unfolding arc_place
backward_place bs i =
    let e : 2 * i + 2 ≡ suc (2 * i + 1) = omega arith in
    let d : (2 * i + 1) / 2 ≡ i = omega arith in
    let m : (2 * i + 1) % 2 ≡ 1 = omega arith in
    let s : ways_before bs i + 1 ≡ suc (ways_before bs i) = omega arith in
    ap (arc_place bs) e ∙ ap₂ (λ (x y : ℕ). Some (ways_before bs x + y)) d m ∙ ap Some s

-- ---- hi, with the other sign, as the code has it

minus : (n : ℕ) → pos 0 -ℤ pos n ≡ neg_ℤ (pos n)
minus n = ℕ→eq (omega (arith, difference (pos 0) (pos n), neg_up (pos n), neg_dn (pos n)))

pub hi_within : (n : ℕ) → n ≤ 1_000_000_000_000 → Within 1_000_000_000_000 (neg_ℤ (pos n))
hi_within n h = record { above = omega (arith, neg_up (pos n)); under = omega (arith, neg_dn (pos n)) }

pub back_is : (n : ℕ) → n ≤ 1_000_000_000_000 → to_z w64 (of_z w64 (pos 0 -ℤ to_z w64 n)) ≡ neg_ℤ (pos n)
back_is n h =
    let e : to_z w64 n ≡ pos n = to_z_pos w64 (omega arith) in
    let f : SFits w64 (neg_ℤ (pos n)) = record { sfits = omega (arith, mag_within (neg_ℤ (pos n)) (hi_within n h)) } in
    rw (e, minus n) (to_z-of_z w64 (neg_ℤ (pos n)) f)

-- ---- one behind the other

raise_append : (xs ys : List Arc) (old new : Sums) → raise_all (xs ++ ys) old new ≡ raise_all ys old (raise_all xs old new)
unfolding raise_all
raise_append [] ys old new = refl
raise_append (x ∷ xs) ys old new = raise_append xs ys old (raise old new x)

adopt_append : (xs ys : List Arc) (i : ℕ) (old new : Sums) (ps : Parents)
    → adopt_all (xs ++ ys) i old new ps ≡ adopt_all ys (i + length xs) old (raise_all xs old new) (adopt_all xs i old new ps)
unfolding raise_all adopt_all
adopt_append [] ys i old new ps = ap (λ (j : ℕ). adopt_all ys j old new ps) (sym (add-zero i))
adopt_append (x ∷ xs) ys i old new ps =
    let e : suc i + length xs ≡ i + suc (length xs) = omega arith in
    adopt_append xs ys (suc i) old (raise old new x) (adopt old new ps i x)
    ∙ ap (λ (j : ℕ). adopt_all ys j old (raise_all xs old (raise old new x)) (adopt_all xs (suc i) old (raise old new x) (adopt old new ps i x))) e

module _ {bs : List Bound} {old : List ℤ} where
  -- none yet
  pub none_followed : (new : List ℤ) (parents : List ℕ) → Followed bs [] 0 old new new parents parents
  unfolding raise_all adopt_all
  none_followed new parents = record { sums = refl; adopted = refl; coded = λ c. c }

  -- one, as its contract says it
  pub one_followed : {new new' : List ℤ} {parents parents' : List ℕ} (a : Arc) (place : ℕ) → sums_in new' ≡ raise (sums_in old) (sums_in new) a
      → parents_in bs parents' ≡ adopt (sums_in old) (sums_in new) (parents_in bs parents) place a → (Coded bs parents → Coded bs parents')
      → Followed bs (a ∷ []) place old new new' parents parents'
  unfolding raise_all adopt_all
  one_followed a place s p c = record { sums = s; adopted = p; coded = c }

  -- and more behind them
  pub more_followed : {xs ys : List Arc} {i j : ℕ} {new new₁ new' : List ℤ} {parents parents₁ parents' : List ℕ} → Followed bs xs i old new new₁ parents parents₁
      → j ≡ i + length xs → Followed bs ys j old new₁ new' parents₁ parents' → Followed bs (xs ++ ys) i old new new' parents parents'
  more_followed {xs} {ys} {i} {j} {new} {new₁} {new'} {parents} {parents₁} f e g =
      record {
        sums = g.sums ∙ ap (raise_all ys (sums_in old)) f.sums ∙ sym (raise_append xs ys (sums_in old) (sums_in new));
        adopted =
            g.adopted ∙ rw (e, f.sums, f.adopted) (sym (adopt_append xs ys i (sums_in old) (sums_in new) (parents_in bs parents)));
        coded = λ c. g.coded (f.coded c);
      }

  -- the ways of one bound more
  pub bound_followed : {i : ℕ} {new new₁ new' : List ℤ} {parents parents₁ parents' : List ℕ} (b : Bound) → i < length bs → ((d : Bound) → get_or bs i d ≡ b)
      → Followed bs (flat_map ways (take i bs)) 0 old new new₁ parents parents₁ → Followed bs (ways b) (ways_before bs i) old new₁ new' parents₁ parents'
      → Followed bs (flat_map ways (take (i + 1) bs)) 0 old new new' parents parents'
  unfolding ways_before flat_map
  bound_followed {i} b h at f g =
      let e : take (i + 1) bs ≡ take i bs ++ (b ∷ []) = take_more bs i b h ∙ ap (λ (x : Bound). take i bs ++ (x ∷ [])) (at b) in
      rw (e, flat_map-append ways (take i bs) (b ∷ []), append-nil (ways b)) (more_followed f (omega arith) g)

  -- all of them
  pub all_followed : {i : ℕ} {new new' : List ℤ} {parents parents' : List ℕ} → length bs ≤ i → Followed bs (flat_map ways (take i bs)) 0 old new new' parents parents'
      → Followed bs (flat_map ways bs) 0 old new new' parents parents'
  all_followed {i} {new} {new'} {parents} {parents'} h f =
      subst (λ (l : List Bound). Followed bs (flat_map ways l) 0 old new new' parents parents') (take_all i bs h) f

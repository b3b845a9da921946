-- One arc followed, in arrays: what the three ways through the code come to. Assumes nothing.
use Rattle.std.specs.Prelude.{Option, None, Some}
use Prim.Native.Nat.{ℕ, ◌<◌}
use native.Mathlib.Omega.{arith}
use mathlib.Core.Path.{◌≡◌, refl, ap, sym, ◌∙◌}
use mathlib.Core.Logic.{◌≢◌}
use mathlib.Core.Bool.{Bool, true, false, cond}
use mathlib.Core.List.{List, map}
use lib.IntN.{ℤ, pos, ◌+ℤ◌}
use lib.Signed.{lt_z, ◌<ℤ◌}
use lib.ListN.{length, get_or, set}
use lib.Seq.{set-get_or}
use mir.Syntax.{w64}
use mir.Val.{SFits}
use Rattle.std.proofs.lemmas.List.{map-set}
use Rattle.laws.proofs.Members.{any_default}
use Rattle.laws.proofs.Signed.{Within, up_sum, dn_sum, mag_within, ℕ→lt}
use Rattle.network.specs.Bounds.{Bound}
use Rattle.walks.specs.Walks.{Arc}
use Rattle.walks.specs.Passes.{plus, raise}
use Rattle.walks.specs.Parents.{raises, adopt}
use Rattle.walks.proofs.Outcome.{greater_is}
use Rattle.passes.specs.Marks.{low, sum_at, sums_in, arc_place, parents_in, Code, Coded}
use Rattle.passes.proofs.Codes.{set_coded}
use Rattle.passes.proofs.Marks.{low_none, sum_there, raises_is, sum_of, sums_set}

-- sums within 4,096 × 10^12 are so far from the mark and from the ends of their type that an arc leads to neither
abbrev pub InReach : List ℤ → Type 0
InReach old = (v : ℕ) (x : ℤ) → get_or (sums_in old) v None ≡ Some x → Within 4096000000000000 x

module _ (old new : List ℤ) (parents : List ℕ) (a : Arc) (code : ℕ) where
  -- what it brings, and whether that raises the sum at its end
  abbrev y : Option ℤ
  y = plus (get_or (sums_in old) a.from None) a.adds

  abbrev test : Bool
  test = raises (get_or (sums_in new) a.to None) y

  -- what is left of sums and parents, as the contract says it
  abbrev pub Done : List ℤ → List ℕ → Type 0
  Done new' parents' =
      (sums_in new' ≡ raise (sums_in old) (sums_in new) a)
      × ((bs : List Bound) (place : ℕ) → arc_place bs code ≡ Some place
      → parents_in bs parents' ≡ adopt (sums_in old) (sums_in new) (parents_in bs parents) place a)
      × ((bs : List Bound) → Code bs code → Coded bs parents → Coded bs parents')

  raise_is : (b : Bool) → test ≡ b → raise (sums_in old) (sums_in new) a ≡ cond b (set (sums_in new) a.to y) (sums_in new)
  unfolding raise
  raise_is true e = rw (greater_is (get_or (sums_in new) a.to None) y, e) refl
  raise_is false e = rw (greater_is (get_or (sums_in new) a.to None) y, e) (set-get_or (sums_in new) a.to None)

  -- it does not raise: nothing is stored
  not_raised : test ≡ false → Done new parents
  unfolding adopt
  not_raised e = (sym (raise_is false e), λ bs place p. rw (adopt, e) refl, λ bs k h. h)

  -- it does: it is stored as the parent
  raised : (z : ℤ) → y ≡ Some z → low <ℤ z → test ≡ true → Done (set new a.to z) (set parents a.to code)
  unfolding parents_in adopt
  raised z f l e = (
    sums_set new a.to z l ∙ sym (raise_is true e ∙ ap (set (sums_in new) a.to) f),
    λ bs place p. map-set (arc_place bs) parents a.to code ∙ ap (set (map (arc_place bs) parents) a.to) p ∙ rw (adopt, e) refl,
    λ bs k h. set_coded bs parents a.to code k h,
  )

  -- nothing leads to its beginning
  pub from_none : a.from < length old → get_or old a.from (pos 0) ≡ low → Done new parents
  unfolding plus raises
  from_none h e =
      not_raised (rw (sum_of old a.from, any_default old a.from low (pos 0) h, e, low_none) refl)

  module _ (h : a.from < length old) (k : a.to < length new) (n : get_or old a.from (pos 0) ≢ low) (r : InReach old) (s : Within 1_000_000_000_000 a.adds) where
    abbrev came : ℤ
    came = get_or old a.from (pos 0)

    -- the sum at its beginning
    there : get_or (sums_in old) a.from None ≡ Some came
    there = sum_of old a.from ∙ ap sum_at (any_default old a.from low (pos 0) h) ∙ sum_there came n

    brought : Within 4_097_000_000_000_000 (came +ℤ a.adds)
    brought =
        let w : Within 4096000000000000 came = r a.from came there in
        record { above = omega (arith, up_sum came a.adds); under = omega (arith, dn_sum came a.adds) }

    -- with the arc it fits its type
    pub sum_fits : SFits w64 (came +ℤ a.adds)
    sum_fits = record { sfits = omega (arith, mag_within (came +ℤ a.adds) brought) }

    over : low <ℤ (came +ℤ a.adds)
    over = ℕ→lt (omega (arith, brought.under))

    brings : y ≡ Some (came +ℤ a.adds)
    unfolding plus
    brings = rw there refl

    test_is : test ≡ lt_z (get_or new a.to (pos 0)) (came +ℤ a.adds)
    test_is =
        rw (brings, sum_of new a.to, any_default new a.to low (pos 0) k) (raises_is (get_or new a.to (pos 0)) (came +ℤ a.adds) over)

    -- the sum at its end is as great
    pub not_more : lt_z (get_or new a.to (pos 0)) (came +ℤ a.adds) ≡ false → Done new parents
    not_more e = not_raised (test_is ∙ e)

    -- it is more
    pub more : lt_z (get_or new a.to (pos 0)) (came +ℤ a.adds) ≡ true → Done (set new a.to (came +ℤ a.adds)) (set parents a.to code)
    more e = raised (came +ℤ a.adds) brings over (test_is ∙ e)

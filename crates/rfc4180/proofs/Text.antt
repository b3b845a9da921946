-- The test of two byte strings is their equality, and goes byte by byte. Assumes nothing.
use Prim.Native.Nat.{ℕ}
use mathlib.Core.Path.{◌≡◌, refl, ap, ap₂}
use mathlib.Core.Bool.{Bool, ◌&&◌}
use mathlib.Core.List.{List, [], ◌∷◌}
use lib.Dec.{T, eqb, eqb→eq, eqb_refl}
use mir.Facts.{and_yes, yes_and}
use lib.Pointwise.{pointwise}
use Rattle.std.specs.Prelude.{nat_eq}
use Rattle.rfc4180.specs.Text.{same}

-- strings that the test calls the same are equal
pub same_equal : (as' bs : List ℕ) → T (same as' bs) → as' ≡ bs
unfolding same
same_equal [] [] t = refl
same_equal [] (b ∷ bs) t = absurd t
same_equal (a ∷ as') [] t = absurd t
same_equal (a ∷ as') (b ∷ bs) t =
    let both = and_yes (eqb a b) (same as' bs) t in
    ap₂ ◌∷◌ (eqb→eq a b both.0) (same_equal as' bs both.1)

-- a string is the same as itself
pub same_self : (bs : List ℕ) → T (same bs bs)
unfolding same
same_self [] = tt
same_self (b ∷ bs) = yes_and (eqb b b) (same bs bs) (eqb_refl b) (same_self bs)

-- the test is that of the library's `==`
pub same_is : (as' bs : List ℕ) → pointwise nat_eq as' bs ≡ same as' bs
unfolding same
same_is [] [] = refl
same_is [] (b ∷ bs) = refl
same_is (a ∷ as') [] = refl
same_is (a ∷ as') (b ∷ bs) = ap (λ (t : Bool). eqb a b && t) (same_is as' bs)

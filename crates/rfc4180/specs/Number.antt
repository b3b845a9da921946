-- The number that a field holds (document 01, "The three tables").
-- Assumes nothing.
use Rattle.std.specs.Prelude.{ℕ, ◌+◌, ◌*◌, ◌-◌, min, max, true, false, ◌&&◌, cond, List, [], ◌∷◌, leb, eqb, length, Option, None, Some}

-- the value of the decimal digits that follow n; none where a byte is no digit
unfoldable pub decimal : ℕ → List ℕ → Option ℕ
decimal n [] = Some n
decimal n (b ∷ bs) = elim (leb 48 b && leb b 57) [ true ↦ decimal (10 * n + (b - 48)) bs | false ↦ None ]

-- "A number is "0" or up to ten decimal digits of which the first is not 0."
unfoldable pub number : List ℕ → Option ℕ
number [] = None
number (b ∷ []) = decimal 0 (b ∷ [])
number (b ∷ c ∷ cs) = cond (eqb b 48) None (cond (leb (length (b ∷ c ∷ cs)) 10) (decimal 0 (b ∷ c ∷ cs)) None)

-- the numbers of fields that are all numbers
unfoldable pub numbers : List (List ℕ) → Option (List ℕ)
numbers [] = Some []
numbers (f ∷ fs) = elim (number f) [ None ↦ None | Some n ↦ elim (numbers fs) [ None ↦ None | Some ns ↦ Some (n ∷ ns) ] ]

-- the greatest of some numbers
unfoldable pub greatest : List ℕ → ℕ
greatest [] = 0
greatest (n ∷ ns) = max n (greatest ns)

-- the numbers of the fields before the first that is none
unfoldable pub leading : List (List ℕ) → List ℕ
leading [] = []
leading (f ∷ fs) = elim (number f) [ None ↦ [] | Some n ↦ n ∷ leading fs ]

-- a number as a place of four bytes holds it: those over the greatest as the greatest, which no range of a table reaches
unfoldable pub capped : ℕ → ℕ
capped n = min n 4_294_967_295

-- Names every definition of this module, for a proof that computes with them all.
unfoldable pub open_number : Unit {0}
unfolding decimal number numbers greatest leading capped
open_number = tt

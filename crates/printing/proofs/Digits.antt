-- The digits of a number. Assumes nothing.
use Prim.Native.Nat.{ℕ, zero, suc, ◌+◌, ◌/◌, ◌%◌, ◌^◌, ◌≤◌, ◌<◌}
use native.Mathlib.Omega.{arith}
use mathlib.Core.Path.{◌≡◌, ap}
use mathlib.Core.Logic.{inl, inr}
use mathlib.Core.Bool.{Bool, true, false}
use mathlib.Core.List.{List, [], ◌∷◌, ◌++◌}
use lib.ListN.{length, length-append}
use borrow.Author.Tests.{lt-ltb, le-ltb}
use Rattle.std.specs.Fmt.{decimal}
use Rattle.std.proofs.lemmas.Fmt.{decimal_from_appends, length-decimal-le}
use Rattle.laws.proofs.Tests.{below_or_not}
use Rattle.printing.specs.Text.{digits, shown}
use Rattle.printing.specs.Lines.{field, ending}

-- a number below 10 is one digit
digits_one : (k n : ℕ) → n < 10 → digits (suc k) n ≡ (48 + n) ∷ []
unfolding digits
digits_one k n h = ap (λ (b : Bool). elim b as (λ _. List ℕ) [ true ↦ (48 + n) ∷ [] | false ↦ digits k (n / 10) ++ ((48 + n % 10) ∷ []) ]) (lt-ltb n 10 h)

-- any other the digits of its tens and the last
digits_more : (k n : ℕ) → 10 ≤ n → digits (suc k) n ≡ digits k (n / 10) ++ ((48 + n % 10) ∷ [])
unfolding digits
digits_more k n h = ap (λ (b : Bool). elim b as (λ _. List ℕ) [ true ↦ (48 + n) ∷ [] | false ↦ digits k (n / 10) ++ ((48 + n % 10) ∷ []) ]) (le-ltb n 10 h)

-- the digits that std says a number of 64 bits has
pub shown_is : (n : ℕ) → n < 2 ^ 64 → shown n ≡ decimal n
unfolding shown
shown_is n h = decimal_from_appends digits (record { one = digits_one; more = digits_more }) 20 n h (length-decimal-le 20 n (omega arith) (omega arith) h)

-- no more digits than are allowed
digits_most : (k n : ℕ) → length (digits k n) ≤ k
unfolding digits
digits_most zero n = omega arith
digits_most (suc k) n = elim (below_or_not n 10) [
  | inl l ↦ omega (arith, ap length (digits_one k n l))
  | inr g ↦ omega (arith, ap length (digits_more k n g), length-append (digits k (n / 10)) ((48 + n % 10) ∷ []), digits_most k (n / 10))
]

pub shown_most : (n : ℕ) → length (shown n) ≤ 20
unfolding shown
shown_most n = digits_most 20 n

pub field_most : (n : ℕ) → length (field n) ≤ 21
unfolding field
field_most n = omega (arith, shown_most n, length-append (shown n) (44 ∷ []))

pub ending_most : (n : ℕ) → length (ending n) ≤ 22
unfolding ending
ending_most n = omega (arith, shown_most n, length-append (shown n) (13 ∷ 10 ∷ []))

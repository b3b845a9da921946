-- The greatest sums over walks, computed pass by pass, and the first pass that changes nothing.
-- `proofs.Greatest` shows that the sums are the greatest of `Walks`.
-- Assumes nothing.
use Rattle.std.specs.Prelude.{ℕ, zero, suc, Bool, true, false, ◌&&◌, cond, List, [], ◌∷◌, eqb, get_or, set, replicate, ℤ, pos, negsuc, ◌+ℤ◌, Option, None, Some}
use Rattle.std.specs.Int.Signed.{lt_z}
use Rattle.walks.specs.Walks.{Arc}

-- the greatest sum to each event; none where no walk leads there
abbrev pub Sums : Type 0
Sums = List (Option ℤ)

-- the greater of two sums; none is below all
unfoldable pub greater : Option ℤ → Option ℤ → Option ℤ
greater None y = y
greater (Some x) None = Some x
greater (Some x) (Some y) = cond (lt_z x y) (Some y) (Some x)

-- a sum and one arc more
unfoldable pub plus : Option ℤ → ℤ → Option ℤ
plus None w = None
plus (Some x) w = Some (x +ℤ w)

-- one arc at the end of a walk: old has the sums before this pass, new those found in it so far
unfoldable pub raise : Sums → Sums → Arc → Sums
raise old new a = set new a.to (greater (get_or new a.to None) (plus (get_or old a.from None) a.adds))

-- each arc in its turn
unfoldable pub raise_all : List Arc → Sums → Sums → Sums
raise_all [] old new = new
raise_all (a ∷ as') old new = raise_all as' old (raise old new a)

-- a pass: the greatest sums over walks of at most one bound more
unfoldable pub pass : List Arc → Sums → Sums
pass arcs old = raise_all arcs old old

-- those of walks of no bound: over n events, 0 at the start and none elsewhere
unfoldable pub at_start : ℕ → Sums
at_start zero = []
at_start (suc n) = Some (pos 0) ∷ replicate n None

-- "the greatest sums over walks from the start of at most k bounds", over n events
unfoldable pub sums : List Arc → ℕ → ℕ → Sums
sums arcs n zero = at_start n
sums arcs n (suc k) = pass arcs (sums arcs n k)

-- two numbers are the same
unfoldable pub same_number : ℤ → ℤ → Bool
same_number (pos a) (pos b) = eqb a b
same_number (pos a) (negsuc b) = false
same_number (negsuc a) (pos b) = false
same_number (negsuc a) (negsuc b) = eqb a b

-- two sums are the same, or there is none in both
unfoldable pub same_sum : Option ℤ → Option ℤ → Bool
same_sum None None = true
same_sum None (Some y) = false
same_sum (Some x) None = false
same_sum (Some x) (Some y) = same_number x y

-- they "agree at every event"
unfoldable pub agree : Sums → Sums → Bool
agree [] [] = true
agree [] (y ∷ ys) = false
agree (x ∷ xs) [] = false
agree (x ∷ xs) (y ∷ ys) = same_sum x y && agree xs ys

-- the smallest of the f numbers from k on at which they agree
unfoldable pub first_agreeing : List Arc → ℕ → ℕ → ℕ → Option ℕ
first_agreeing arcs n zero k = None
first_agreeing arcs n (suc f) k =
    elim (agree (sums arcs n k) (sums arcs n (suc k))) [ true ↦ Some k | false ↦ first_agreeing arcs n f (suc k) ]

-- the number of passes: "It is below the number of events"; none where the sums grow for ever
unfoldable pub pass_number : List Arc → ℕ → Option ℕ
pass_number arcs n = first_agreeing arcs n n 0

-- the number of passes and the sums that it leaves
pub record Settled : Type 0 where
  pub passes : ℕ
  pub sums : Sums

-- the sums of the first pass that changes nothing
unfoldable pub settled : List Arc → ℕ → Option Settled
settled arcs n =
    elim (pass_number arcs n) [ None ↦ None | Some k ↦ Some (record { passes = k; sums = sums arcs n k }) ]

-- Names every definition of this module, for a proof that computes with them all.
unfoldable pub open_passes : Unit {0}
unfolding greater plus raise raise_all pass at_start sums same_number same_sum agree first_agreeing pass_number settled
open_passes = tt

-- The first pass that changes nothing, found by going on from one pass to the next, each made once: equal to `settled`, and quick to compute.
-- Assumes nothing.
use Rattle.std.specs.Prelude.{Option, None, Some}
use Prim.Native.Nat.{ℕ, zero, suc}
use mathlib.Core.Path.{◌≡◌, refl}
use mathlib.Core.Bool.{Bool, true, false}
use mathlib.Core.List.{List}
use Rattle.walks.specs.Walks.{Arc}
use Rattle.walks.specs.Passes.{Sums, at_start, pass, sums, agree, first_agreeing, pass_number, Settled, settled}

-- of f passes, from the k-th on, whose sums are s
unfoldable pub settle : List Arc → ℕ → ℕ → Sums → Option Settled
settle arcs zero k s = None
settle arcs (suc f) k s =
    let next = pass arcs s in
    elim (agree s next) [ true ↦ Some (record { passes = k; sums = s }) | false ↦ settle arcs f (suc k) next ]

unfoldable pub quick : List Arc → ℕ → Option Settled
quick arcs n = settle arcs n 0 (at_start n)

module _ (arcs : List Arc) (n : ℕ) where
  abbrev with_sums : Option ℕ → Option Settled
  with_sums found = elim found [ None ↦ None | Some k ↦ Some (record { passes = k; sums = sums arcs n k }) ]

  settle_is : (f k : ℕ) → settle arcs f k (sums arcs n k) ≡ with_sums (first_agreeing arcs n f k)
  unfolding settle first_agreeing sums
  settle_is zero k = refl
  settle_is (suc f) k = at (agree (sums arcs n k) (sums arcs n (suc k))) (settle_is f (suc k))
    where
      at : (b : Bool)
          → settle arcs f (suc k) (sums arcs n (suc k)) ≡ with_sums (first_agreeing arcs n f (suc k))
          → ◌≡◌ {A = Option Settled}
          (elim b [ true ↦ Some (record { passes = k; sums = sums arcs n k }) | false ↦ settle arcs f (suc k) (pass arcs (sums arcs n k)) ])
          (with_sums (elim b [ true ↦ Some k | false ↦ first_agreeing arcs n f (suc k) ]))
      at true h = refl
      at false h = h

pub quick_is : (arcs : List Arc) (n : ℕ) → quick arcs n ≡ settled arcs n
unfolding quick settled pass_number sums
quick_is arcs n = settle_is arcs n n 0

-- Names every definition of this module, for a proof that computes with them all.
unfoldable pub open_quick : Unit {0}
unfolding settle quick
open_quick = tt

-- What is said of the carts of paths, as the two searches find it, and what a caller has of it. Assumes nothing.
use Rattle.std.specs.Prelude.{Option, None, Some}
use Prim.Native.Nat.{ℕ, ◌*◌, ◌≤◌}
use mathlib.Core.Path.{◌≡◌, refl, ap, sym, ◌∙◌}
use mathlib.Core.Bool.{false}
use borrow.Author.Tests.{le-leb}
use lib.Dec.{leb}
use lib.ListN.{length}
use Rattle.laws.proofs.Options.{some-ne-none}
use Rattle.floor.specs.Paths.{first_same_cell, first_exchange}
use Rattle.collisions.specs.declared.Meeting.{Meeting}
use Rattle.collisions.specs.declared.Paths.{Paths}
use Rattle.collisions.specs.Meetings.{paths_of, met, first_meeting, meeting}

module _ (p : Paths) where
  -- an array without room for the paths
  pub meeting_short : leb (p.carts * p.steps) (length p.cells.now) ≡ false → meeting p ≡ None
  unfolding meeting
  meeting_short h = rw h

  -- one with room for them
  pub meeting_fits : p.carts * p.steps ≤ length p.cells.now → meeting p ≡ met (first_same_cell (paths_of p)) (first_exchange (paths_of p))
  unfolding meeting first_meeting
  meeting_fits h = rw (le-leb (p.carts * p.steps) (length p.cells.now) h)

-- ---- for a caller

-- the record of two carts in one cell, as it is said
abbrev pub same_said : Option Meeting → Option ℕ
same_said None = None
same_said (Some (Meeting.SameCell i)) = Some i
same_said (Some (Meeting.Exchange i)) = None

-- that of two that exchange cells
abbrev pub exchange_said : Option Meeting → Option ℕ
exchange_said None = None
exchange_said (Some (Meeting.SameCell i)) = None
exchange_said (Some (Meeting.Exchange i)) = Some i

met_same : (a b : Option ℕ) → a ≡ same_said (met a b)
unfolding met
met_same (Some i) b = refl
met_same None (Some i) = refl
met_same None None = refl

met_exchange : (a b : Option ℕ) → a ≡ None → b ≡ exchange_said (met a b)
unfolding met
met_exchange (Some i) b e = absurd (some-ne-none _ e)
met_exchange None (Some i) e = refl
met_exchange None None e = refl

module _ (p : Paths) (fits : p.carts * p.steps ≤ length p.cells.now) {m : Option Meeting} (e : m ≡ meeting p) where
  said : m ≡ met (first_same_cell (paths_of p)) (first_exchange (paths_of p))
  said = e ∙ meeting_fits p fits

  -- what is said of one cell is so
  pub same_is : first_same_cell (paths_of p) ≡ same_said m
  same_is = met_same _ (first_exchange (paths_of p)) ∙ ap same_said (sym said)

  -- and of an exchange, where no two are in one cell
  pub exchange_is : same_said m ≡ None → first_exchange (paths_of p) ≡ exchange_said m
  exchange_is h = met_exchange _ (first_exchange (paths_of p)) (same_is ∙ h) ∙ ap exchange_said (sym said)

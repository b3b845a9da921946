-- The order bounds as the code writes them, along the row of the visits of all carts; that these are the bounds of the definitions is shown in
-- `proofs.RowBounds`.
-- Assumes nothing.
use Rattle.std.specs.Prelude.{ℕ, suc, ◌+◌, ◌*◌, ◌-◌, Bool, false, cond, List, [], ◌∷◌, ◌++◌, eqb}
use Rattle.network.specs.Bounds.{Bound, no_earlier}
use Rattle.limits.specs.declared.row.Stop.{Stop}
use Rattle.limits.specs.declared.row.Row.{Row}
use Rattle.limits.specs.declared.row.RowArrays.{RowArrays}
use Rattle.limits.specs.Counts.{counts, not_last, stop_at, stops_in}

-- a visit with the number of its entry event
pub record Entry : Type 0 where
  pub visit : Stop
  pub event : ℕ

-- a row of visits, the first entry numbered e: three events on is the cart's next, one on the next cart's first
unfoldable pub entered : ℕ → List Stop → List Entry
entered e [] = []
entered e (v ∷ us) = record { visit = v; event = e } ∷ entered (e + cond (not_last v us) 3 1) us

-- [0, none] from v's leave point to the approach point of each later visit to its cell that counts, where cart number k was counted last
unfoldable pub later_bounds : Entry → ℕ → List Entry → List Bound
later_bounds v k [] = []
later_bounds v k (u ∷ us) =
    cond (counts v.visit k u.visit) (no_earlier (v.event + 1) (u.event - 1) ∷ later_bounds v u.visit.cart us) (later_bounds v k us)

-- whether the next visit is one of v's cart
unfoldable pub followed : Entry → List Entry → Bool
followed v [] = false
followed v (u ∷ us) = eqb v.visit.cart u.visit.cart

-- the order bounds from these visits on, among all of them
unfoldable pub row_from : List Entry → List Entry → List Bound
row_from all [] = []
row_from all (v ∷ us) = cond (followed v us) (later_bounds v 0 all) [] ++ row_from all us

-- of all of them
unfoldable pub row_bounds : List Entry → List Bound
row_bounds all = row_from all all

-- ---- visits in arrays

-- those put in arrays, and those of a row
abbrev pub visits_put : RowArrays → List Stop
visits_put r = stops_in r.numbers.now r.times.now r.places.now r.n 0

abbrev pub visits_in : Row → List Stop
visits_in r = stops_in r.numbers.now r.times.now r.places.now r.n 0

-- the entry event of the i-th visit of the row, where no cart is without one: three events on for each visit before it, two less for each cart before its own
unfoldable pub entry_at : ℕ → Stop → ℕ
entry_at i v = 3 * i + 3 - 2 * v.cart

-- a row of visits from the i-th on, with these numbers
unfoldable pub placed : ℕ → List Stop → List Entry
placed i [] = []
placed i (v ∷ us) = record { visit = v; event = entry_at i v } ∷ placed (suc i) us

-- the i-th visit with its number
abbrev pub numbered : ℕ → Stop → Entry
numbered i v = record { visit = v; event = entry_at i v }

-- the v-th visit in three arrays
unfoldable pub entry_in : List ℕ → List ℕ → List ℕ → ℕ → Entry
entry_in carts steps cells v = record { visit = stop_at carts steps cells v; event = entry_at v (stop_at carts steps cells v) }

-- n visits, from the i-th on
unfoldable pub row_in : List ℕ → List ℕ → List ℕ → ℕ → ℕ → List Entry
row_in carts steps cells n i = placed i (stops_in carts steps cells n i)

-- the bounds from the v-th of n visits
abbrev pub bounds_from : List ℕ → List ℕ → List ℕ → ℕ → ℕ → List Bound
bounds_from carts steps cells n v = later_bounds (entry_in carts steps cells v) 0 (row_in carts steps cells n 0)

-- those from the v-th visit of a row, and all among its visits
abbrev pub visit_bounds : Row → ℕ → List Bound
visit_bounds r v = bounds_from r.numbers.now r.times.now r.places.now r.n v

abbrev pub bounds_among : Row → List Bound
bounds_among r = row_bounds (row_in r.numbers.now r.times.now r.places.now r.n 0)

-- Names every definition of this module, for a proof that computes with them all.
unfoldable pub open_row : Unit {0}
unfolding entered later_bounds followed row_from row_bounds entry_at placed entry_in row_in
open_row = tt

-- How many events and bounds paths make, as the code counts them; that these are the counts of the definitions is shown in `proofs.Counts`.
-- Assumes nothing.
use Rattle.std.specs.Prelude.{ℕ, zero, suc, ◌+◌, ◌-◌, ◌%◌, ◌≤◌, ◌<◌, ◌≡◌, Bool, false, not, ◌&&◌, ◌||◌, cond, List, [], ◌∷◌, ◌++◌, map, leb, ltb, eqb, get_or}
use Rattle.network.specs.Events.{Visit, visits_of}
use Rattle.limits.specs.declared.row.Stop.{Stop}

-- the sum over a list
unfoldable pub total : {A : Type 0} → (A → ℕ) → List A → ℕ
total f [] = 0
total f (x ∷ xs) = f x + total f xs

-- the moves of a path after a step in cell c: how often the cell is another
unfoldable pub moves_after : ℕ → List ℕ → ℕ
moves_after c [] = 0
moves_after c (d ∷ ds) = cond (eqb c d) (moves_after d ds) (suc (moves_after d ds))

-- the moves of a path
unfoldable pub moves : List ℕ → ℕ
moves [] = 0
moves (c ∷ cs) = moves_after c cs

-- a visit of this cart
unfoldable pub stop : ℕ → Visit → Stop
stop j x = record { cart = j; step = x.step; cell = x.cell }

-- the visits of all carts, cart by cart, the first of them number j
unfoldable pub stops : ℕ → List (List ℕ) → List Stop
stops j [] = []
stops j (p ∷ ps) = map (stop j) (visits_of p) ++ stops (suc j) ps

-- whether u is a later visit to v's cell, by a cart that is neither v's nor number k
unfoldable pub counts : Stop → ℕ → Stop → Bool
counts v k u = not (eqb v.cart u.cart) && not (eqb k u.cart) && (ltb v.step u.step && eqb v.cell u.cell)

-- how many other carts visit v's cell later, where number k was counted last: the visits of a cart stand together
unfoldable pub later_carts : Stop → ℕ → List Stop → ℕ
later_carts v k [] = 0
later_carts v k (u ∷ us) = cond (counts v k u) (suc (later_carts v u.cart us)) (later_carts v k us)

-- whether the next visit is one of v's cart, so that v is not its last
unfoldable pub not_last : Stop → List Stop → Bool
not_last v [] = false
not_last v (u ∷ us) = eqb v.cart u.cart

-- the order bounds from these visits on, among all of them
unfoldable pub orders_from : List Stop → List Stop → ℕ
orders_from all [] = 0
orders_from all (v ∷ us) = cond (not_last v us) (later_carts v 0 all) 0 + orders_from all us

-- of all of them
unfoldable pub orders_among : List Stop → ℕ
orders_among all = orders_from all all

-- ---- visits in arrays

-- the i-th visit in three arrays
unfoldable pub stop_at : List ℕ → List ℕ → List ℕ → ℕ → Stop
stop_at carts steps cells i = record { cart = get_or carts i 0; step = get_or steps i 0; cell = get_or cells i 0 }

-- n visits, from the i-th on
unfoldable pub stops_in : List ℕ → List ℕ → List ℕ → ℕ → ℕ → List Stop
stops_in carts steps cells zero i = []
stops_in carts steps cells (suc n) i = stop_at carts steps cells i ∷ stops_in carts steps cells n (suc i)

-- ---- visits linked by their cells' remainders

-- of l visits, from the i-th on: how many are left from the first on whose cell has remainder b, without those left out by what is left from the next on
unfoldable pub left_by : (ℕ → ℕ → Bool) → List ℕ → ℕ → ℕ → ℕ → ℕ
left_by out cells b zero i = 0
left_by out cells b (suc l) i =
    let next : ℕ = left_by out cells b l (suc i) in cond (eqb (get_or cells i 0 % 1024) b) (cond (out i next) next (suc l)) next

-- where none is left out
abbrev pub left_in : List ℕ → ℕ → ℕ → ℕ → ℕ
left_in = left_by (λ i m. false)

-- of the last visits of n: each remainder's first, and to each visit the next of its remainder, by how many visits are left from there on
pub record LinkedBy (out : ℕ → ℕ → Bool) (cells heads nexts : List ℕ) (n left : ℕ) : Type 0 where
  pub heads_are : (b : ℕ) → b < 1024 → get_or heads b 0 ≡ left_by out cells b left (n - left)
  pub nexts_are : (l : ℕ) → l < left → get_or nexts (n - suc l) 0 ≡ left_by out cells (get_or cells (n - suc l) 0 % 1024) l (n - l)

abbrev pub Linked : List ℕ → List ℕ → List ℕ → ℕ → ℕ → Type 0
Linked = LinkedBy (λ i m. false)

-- ---- visits of a cart passed over together

-- whether the next visit after u, from which on m of n are left, is of u's cart
unfoldable pub same_cart : List ℕ → ℕ → ℕ → ℕ → Bool
same_cart carts n u m = ltb 0 m && eqb (get_or carts u 0) (get_or carts (n - m) 0)

-- how many are left from the next of another cart on: from the next on, or what is known of that one
unfoldable pub skip_of : List ℕ → List ℕ → List ℕ → ℕ → ℕ → ℕ
skip_of carts nexts skips n u = cond (same_cart carts n u (get_or nexts u 0)) (get_or skips (n - get_or nexts u 0) 0) (get_or nexts u 0)

-- of the last visits of n: to each the next of its remainder that is of another cart
pub record Skipped (carts nexts skips : List ℕ) (n left : ℕ) : Type 0 where
  pub skips_are : (l : ℕ) → l < left → get_or skips (n - suc l) 0 ≡ skip_of carts nexts skips n (n - suc l)

-- n visits linked, and with these nexts too
pub record Grouped (carts cells heads nexts skips : List ℕ) (n : ℕ) : Type 0 where
  pub linked : Linked cells heads nexts n n
  pub skipped : Skipped carts nexts skips n n

-- the next visit to look at after u, one of cart i: none of its cart where that is j or k, which are not counted
unfoldable pub next_after : List ℕ → List ℕ → ℕ → ℕ → ℕ → ℕ → ℕ
next_after nexts skips u i j k = cond (eqb j i || eqb k i) (get_or skips u 0) (get_or nexts u 0)

-- ---- visits linked for counting

-- whether h counts wherever u does: a visit of the same cart to the same cell, and not earlier
unfoldable pub stands_for : Stop → Stop → Bool
stands_for h u = eqb u.cart h.cart && eqb u.cell h.cell && leb u.step h.step

-- whether visit u need not be linked: the next of its remainder, from which on m of n visits are left, stands for it
unfoldable pub left_out : List ℕ → List ℕ → List ℕ → ℕ → ℕ → ℕ → Bool
left_out carts steps cells n u m = ltb 0 m && stands_for (stop_at carts steps cells (n - m)) (stop_at carts steps cells u)

-- the last m of n visits do for the last l, where those to a cell of remainder b are counted; the first of them is one
pub record Does (carts steps cells : List ℕ) (n b l m : ℕ) : Type 0 where
  pub fewer : m ≤ l
  pub there : 0 < m → get_or cells (n - m) 0 % 1024 ≡ b
  pub same : (v : Stop) (k : ℕ) → v.cell % 1024 ≡ b → later_carts v k (stops_in carts steps cells l (n - l)) ≡ later_carts v k (stops_in carts steps cells m (n - m))

-- of the last visits of n: for each remainder those that do for all, and to each visit those that do for what comes after it
pub record Chained (carts steps cells heads nexts : List ℕ) (n left : ℕ) : Type 0 where
  pub heads_do : (b : ℕ) → b < 1024 → Does carts steps cells n b left (get_or heads b 0)
  pub nexts_do : (l : ℕ) → l < left → Does carts steps cells n (get_or cells (n - suc l) 0 % 1024) l (get_or nexts (n - suc l) 0)

-- Names every definition of this module, for a proof that computes with them all.
unfoldable pub open_counts : Unit {0}
unfolding total moves_after moves stop stops counts later_carts not_last orders_from orders_among stop_at stops_in left_by same_cart skip_of next_after stands_for left_out
open_counts = tt

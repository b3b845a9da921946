-- The settled sums are the least times that every arc allows. Assumes nothing.
use Rattle.std.specs.Prelude.{None, Some}
use Prim.Native.Nat.{ℕ, suc, ◌<◌}
use mathlib.Core.Path.{◌≡◌, ap, sym, ◌∙◌}
use mathlib.Core.List.{List, Memᴰ}
use lib.IntN.{ℤ, pos, ◌+ℤ◌}
use lib.Signed.{◌≤ℤ◌}
use lib.ListN.{get_or}
use Rattle.walks.specs.Walks.{Arc, Walk, stay, go, WalkWithin}
use Rattle.walks.specs.Passes.{Sums, sums, Settled, settled}
use Rattle.walks.specs.Solutions.{Solves, Between}
use Rattle.walks.proofs.Greatest.{AtLeast, some_equal}
use Rattle.walks.proofs.Settling.{one_value, settled_is, settled_bounds, settled_walk, settled_start}
use Rattle.laws.proofs.Signed.{signed, sum}

-- times that every arc allows are not below the time at the start plus the sum of a walk
pub along_walk : (arcs : List Arc) (t : ℕ → ℤ) → ((a : Arc) → Memᴰ a arcs → (t a.from +ℤ a.adds) ≤ℤ t a.to)
    → (j v : ℕ) (w : ℤ) → Walk arcs j v w → (t 0 +ℤ w) ≤ℤ t v
along_walk arcs t h j v w stay = omega (signed, sum (t 0) (pos 0))
along_walk arcs t h j v w (go {k = j'} {w = w'} a m walk) =
    let before : (t 0 +ℤ w') ≤ℤ t a.from = along_walk arcs t h j' a.from w' walk in
    let last : (t a.from +ℤ a.adds) ≤ℤ t a.to = h a m in
    omega (signed, sum (t 0) w', sum (t a.from) a.adds, sum w' a.adds, sum (t 0) (w' +ℤ a.adds))

-- a solution is not below the sum of a walk
pub walk_below : (arcs : List Arc) (t : ℕ → ℤ) → Solves arcs t → (j v : ℕ) (w : ℤ) → Walk arcs j v w → w ≤ℤ t v
walk_below arcs t h j v w walk =
    let a : (t 0 +ℤ w) ≤ℤ t v = along_walk arcs t h.all j v w walk in
    let z : t 0 ≡ pos 0 = h.zeroed in
    omega (signed, sum (t 0) w)

-- so it is not below the sums after any number of passes
pub below_solutions : (arcs : List Arc) (n : ℕ) (t : ℕ → ℤ) → Solves arcs t → (k v : ℕ) (x : ℤ) → get_or (sums arcs n k) v None ≡ Some x → x ≤ℤ t v
below_solutions arcs n t h k v x e = let r : WalkWithin arcs k v x = some_equal arcs n k v x e in walk_below arcs t h r.count v x r.walk

module _ (arcs : List Arc) (n : ℕ) (p : 0 < n) (i : Between arcs n) (s : Settled) (e : settled arcs n ≡ Some s) where
  -- nor below the settled sums
  pub below_settled : (t : ℕ → ℤ) → Solves arcs t → (v : ℕ) (x : ℤ) → get_or s.sums v None ≡ Some x → x ≤ℤ t v
  below_settled t h v x f = below_solutions arcs n t h s.passes v x (ap (λ (l : Sums). get_or l v None) (sym (settled_is arcs n s e).0) ∙ f)

  -- every arc allows the settled sums: a walk to its beginning goes on along it
  pub settled_solves : (a : Arc) → Memᴰ a arcs → (x y : ℤ) → get_or s.sums a.from None ≡ Some x → get_or s.sums a.to None ≡ Some y
      → (x +ℤ a.adds) ≤ℤ y
  settled_solves a m x y f g =
      let r : WalkWithin arcs s.passes a.from x = settled_walk arcs n p i s e a.from x f in
      let b : AtLeast (get_or s.sums a.to None) (x +ℤ a.adds) = settled_bounds arcs n p i s e (suc r.count) a.to (x +ℤ a.adds) (go a m r.walk) in
      let q : b.value ≡ y = one_value (get_or s.sums a.to None) b.value y b.there g in
      omega (signed, b.least)

  -- where every event has a sum, they are a solution, and no solution has an event earlier
  pub settled_is_least : (t : ℕ → ℤ) → ((v : ℕ) → v < n → get_or s.sums v None ≡ Some (t v))
      → Solves arcs t × ((u : ℕ → ℤ) → Solves arcs u → (v : ℕ) → v < n → t v ≤ℤ u v)
  settled_is_least t h = (
    record {
      zeroed = one_value (get_or s.sums 0 None) (t 0) (pos 0) (h 0 p) (settled_start arcs n p i s e);
      all = λ a m. settled_solves a m (t a.from) (t a.to) (h a.from (i a m).0) (h a.to (i a m).1);
    },
    λ u q v l. below_settled u q v (t v) (h v l),
  )

-- A closed walk that gains excludes every solution. Assumes nothing.
use Prim.Native.Nat.{ℕ}
use mathlib.Core.Path.{◌≡◌, refl, ap}
use mathlib.Core.List.{List, [], ◌∷◌, Memᴰ}
use lib.IntN.{ℤ, pos, ◌+ℤ◌}
use lib.Signed.{◌≤ℤ◌}
use Rattle.walks.specs.Walks.{Arc}
use Rattle.walks.specs.Solutions.{Back, total, PositiveCycle}
use Rattle.laws.proofs.Signed.{signed, sum}

-- along arcs followed backwards, times that each of them allows grow by at least what they add in all
pub along_back : (t : ℕ → ℤ) (v u : ℕ) (l : List Arc) → ((a : Arc) → Memᴰ a l → (t a.from +ℤ a.adds) ≤ℤ t a.to) → Back v u l
    → (t u +ℤ total l) ≤ℤ t v
unfolding total
along_back t v u [] h b = let e : t v ≡ t u = ap t b in omega (signed, sum (t u) (pos 0))
along_back t v u (a ∷ as') h b =
    let e : t v ≡ t a.to = ap t b.0 in
    let one : (t a.from +ℤ a.adds) ≤ℤ t a.to = h a (Memᴰ.head refl) in
    let rest : (t u +ℤ total as') ≤ℤ t a.from = along_back t a.from u as' (λ x m. h x (Memᴰ.tail m)) b.1 in
    omega (signed, sum (t a.from) a.adds, sum (t u) (total as'), sum a.adds (total as'), sum (t u) (a.adds +ℤ total as'))

-- once round, a time would be above itself
pub cycle_excludes : (arcs : List Arc) (n : ℕ) (t : ℕ → ℤ) → PositiveCycle arcs n
    → ((a : Arc) → Memᴰ a arcs → (t a.from +ℤ a.adds) ≤ℤ t a.to)
    → ⊥
cycle_excludes arcs n t c h =
    let l : List Arc = c.first ∷ c.rest in
    let round : (t c.at +ℤ total l) ≤ℤ t c.at = along_back t c.at c.at l (λ a m. h a (c.of_arcs a m)) c.closed in
    omega (signed, sum (t c.at) (total l), c.gains)

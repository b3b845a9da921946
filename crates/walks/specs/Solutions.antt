-- Times along arcs: which satisfy them all, and what excludes such times.
-- Assumes nothing.
use Rattle.std.specs.Prelude.{ℕ, ◌≤◌, ◌<◌, ◌≡◌, ◌≢◌, length, ℤ, pos, ◌+ℤ◌, ◌≤ℤ◌, ◌<ℤ◌}
use mathlib.Core.List.{List, [], ◌∷◌, Memᴰ}
use Rattle.walks.specs.Walks.{Arc}

-- times that are 0 at the start and that every arc allows: at its end no less than at its beginning plus what it adds
pub record Solves (arcs : List Arc) (t : ℕ → ℤ) : Type 0 where
  pub zeroed : t 0 ≡ pos 0
  pub all : (a : Arc) → Memᴰ a arcs → (t a.from +ℤ a.adds) ≤ℤ t a.to

-- each arc goes between two of n events
abbrev pub Between : List Arc → ℕ → Type 0
Between arcs n = (a : Arc) → Memᴰ a arcs → (a.from < n) × (a.to < n)

-- arcs followed backwards, from event v to event u: each ends where the one before it in the list begins
abbrev pub Back : ℕ → ℕ → List Arc → Type 0
Back v u [] = v ≡ u
Back v u (a ∷ as') = (v ≡ a.to) × Back a.from u as'

-- no two of them end at the same event
abbrev pub NoneTwice : List Arc → Type 0
NoneTwice [] = Unit {0}
NoneTwice (a ∷ as') = ((x : Arc) → Memᴰ x as' → x.to ≢ a.to) × NoneTwice as'

-- what they add in all
unfoldable pub total : List Arc → ℤ
total [] = pos 0
total (a ∷ as') = a.adds +ℤ total as'

-- a closed walk that meets no event twice and gains
pub record PositiveCycle (arcs : List Arc) (n : ℕ) : Type 0 where
  pub at : ℕ
  pub first : Arc  -- the last arc of the walk comes first in the list
  pub rest : List Arc
  pub of_arcs : (a : Arc) → Memᴰ a (first ∷ rest) → Memᴰ a arcs
  pub closed : Back at at (first ∷ rest)
  pub simple : NoneTwice (first ∷ rest)
  pub short : length (first ∷ rest) ≤ n
  pub gains : pos 0 <ℤ total (first ∷ rest)

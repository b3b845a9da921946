-- Walks from the start (vertex 0) along weighted arcs, their greatest sums, and the number of passes (document 01, "Reports and timetable").
-- Assumes nothing.
use Rattle.std.specs.Prelude.{ℕ, suc, ◌≤◌, ◌<◌, ◌↔◌, ℤ, pos, ◌+ℤ◌, ◌≤ℤ◌}
use mathlib.Core.List.{List, Memᴰ}

-- one way along a bound: from an event to an event, and what it adds
pub record Arc : Type 0 where
  pub from : ℕ
  pub to : ℕ
  pub adds : ℤ

-- "walks from the start": of k arcs, to event v, with the sum w
pub data Walk (arcs : List Arc) : ℕ → ℕ → ℤ → Type 0 where
  stay : Walk arcs 0 0 (pos 0)
  go : {k : ℕ} {w : ℤ} (a : Arc) → Memᴰ a arcs → Walk arcs k a.from w → Walk arcs (suc k) a.to (w +ℤ a.adds)

-- a walk "of at most k bounds" to v, with the sum w
pub record WalkWithin (arcs : List Arc) (k v : ℕ) (w : ℤ) : Type 0 where
  pub count : ℕ
  pub fits : count ≤ k
  pub walk : Walk arcs count v w

-- w is the greatest of "the greatest sums over walks from the start of at most k bounds" at v
pub record Greatest (arcs : List Arc) (k v : ℕ) (w : ℤ) : Type 0 where
  pub met : WalkWithin arcs k v w
  pub most : (x : ℤ) → WalkWithin arcs k v x → x ≤ℤ w

-- the greatest sums "of at most k bounds and of at most k + 1 bounds agree at every event" below n
abbrev pub Agree : List Arc → ℕ → ℕ → Type 0
Agree arcs n k = (v : ℕ) → v < n → (w : ℤ) → Greatest arcs k v w ↔ Greatest arcs (suc k) v w

-- "the number of passes: the smallest k for which" they agree
pub record PassNumber (arcs : List Arc) (n k : ℕ) : Type 0 where
  pub agrees : Agree arcs n k
  pub smallest : (j : ℕ) → j < k → ¬ Agree arcs n j

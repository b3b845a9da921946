-- The parents that the passes leave: for each event the arc that last raised its sum. Followed back, they show where sums that grow for ever come from.
-- `proofs.Trap` shows that an event raised by as many passes as there are events leads back to a cycle of parents that gains.
-- Assumes nothing.
use Rattle.std.specs.Prelude.{ℕ, zero, suc, ◌≤◌, ◌<◌, ◌≡◌, ◌≢◌, Bool, true, false, length, get_or, set, replicate, ℤ, pos, ◌<ℤ◌, Option, None, Some}
use mathlib.Core.List.{List, [], ◌∷◌, Memᴰ}
use Rattle.std.specs.Int.Signed.{lt_z}
use Rattle.walks.specs.Walks.{Arc}
use Rattle.walks.specs.Passes.{Sums, plus, raise, sums}
use Rattle.walks.specs.Solutions.{Back, total}

-- for each event the place in the list of arcs of the arc that last raised it; none where no arc has
abbrev pub Parents : Type 0
Parents = List (Option ℕ)

-- the second of two sums is the greater: it is there, and the first is not or is less
unfoldable pub raises : Option ℤ → Option ℤ → Bool
raises x None = false
raises None (Some y) = true
raises (Some x) (Some y) = lt_z x y

-- the arc at place i becomes the parent of its end where it raises the sum there: old and new as in `raise`
unfoldable pub adopt : Sums → Sums → Parents → ℕ → Arc → Parents
adopt old new ps i a =
    elim (raises (get_or new a.to None) (plus (get_or old a.from None) a.adds)) [ true ↦ set ps a.to (Some i) | false ↦ ps ]

-- each arc in its turn, the first of them at place i
unfoldable pub adopt_all : List Arc → ℕ → Sums → Sums → Parents → Parents
adopt_all [] i old new ps = ps
adopt_all (a ∷ as') i old new ps = adopt_all as' (suc i) old (raise old new a) (adopt old new ps i a)

-- the parents that k passes leave over n events: none before the first
unfoldable pub parents : List Arc → ℕ → ℕ → Parents
parents arcs n zero = replicate n None
parents arcs n (suc k) = adopt_all arcs 0 (sums arcs n k) (sums arcs n k) (parents arcs n k)

-- ---- back along parents

-- stands for the arc at a place past the list: no parent is there
unfoldable pub no_arc : Arc
no_arc = record { from = 0; to = 0; adds = pos 0 }

-- the event before v: where its parent begins, or v itself if it has none
unfoldable pub before : List Arc → Parents → ℕ → ℕ
before arcs ps v = elim (get_or ps v None) [ None ↦ v | Some i ↦ (get_or arcs i no_arc).from ]

-- a step taken j times
unfoldable pub repeated : (ℕ → ℕ) → ℕ → ℕ → ℕ
repeated g zero v = v
repeated g (suc j) v = repeated g j (g v)

-- the event j steps back
abbrev pub steps_back : List Arc → Parents → ℕ → ℕ → ℕ
steps_back arcs ps j v = repeated (before arcs ps) j v

-- the arcs of those steps, the last arc of the walk first
unfoldable pub trail : List Arc → Parents → ℕ → ℕ → List Arc
trail arcs ps zero v = []
trail arcs ps (suc j) v = elim (get_or ps v None) [ None ↦ [] | Some i ↦ get_or arcs i no_arc ∷ trail arcs ps j (get_or arcs i no_arc).from ]

-- x comes back after `period` steps, at most n of them, and no event is met twice before
pub record Cyclic (g : ℕ → ℕ) (n x : ℕ) : Type 0 where
  pub period : ℕ
  pub positive : 0 < period
  pub short : period ≤ n
  pub closes : repeated g period x ≡ x
  pub simple : (i j : ℕ) → i < j → j < period → repeated g i x ≢ repeated g j x

-- the parents of v: none is missing however far back, n steps back lies an event on a simple cycle, and its arcs are a closed walk that gains
pub record Trapped (arcs : List Arc) (n : ℕ) (ps : Parents) (v : ℕ) : Type 0 where
  pub parented : (j : ℕ) → get_or ps (steps_back arcs ps j v) None ≢ None
  pub cyclic : Cyclic (before arcs ps) n (steps_back arcs ps n v)
  pub of_arcs : (a : Arc) → Memᴰ a (trail arcs ps cyclic.period (steps_back arcs ps n v)) → Memᴰ a arcs
  pub closed : Back (steps_back arcs ps n v) (steps_back arcs ps n v) (trail arcs ps cyclic.period (steps_back arcs ps n v))
  pub long : length (trail arcs ps cyclic.period (steps_back arcs ps n v)) ≡ cyclic.period
  pub gains : pos 0 <ℤ total (trail arcs ps cyclic.period (steps_back arcs ps n v))

-- Names every definition of this module, for a proof that computes with them all.
unfoldable pub open_parents : Unit {0}
unfolding raises adopt adopt_all parents no_arc before repeated trail
open_parents = tt

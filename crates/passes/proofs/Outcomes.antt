-- What is found and left in the slices, by how the passes end; and the working memory as it is at first. Assumes nothing.
use Rattle.std.specs.Prelude.{Option, None, Some}
use Prim.Native.Nat.{ℕ, zero, suc, ◌≤◌}
use native.Mathlib.Omega.{arith}
use mathlib.Core.Path.{◌≡◌, refl, ap, sym, ◌∙◌, subst}
use mathlib.Core.Bool.{Bool, true, false, ◌&&◌}
use mathlib.Core.List.{List, ◌∷◌, map, flat_map}
use lib.Dec.{T}
use lib.IntN.{ℤ, pos}
use lib.ListN.{length, take, set, replicate}
use Rattle.std.proofs.lemmas.List.{take-replicate}
use Rattle.words.specs.Words.{words, written}
use Rattle.network.specs.Bounds.{Bound}
use Rattle.network.specs.BoundArrays.{bounds_in}
use Rattle.walks.specs.Passes.{Sums, at_start, same_number, settled}
use Rattle.schedule.specs.Timetable.{time, ways, timetable_of}
use Rattle.schedule.specs.Lent.{Lent, long_enough, times_written, chain_written}
use Rattle.schedule.proofs.Lent.{Room, room}
use Rattle.passes.specs.declared.Found.{Found}
use Rattle.passes.specs.declared.Chain.{Chain}
use Rattle.passes.specs.declared.Solved.{Solved}
use Rattle.passes.specs.Solving.{network_fits, times_of, Solves, timed, cycle, Solving, solved, Searched, search_solves, search_nothing}
use Rattle.passes.specs.Marks.{low, sum_at, sums_in, Coded, Finds, finds_times, finds_cycle, CycleFound, ChainFound}
use Rattle.passes.proofs.Marks.{low_none}

-- ---- what is found

module _ (bs : List Bound) (n : ℕ) (sums : List ℤ) (codes : List ℕ) (r : Found) (f : Finds bs n sums codes r) where
  -- times
  pub found_times : (k : ℕ) → r ≡ Found.Settled k → settled (flat_map ways bs) n ≡ Some (record { passes = k; sums = sums_in sums })
  found_times k e = by (subst (Finds bs n sums codes) e f)
    where
      by : Finds bs n sums codes (Found.Settled k) → settled (flat_map ways bs) n ≡ Some (record { passes = k; sums = sums_in sums })
      by (finds_times i q) = q

  -- or a cycle
  pub found_cycle : (x : ℕ) → r ≡ Found.Looped x → (length codes ≡ n) × Coded bs codes × CycleFound bs codes x
  found_cycle x e = by (subst (Finds bs n sums codes) e f)
    where
      by : Finds bs n sums codes (Found.Looped x) → (length codes ≡ n) × Coded bs codes × CycleFound bs codes x
      by (finds_cycle y l c g) = (l, c, g)

-- ---- what is left

module _ (own n : ℕ) (bs : List Bound) (l : Lent) where
  -- times written
  pub timed_left : (k : ℕ) (old : List ℤ) (times' : List ℕ) → settled (flat_map ways bs) n ≡ Some (record { passes = k; sums = sums_in old })
      → times' ≡ written (words 8 (map time (sums_in old))) l.times
      → Solves own n bs l (Solved.Times k) (record { times = times'; chain_bounds = l.chain_bounds; chain_directions = l.chain_directions })
  unfolding times_of timetable_of times_written
  timed_left k old times' e w =
      rw w (timed (record { times = map time (sums_in old); passes = k }) (ap timetable_of e))

  -- a chain written
  pub chain_left : (chain : Chain) (numbers' directions' : List ℕ) → settled (flat_map ways bs) n ≡ None
      → ChainFound own bs chain.length chain.cost l.chain_bounds l.chain_directions numbers' directions'
      → Solves own n bs l (Solved.Cycle chain) (record { times = l.times; chain_bounds = numbers'; chain_directions = directions' })
  unfolding times_of timetable_of chain_written
  chain_left chain numbers' directions' e f =
      rw (f.long_is, f.costs_are, f.numbers_are, f.directions_are) (cycle (ap timetable_of e) f.picks f.legs f.legs_are f.closed)

-- what the fast way finds of so many events stays
pub searched : {own n : ℕ} {bs : List Bound} {l l' : Lent} {r : Option Solved} (m : ℕ) → m ≡ n → Searched own n bs l r l' → (a : Solved) → r ≡ Some a
    → Solves own m bs l a l'
searched m q (search_solves b l' s) a e = let f : a ≡ b = cc in rw (q, f) s
searched m q search_nothing a e = absurd (cc)

-- and where it finds nothing, what the passes come to they come to from what was lent
pub passed : {own n k : ℕ} {bs : List Bound} {l l' l'' : Lent} {r : Option Solved} {r' : Solved} (m : ℕ) → m ≡ k → Searched own n bs l r l' → r ≡ None
    → Solves own k bs l' r' l'' → Solves own m bs l r' l''
passed m q (search_solves b l' s) e t = absurd (cc)
passed m q search_nothing e t = rw q t

-- ---- at first

none_everywhere : (n : ℕ) → sums_in (replicate n low) ≡ replicate n None
unfolding sums_in
none_everywhere zero = refl
none_everywhere (suc n) = ap (λ (s : Sums). sum_at low ∷ s) (none_everywhere n) ∙ ap (λ (o : Option ℤ). o ∷ replicate n None) low_none

-- the sums before the first pass
pub first_sums : (n k : ℕ) → 1 ≤ n → n ≤ k → sums_in (take n (set (replicate k low) 0 (pos 0))) ≡ at_start n
unfolding sums_in at_start sum_at same_number
first_sums zero k g h = absurd (omega arith)
first_sums (suc n) zero g h = absurd (omega arith)
first_sums (suc n) (suc k) g h = ap (λ (s : Sums). Some (pos 0) ∷ s) (ap sums_in (take-replicate n k low (omega arith)) ∙ none_everywhere n)

-- ---- the slices lent

-- what is solved, by what is left in each slice
pub solved_left : {own m n : ℕ} {ends ranges : List ℕ} {l l' l'' : Lent} {a : Solved} → (network_fits m n ends ranges && long_enough l) ≡ true
    → Solves own n (bounds_in m ends ranges) l a l' → l'.times ≡ l''.times → l'.chain_bounds ≡ l''.chain_bounds → l'.chain_directions ≡ l''.chain_directions
    → Solving own m n ends ranges l (Some a) l''
solved_left {own} {m} {n} {ends} {ranges} {l} {l'} {l''} {a} f s t b d =
    let same : l' ≡ l'' = λ i. record { times = t i; chain_bounds = b i; chain_directions = d i } in
    solved f a l'' (subst (λ x. Solves own n (bounds_in m ends ranges) l a x) same s)

-- room that the test says
pub roomy : (l : Lent) → long_enough l ≡ true → Room l
roomy l e = room l (subst T (sym e) tt)

-- both of two tests, or not the second
pub both : (b c : Bool) → b ≡ true → c ≡ true → (b && c) ≡ true
both true c e f = f
both false c e f = e

pub not_both : (b c : Bool) → c ≡ false → (b && c) ≡ false
not_both true c e = e
not_both false c e = refl

-- An event raised by as many passes as there are events leads back to a cycle of parents that gains. Assumes nothing.
use Rattle.std.specs.Prelude.{Option, None, Some}
use Prim.Native.Nat.{ℕ, zero, suc, ◌+◌, ◌≤◌, ◌<◌}
use native.Mathlib.Omega.{arith}
use mathlib.Core.Path.{◌≡◌, refl, sym, ◌∙◌, subst}
use mathlib.Core.Logic.{◌≢◌, ⊎_elim}
use mathlib.Core.List.{List, [], ◌∷◌, Memᴰ}
use lib.IntN.{ℤ, pos, ◌+ℤ◌}
use lib.Signed.{◌<ℤ◌}
use lib.ListN.{length, get_or}
use Rattle.laws.proofs.Options.{none-ne-some, some-injective}
use Rattle.laws.proofs.Members.{at_place, none_there}
use Rattle.walks.specs.Walks.{Arc, Walk, stay, go}
use Rattle.walks.specs.Passes.{at_start, sums}
use Rattle.walks.specs.Parents.{Parents, parents, no_arc, before, repeated, steps_back, trail, Cyclic, Trapped}
use Rattle.walks.specs.Solutions.{Between, Back, total}
use Rattle.walks.proofs.Greatest.{AtLeast, none_greater}
use Rattle.walks.proofs.Settling.{ends_below}
use Rattle.walks.proofs.Search.{FirstBelow, found, nowhere, first}
use Rattle.walks.proofs.Orbit.{repeated_add, lands, forever}
use Rattle.walks.proofs.Outcome.{arc, Outcome, same, rose, outcome}
use Rattle.walks.proofs.Parents.{some_parent, sum_at, parent_at, parent_arc, rooted, ParentChain, parent_chain}
use Rattle.laws.proofs.Signed.{signed, sum, lt_or_le}

-- whether an event has no parent
None? : (o : Option ℕ) → Dec (o ≡ None)
None? None = yes refl
None? (Some i) = no (λ e. none-ne-some _ (sym e))

-- before the first pass only the start has a sum, and that is 0
start_at : (n x : ℕ) (s : ℤ) → get_or (at_start n) x None ≡ Some s → (x ≡ 0) × (s ≡ pos 0)
unfolding at_start
start_at zero x s e = absurd (none-ne-some _ e)
start_at (suc n) zero s e = (refl, sym (some-injective _ _ e))
start_at (suc n) (suc x) s e = absurd (none_there n x s e)

-- arcs followed backwards to the start are a walk
pub back_walk : (arcs : List Arc) (v : ℕ) (l : List Arc) → Back v 0 l → ((a : Arc) → Memᴰ a l → Memᴰ a arcs)
    → (w : ℤ) × Walk arcs (length l) v w × (w ≡ total l)
unfolding total
back_walk arcs v [] b h = (pos 0, subst (λ (z : ℕ). Walk arcs 0 z (pos 0)) (sym b) stay, refl)
back_walk arcs v (a ∷ as') b h =
    let (w, walk, e) = back_walk arcs a.from as' b.1 (λ x m. h x (Memᴰ.tail m)) in (
      w +ℤ a.adds,
      subst (λ (z : ℕ). Walk arcs (suc (length as')) z (w +ℤ a.adds)) (sym b.0) (go a (h a (Memᴰ.head refl)) walk),
      omega (signed, sum w a.adds, sum a.adds (total as')),
    )

module _ (arcs : List Arc) (n : ℕ) (p : 0 < n) (between : Between arcs n) where
  -- pass k + 1 gives v a sum that is more than any it had
  record Rise (k v : ℕ) (o : Option ℤ) : Type 0 where
    top : ℤ
    is : o ≡ Some top
    more : (r : ℤ) → sum_at arcs n between k v ≡ Some r → r <ℤ top

  -- a change is a rise
  rise : (k v : ℕ) {o : Option ℤ} {q : Option ℕ} → Outcome arcs (sums arcs n k) (parents arcs n k) v o q → o ≢ sum_at arcs n between k v → Rise k v o
  rise k v same h = absurd (h refl)
  rise k v (rose i x l to from up) h = record { top = x +ℤ (arc arcs i).adds; is = refl; more = up }

  -- a step back stays below n
  inside : (k u : ℕ) → u < n → before arcs (parents arcs n k) u < n
  unfolding before
  inside k u h = by (parent_at arcs n between k u) refl
    where
      by : (o : Option ℕ) → parent_at arcs n between k u ≡ o → elim o [ None ↦ u | Some i ↦ (arc arcs i).from ] < n
      by None e = h
      by (Some i) e = (between (arc arcs i) (at_place arcs i no_arc (parent_arc arcs n between k u i e).place)).0

  -- an event without a parent j steps back, j at most k, would be the start, with a walk of j arcs whose sum is at least the new one
  no_root : (k v j : ℕ) → j ≤ k → Rise k v (sum_at arcs n between (suc k) v)
      → ((i : ℕ) → i < j → parent_at arcs n between (suc k) (steps_back arcs (parents arcs n (suc k)) i v) ≢ None)
      → parent_at arcs n between (suc k) (steps_back arcs (parents arcs n (suc k)) j v) ≢ None
  unfolding sums
  no_root k v j b r h e =
      let ps : Parents = parents arcs n (suc k) in
      let x : ℕ = steps_back arcs ps j v in
      let l : List Arc = trail arcs ps j v in
      let c : ParentChain arcs n between (suc k) j v r.top x l = parent_chain arcs n between (suc k) j v r.top r.is h in
      let s : get_or (at_start n) x None ≡ Some c.end = sym (rooted arcs n between (suc k) x e) ∙ c.is in
      let z : (x ≡ 0) × (c.end ≡ pos 0) = start_at n x c.end s in
      let (w, walk, q) = back_walk arcs v l (subst (λ (y : ℕ). Back v y l) z.0 c.walk) c.of_arcs in
      let a : AtLeast (sum_at arcs n between k v) w = none_greater arcs n k (length l) v w p (ends_below arcs n between) walk (omega (arith, c.long)) in
      let m : a.value <ℤ r.top = r.more a.value a.there in
      omega (signed, sum c.end (total l), c.le, a.least, z.1)

  -- so each of the first k + 1 events back has a parent
  unrooted : (k v : ℕ) → Rise k v (sum_at arcs n between (suc k) v)
      → (j : ℕ) → j < suc k → parent_at arcs n between (suc k) (steps_back arcs (parents arcs n (suc k)) j v) ≢ None
  unrooted k v r =
      by (first (λ j. parent_at arcs n between (suc k) (steps_back arcs (parents arcs n (suc k)) j v) ≡ None)
      (λ j. None? (parent_at arcs n between (suc k) (steps_back arcs (parents arcs n (suc k)) j v))) (suc k))
    where
      by : FirstBelow (λ j. parent_at arcs n between (suc k) (steps_back arcs (parents arcs n (suc k)) j v) ≡ None) (suc k)
          → (j : ℕ) → j < suc k → parent_at arcs n between (suc k) (steps_back arcs (parents arcs n (suc k)) j v) ≢ None
      by (found i b e l) = absurd (no_root k v i (omega arith) r l e)
      by (nowhere h) = h

  -- a closed chain of parents gains: if it did not, each step would go to an earlier pass, and the last to the first
  closed_gains : (k j x : ℕ) → 0 < j → ((i : ℕ) → parent_at arcs n between k (steps_back arcs (parents arcs n k) i x) ≢ None)
      → steps_back arcs (parents arcs n k) j x ≡ x
      → ((a : Arc) → Memᴰ a (trail arcs (parents arcs n k) j x) → Memᴰ a arcs) × Back x x (trail arcs (parents arcs n k) j x)
      × (length (trail arcs (parents arcs n k) j x) ≡ j)
      × (pos 0 <ℤ total (trail arcs (parents arcs n k) j x))
  unfolding repeated
  closed_gains k j x b h e =
      let l : List Arc = trail arcs (parents arcs n k) j x in
      some_parent (parent_at arcs n between k x)
      (((a : Arc) → Memᴰ a l → Memᴰ a arcs) × Back x x l × (length l ≡ j) × (pos 0 <ℤ total l)) (h 0)
      (λ i q.
      let a = parent_arc arcs n between k x i q in
      let sx : ℤ = a.sv in
      let c : ParentChain arcs n between k j x sx x l =
      subst (λ (y : ℕ). ParentChain arcs n between k j x sx y l) e (parent_chain arcs n between k j x sx a.v_is (λ i _. h i))
      in
      let d : c.end ≡ sx = some-injective _ _ (sym c.is ∙ a.v_is) in (
        c.of_arcs,
        c.walk,
        c.long,
        ⊎_elim (λ y. y) (λ y.
            let z : sx ≡ c.end +ℤ total l = omega (signed, sum c.end (total l), c.le) in
            absurd (omega (arith, c.tie z))) (lt_or_le (pos 0) (total l)),
      ))

  -- so an event that pass n changes leads back to a cycle of parents that gains
  pub raised_trapped : (k v : ℕ) → suc k ≡ n → v < n → get_or (sums arcs n (suc k)) v None ≢ get_or (sums arcs n k) v None
      → Trapped arcs n (parents arcs n (suc k)) v
  raised_trapped k v e b up =
      record { parented = all; cyclic = cyc; of_arcs = gain.0; closed = gain.1; long = gain.2; gains = gain.3 }
    where
      ps : Parents
      ps = parents arcs n (suc k)

      x : ℕ
      x = steps_back arcs ps n v

      all : (j : ℕ) → get_or ps (steps_back arcs ps j v) None ≢ None
      all =
          forever (before arcs ps) n v (inside (suc k)) b (λ u. get_or ps u None ≢ None)
          (λ j c. unrooted k v (rise k v (outcome arcs n between k v) up) j (omega arith))

      cyc : Cyclic (before arcs ps) n x
      cyc = lands (before arcs ps) n v (inside (suc k)) b

      from_x : (i : ℕ) → get_or ps (steps_back arcs ps i x) None ≢ None
      from_x i = rw (repeated_add (before arcs ps) n i v) at (all (n + i))

      gain : ((a : Arc) → Memᴰ a (trail arcs ps cyc.period x) → Memᴰ a arcs) × Back x x (trail arcs ps cyc.period x)
          × (length (trail arcs ps cyc.period x) ≡ cyc.period)
          × (pos 0 <ℤ total (trail arcs ps cyc.period x))
      gain = closed_gains (suc k) cyc.period x cyc.positive from_x cyc.closes

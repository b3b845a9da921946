-- Sums that do not settle show a positive cycle, found along the parents; so where there is a solution they settle. Assumes nothing.
use Rattle.std.specs.Prelude.{Option, None, Some}
use Prim.Native.Nat.{ℕ, zero, suc, ◌+◌, ◌-◌, ◌≤◌, ◌<◌}
use native.Mathlib.Nat.{eq-or-lt_of_le}
use native.Mathlib.Omega.{arith}
use mathlib.Core.Path.{◌≡◌, refl, ap, sym, ◌∙◌, subst}
use mathlib.Core.Logic.{◌≢◌, ⊎_elim}
use mathlib.Core.Bool.{Bool, true, false}
use mathlib.Core.List.Memᴰ
use mathlib.Core.List.{List, [], ◌∷◌, Memᴰ}
use lib.Dec.{T}
use lib.IntN.{ℤ, pos, ℤ_discrete}
use lib.Signed.{◌<ℤ◌}
use lib.ListN.{length, get_or}
use Rattle.laws.proofs.Options.{none-ne-some, option_discrete}
use Rattle.walks.specs.Walks.{Arc}
use Rattle.walks.specs.Passes.{sums, first_agreeing, pass_number, Settled, settled}
use Rattle.walks.specs.Parents.{Parents, parents, repeated, steps_back, trail, Trapped}
use Rattle.walks.specs.Solutions.{Solves, Between, Back, NoneTwice, total, PositiveCycle}
use Rattle.walks.proofs.PassNumber.{still, same_everywhere, agrees_of}
use Rattle.walks.proofs.Search.{FirstBelow, found, nowhere, first, sure, not?}
use Rattle.walks.proofs.Outcome.{arc}
use Rattle.walks.proofs.Parents.{back_at, trail_at}
use Rattle.walks.proofs.Trap.{raised_trapped}
use Rattle.walks.proofs.Cycle.{cycle_excludes}

-- ---- the cycle of a trapped event

module _ (arcs : List Arc) (ps : Parents) where
  -- where the trail is as long as its steps, the first event has a parent
  has_parent : (j u : ℕ) → length (trail arcs ps (suc j) u) ≡ suc j → (i : ℕ) × (get_or ps u None ≡ Some i)
  unfolding trail
  has_parent j u l = by (get_or ps u None) refl l
    where
      by : (o : Option ℕ) → get_or ps u None ≡ o
          → length {A = Arc} (elim o [ None ↦ [] | Some i ↦ arc arcs i ∷ trail arcs ps j (arc arcs i).from ]) ≡ suc j
          → (i : ℕ) × (get_or ps u None ≡ Some i)
      by None e l = absurd (omega arith)
      by (Some i) e l = (i, e)

  -- its arcs end at the events of the steps
  ends_on : (j u w : ℕ) → Back u w (trail arcs ps j u) → length (trail arcs ps j u) ≡ j → (y : Arc) → Memᴰ y (trail arcs ps j u)
      → (i : ℕ) × (i < j) × (y.to ≡ steps_back arcs ps i u)
  unfolding trail repeated
  ends_on zero u w b l y m = absurd (Memᴰ.not-nil m)
  ends_on (suc j) u w b l y m =
      let (i, e) = has_parent j u l in
      let s : ℕ = (arc arcs i).from in
      let t : trail arcs ps (suc j) u ≡ arc arcs i ∷ trail arcs ps j s = trail_at arcs ps j u i e in
      let b' : Back u w (arc arcs i ∷ trail arcs ps j s) = subst (λ (z : List Arc). Back u w z) t b in
      let l' : length (arc arcs i ∷ trail arcs ps j s) ≡ suc j = ap length (sym t) ∙ l in
      ⊎_elim
      (λ (q : y ≡ arc arcs i). (0, omega arith, ap (λ (z : Arc). z.to) q ∙ sym b'.0))
      (λ q. let (k, h, f) = ends_on j s w b'.1 (omega arith) y q in (suc k, omega arith, f ∙ sym (back_at arcs ps k u i e)))
      (Memᴰ.cases_cons (subst (λ (z : List Arc). Memᴰ y z) t m))

  -- so no two of them end at the same one if no event is met twice
  trail_simple : (j u w : ℕ) → Back u w (trail arcs ps j u) → length (trail arcs ps j u) ≡ j
      → ((a b : ℕ) → a < b → b < j → steps_back arcs ps a u ≢ steps_back arcs ps b u)
      → NoneTwice (trail arcs ps j u)
  unfolding trail repeated
  trail_simple zero u w b l h = tt
  trail_simple (suc j) u w b l h =
      let (i, e) = has_parent j u l in
      let s : ℕ = (arc arcs i).from in
      let t : trail arcs ps (suc j) u ≡ arc arcs i ∷ trail arcs ps j s = trail_at arcs ps j u i e in
      let b' : Back u w (arc arcs i ∷ trail arcs ps j s) = subst (λ (z : List Arc). Back u w z) t b in
      let l' : length (arc arcs i ∷ trail arcs ps j s) ≡ suc j = ap length (sym t) ∙ l in
      let l'' : length (trail arcs ps j s) ≡ j = omega arith in
      subst (λ (z : List Arc). NoneTwice z) (sym t) (
        λ y m f. let (k, q, g) = ends_on j s w b'.1 l'' y m in
            h 0 (suc k) (omega arith) (omega arith) (b'.0 ∙ sym f ∙ g ∙ sym (back_at arcs ps k u i e)),
        trail_simple j s w b'.1 l''
            (λ a c p q f. h (suc a) (suc c) (omega arith) (omega arith) (back_at arcs ps a u i e ∙ f ∙ sym (back_at arcs ps c u i e))),
      )

-- the arcs of the trail of a trapped event are a positive cycle
pub trapped_cycle : (arcs : List Arc) (n : ℕ) (ps : Parents) (v : ℕ) (t : Trapped arcs n ps v)
    → (c : PositiveCycle arcs n) × (c.first ∷ c.rest ≡ trail arcs ps t.cyclic.period (steps_back arcs ps n v))
trapped_cycle arcs n ps v t =
    by (trail arcs ps t.cyclic.period (steps_back arcs ps n v)) t.of_arcs t.closed
    (trail_simple arcs ps t.cyclic.period (steps_back arcs ps n v) (steps_back arcs ps n v) t.closed t.long t.cyclic.simple) t.long t.gains
  where
    by : (l : List Arc) → ((a : Arc) → Memᴰ a l → Memᴰ a arcs) → Back (steps_back arcs ps n v) (steps_back arcs ps n v) l → NoneTwice l
        → length l ≡ t.cyclic.period → pos 0 <ℤ total l
        → (c : PositiveCycle arcs n) × (c.first ∷ c.rest ≡ l)
    by [] of closed simple long gains = absurd (omega (arith, t.cyclic.positive))
    by (a ∷ as') of closed simple long gains = (
      record {
        at = steps_back arcs ps n v;
        first = a;
        rest = as';
        of_arcs = of;
        closed = closed;
        simple = simple;
        short = omega (arith, t.cyclic.short);
        gains = gains;
      },
      refl,
    )

-- ---- sums that do not settle

module _ (arcs : List Arc) (n : ℕ) where
  -- where no number is found, no pass of those tried changes nothing
  never : (f k : ℕ) → first_agreeing arcs n f k ≡ None → (i : ℕ) → k ≤ i → i < k + f → ¬ T (still arcs n i)
  unfolding first_agreeing
  never zero k e i l m = absurd (omega arith)
  never (suc f) k e i l m = by (still arcs n k) refl (never f (suc k)) e
    where
      by : (b : Bool) → still arcs n k ≡ b → (first_agreeing arcs n f (suc k) ≡ None → (i : ℕ) → suc k ≤ i → i < suc k + f → ¬ T (still arcs n i))
          → ◌≡◌ {A = Option ℕ} (elim b [ true ↦ Some k | false ↦ first_agreeing arcs n f (suc k) ]) None
          → ¬ T (still arcs n i)
      by true q r e = absurd (none-ne-some _ (sym e))
      by false q r e = ⊎_elim (λ (h : k ≡ i). λ t. subst T q (subst (λ (x : ℕ). T (still arcs n x)) (sym h) t)) (λ h. r e i h (omega arith)) (eq-or-lt_of_le l)

  -- where nothing is settled no number is found
  unsettled_none : settled arcs n ≡ None → first_agreeing arcs n n 0 ≡ None
  unfolding settled pass_number
  unsettled_none e = by (first_agreeing arcs n n 0) e
    where
      by : (o : Option ℕ) → ◌≡◌ {A = Option Settled} (elim o [ None ↦ None | Some k ↦ Some (record { passes = k; sums = sums arcs n k }) ]) None → o ≡ None
      by None e = refl
      by (Some k) e = absurd (none-ne-some _ (sym e))

  -- whether a pass leaves an event as it was
  same? : (k v : ℕ) → Dec (get_or (sums arcs n (suc k)) v None ≡ get_or (sums arcs n k) v None)
  same? k v = option_discrete ℤ_discrete (get_or (sums arcs n (suc k)) v None) (get_or (sums arcs n k) v None)

  module _ (p : 0 < n) (between : Between arcs n) where
    -- some event is raised by pass n, and is trapped
    pub unsettled_trapped : settled arcs n ≡ None → (v : ℕ) × Trapped arcs n (parents arcs n n) v
    unsettled_trapped e = at (n - 1) (omega arith)
      where
        by : (k : ℕ) → suc k ≡ n → FirstBelow (λ v. ¬ (get_or (sums arcs n (suc k)) v None ≡ get_or (sums arcs n k) v None)) n
            → (v : ℕ) × Trapped arcs n (parents arcs n (suc k)) v
        by k q (found v l h b) = (v, raised_trapped arcs n p between k v q l h)
        by k q (nowhere h) = absurd (never n 0 (unsettled_none e) k (omega arith) (omega arith) (agrees_of arcs n k (same_everywhere arcs n k (λ v l. sym (sure (h v l) (same? k v))))))

        at : (k : ℕ) → suc k ≡ n → (v : ℕ) × Trapped arcs n (parents arcs n n) v
        at k q =
            subst (λ (m : ℕ). (v : ℕ) × Trapped arcs n (parents arcs n m) v) q
            (by k q (first (λ v. ¬ (get_or (sums arcs n (suc k)) v None ≡ get_or (sums arcs n k) v None)) (λ v. not? (same? k v)) n))

    -- so there is a positive cycle
    pub unsettled_cycle : settled arcs n ≡ None → PositiveCycle arcs n
    unsettled_cycle e = let (v, t) = unsettled_trapped e in (trapped_cycle arcs n (parents arcs n n) v t).0

    -- which a solution excludes
    pub solution_settles : (t : ℕ → ℤ) → Solves arcs t → ¬ (settled arcs n ≡ None)
    solution_settles t h e = cycle_excludes arcs n t (unsettled_cycle e) h.all

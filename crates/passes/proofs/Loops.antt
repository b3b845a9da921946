-- A cycle of parents of which nothing is known but what is checked: the events back are led, they come round and gain, and the start reaches them.
-- Assumes nothing.
use Rattle.std.specs.Prelude.{Option, None, Some}
use Prim.Native.Nat.{ℕ, zero, suc, ◌+◌, ◌-◌, ◌*◌, ◌/◌, ◌%◌, ◌≤◌, ◌<◌}
use native.Mathlib.Nat.{eq-or-lt_of_le}
use native.Mathlib.Decide.{dec_lt}
use native.Mathlib.Numerals.{add-one}
use native.Mathlib.Omega.{arith}
use mathlib.Core.Path.{◌≡◌, refl, ap, sym, ◌∙◌, subst}
use mathlib.Core.Logic.{◌≢◌, ◌⊎◌, inl, inr, ⊎_elim, by_cases}
use mathlib.Core.Bool.{true}
use mathlib.Core.List.{List, [], ◌∷◌, ◌++◌, flat_map, Memᴰ}
use lib.IntN.{ℤ, pos, neg_ℤ, neg_ℤ-+ℤ, ◌+ℤ◌, ◌-ℤ◌}
use lib.Signed.{lt_z, ◌<ℤ◌}
use lib.ListN.{length, get_or}
use Rattle.laws.proofs.Options.{none-ne-some}
use Rattle.laws.proofs.Members.{to_flat, at_place}
use Rattle.laws.proofs.Signed.{signed, sum, neg_up, neg_dn, up_sum, dn_sum, Within}
use Rattle.network.specs.Bounds.{Bound}
use Rattle.network.specs.BoundArrays.{bounds_in}
use Rattle.walks.specs.Walks.{Arc, Walk, stay, go, WalkWithin}
use Rattle.walks.specs.Passes.{Settled, settled}
use Rattle.walks.specs.Solutions.{Between, Back, total}
use Rattle.walks.specs.Parents.{Parents, no_arc, before, repeated, steps_back, trail, Cyclic, Trapped}
use Rattle.walks.proofs.Greatest.{AtLeast}
use Rattle.walks.proofs.Orbit.{repeated_add, lands, forever}
use Rattle.walks.proofs.Parents.{back_at, trail_at}
use Rattle.walks.proofs.Follow.{total_snoc, trail_suc}
use Rattle.walks.proofs.Settling.{one_value, settled_bounds, settled_walk}
use Rattle.schedule.specs.Timetable.{forward, ways}
use Rattle.passes.specs.Solving.{bounds_fit, no_bound}
use Rattle.passes.specs.Places.{bound_at}
use Rattle.passes.specs.Marks.{parents_in, Led, LedBack, Gaining, CycleFound}
use Rattle.passes.proofs.Fitting.{bounds_length, bound_is, arcs_between}
use Rattle.passes.proofs.ParentArcs.{Parent, before_below, steps_below}
use Rattle.passes.proofs.Cycles.{step_back, costs_more}

-- ---- a cycle that gains

-- the trail of events that are led back: it is of the arcs, goes back step by step, and is as long as its steps
led_trail : (arcs : List Arc) (ps : Parents) (j v : ℕ) → ((i : ℕ) → Led arcs ps (steps_back arcs ps i v))
    → ((a : Arc) → Memᴰ a (trail arcs ps j v) → Memᴰ a arcs) × Back v (steps_back arcs ps j v) (trail arcs ps j v) × (length (trail arcs ps j v) ≡ j)
unfolding repeated trail
led_trail arcs ps zero v led = (λ a m. absurd (mathlib.Core.List.Memᴰ.not-nil m), refl, refl)
led_trail arcs ps (suc j) v led =
    let l : Led arcs ps v = led 0 in
    let a : Arc = get_or arcs l.place no_arc in
    let (of, back, long) = led_trail arcs ps j a.from (λ i. subst (Led arcs ps) (back_at arcs ps i v l.place l.place_is) (led (suc i))) in
    rw (back_at arcs ps j v l.place l.place_is, trail_at arcs ps j v l.place l.place_is) (
      λ b m. ⊎_elim (λ (e : b ≡ a). subst (λ (z : Arc). Memᴰ z arcs) (sym e) l.of_arcs) (λ t. of b t) (mathlib.Core.List.Memᴰ.cases_cons m),
      (sym l.ends, back),
      ap suc long,
    )

module _ (arcs : List Arc) (n : ℕ) (ps : Parents) (v : ℕ) (low : v < n) (between : Between arcs n)
    (led : (j : ℕ) → j < n → Led arcs ps (steps_back arcs ps j v)) where
  -- what is led for n steps is led for ever
  all_led : (j : ℕ) → Led arcs ps (steps_back arcs ps j v)
  all_led = forever (before arcs ps) n v (before_below arcs n ps (omega arith) between) low (Led arcs ps) led

  led_on : (i : ℕ) → Led arcs ps (steps_back arcs ps i (steps_back arcs ps n v))
  led_on i = rw (repeated_add (before arcs ps) n i v) at (all_led (n + i))

  -- the first return is the one after a period
  period_is : (c : Cyclic (before arcs ps) n (steps_back arcs ps n v)) (g : Gaining arcs n ps (steps_back arcs ps n v)) → g.steps ≡ c.period
  unfolding repeated
  period_is c g =
      by_cases (dec_lt g.steps c.period) (λ h. absurd (c.simple 0 g.steps g.positive h (sym g.closes)))
      (λ h. by_cases (dec_lt c.period g.steps) (λ k. absurd (g.first c.period c.positive k c.closes)) (λ k. omega arith))

  -- so the event is trapped
  cycle_trapped : Gaining arcs n ps (steps_back arcs ps n v) → Trapped arcs n ps v
  cycle_trapped g =
      let x : ℕ = steps_back arcs ps n v in
      let c : Cyclic (before arcs ps) n x = lands (before arcs ps) n v (before_below arcs n ps (omega arith) between) low in
      let (of, back, long) = led_trail arcs ps c.period x led_on in
      record {
        parented = λ j e. none-ne-some _ (sym e ∙ (all_led j).place_is);
        cyclic = c;
        of_arcs = of;
        closed = subst (λ (y : ℕ). Back x y (trail arcs ps c.period x)) c.closes back;
        long = long;
        gains = subst (λ (k : ℕ). pos 0 <ℤ total (trail arcs ps k x)) (period_is c g) g.gains;
      }

-- ---- a cycle that the start reaches

-- a walk goes on along arcs followed backwards
walk_on : (arcs : List Arc) (k u : ℕ) (w : ℤ) → Walk arcs k u w → (v : ℕ) (l : List Arc) → Back v u l → ((a : Arc) → Memᴰ a l → Memᴰ a arcs)
    → (m : ℕ) × (y : ℤ) × Walk arcs m v y × (y ≡ w +ℤ total l)
unfolding total
walk_on arcs k u w walk v [] b h = (k, w, subst (λ (z : ℕ). Walk arcs k z w) (sym b) walk, omega (signed, sum w (pos 0)))
walk_on arcs k u w walk v (a ∷ as') b h =
    let (m, y, on, e) = walk_on arcs k u w walk a.from as' b.1 (λ x t. h x (mathlib.Core.List.Memᴰ.tail t)) in (
      suc m,
      y +ℤ a.adds,
      subst (λ (z : ℕ). Walk arcs (suc m) z (y +ℤ a.adds)) (sym b.0) (go a (h a (mathlib.Core.List.Memᴰ.head refl)) on),
      omega (signed, sum y a.adds, sum w (total as'), sum a.adds (total as'), sum w (a.adds +ℤ total as')),
    )

-- the greatest sum on a closed walk that gains would grow by going round
cycle_unsettled : (arcs : List Arc) (n : ℕ) → 0 < n → Between arcs n → (x : ℕ) (l : List Arc) → Back x x l → ((a : Arc) → Memᴰ a l → Memᴰ a arcs)
    → pos 0 <ℤ total l → (k : ℕ) (w : ℤ) → Walk arcs k x w → settled arcs n ≡ None
cycle_unsettled arcs n p between x l back of gains k w walk = by (settled arcs n) refl
  where
    by : (o : Option Settled) → settled arcs n ≡ o → o ≡ None
    by None e = refl
    by (Some s) e =
        let a : AtLeast (get_or s.sums x None) w = settled_bounds arcs n p between s e k x w walk in
        let r : WalkWithin arcs s.passes x a.value = settled_walk arcs n p between s e x a.value a.there in
        let (m, y, on, q) = walk_on arcs r.count x a.value r.walk x l back of in
        let b : AtLeast (get_or s.sums x None) y = settled_bounds arcs n p between s e m x y on in
        let f : a.value ≡ b.value = one_value (get_or s.sums x None) a.value b.value a.there b.there in
        absurd (omega (signed, sum a.value (total l), b.least))

-- the event is the start, or a bound goes there from the start
abbrev pub Reached : ℕ → List ℕ → ℕ → Type 0
Reached m ends x = (x ≡ 0) ⊎ ((i : ℕ) × (i < m) × (get_or ends (2 * i) 0 ≡ 0) × (get_or ends (2 * i + 1) 0 ≡ x))

-- so a walk does
start_walk : (m : ℕ) (ends ranges : List ℕ) (x : ℕ) → Reached m ends x → (k : ℕ) × (w : ℤ) × Walk (flat_map ways (bounds_in m ends ranges)) k x w
unfolding ways forward
start_walk m ends ranges x (inl e) = (0, pos 0, subst (λ (z : ℕ). Walk (flat_map ways (bounds_in m ends ranges)) 0 z (pos 0)) (sym e) stay)
start_walk m ends ranges x (inr (i, h, f, t)) =
    let bs : List Bound = bounds_in m ends ranges in
    let b : Bound = bound_at i ends ranges in
    let l : i < length bs = omega (arith, bounds_length m ends ranges) in
    let there : Memᴰ b bs = subst (λ (y : Bound). Memᴰ y bs) (bound_is m ends ranges i no_bound h) (at_place bs i no_bound l) in
    let arc : Memᴰ (forward b) (flat_map ways bs) = to_flat ways bs b (forward b) there (mathlib.Core.List.Memᴰ.head refl) in (
      1,
      pos 0 +ℤ pos b.lo,
      subst (λ (z : ℕ). Walk (flat_map ways bs) 1 z (pos 0 +ℤ pos b.lo)) t
          (go (forward b) arc (subst (λ (z : ℕ). Walk (flat_map ways bs) 0 z (pos 0)) (sym f) stay)),
    )

-- ---- the cycle of the code

module _ (m : ℕ) (ends ranges codes : List ℕ) where
  -- the arcs of the bounds, and the parents
  abbrev arcs : List Arc
  arcs = flat_map ways (bounds_in m ends ranges)

  abbrev ps : Parents
  ps = parents_in (bounds_in m ends ranges) codes

  -- the events further back are led too
  pub led_from : (v x : ℕ) → v < length codes → bounds_fit (length codes) (bounds_in m ends ranges) ≡ true → LedBack (bounds_in m ends ranges) codes v x
      → (j : ℕ) → Led arcs ps (steps_back arcs ps j x)
  led_from v x low fit b j =
      subst (λ (y : ℕ). Led arcs ps (steps_back arcs ps j y)) (sym b.at)
      (led_on arcs (length codes) ps v low (arcs_between (length codes) (bounds_in m ends ranges) fit) b.led j)

  -- what the checks come to
  pub cycle_found : (v x : ℕ) → v < length codes → bounds_fit (length codes) (bounds_in m ends ranges) ≡ true → LedBack (bounds_in m ends ranges) codes v x
      → Reached m ends x → Gaining arcs (length codes) ps x → CycleFound (bounds_in m ends ranges) codes x
  cycle_found v x low fit b reached g =
      let n : ℕ = length codes in
      let between : Between arcs n = arcs_between n (bounds_in m ends ranges) fit in
      let t : Trapped arcs n ps v = cycle_trapped arcs n ps v low between b.led (subst (Gaining arcs n ps) b.at g) in
      let (k, w, walk) = start_walk m ends ranges x reached in
      record {
        unsettled =
            cycle_unsettled arcs n (omega arith) between (steps_back arcs ps n v) (trail arcs ps t.cyclic.period (steps_back arcs ps n v)) t.closed
            t.of_arcs t.gains k w (subst (λ (y : ℕ). Walk arcs k y w) b.at walk);
        event = v;
        below = low;
        trapped = t;
        starts = b.at;
      }

  -- an event with a parent that ends at it is led back
  pub led_here : (n x c : ℕ) → Parent m n ends ranges codes x c → get_or ends (2 * (c / 2) + (1 - c % 2)) 0 ≡ x → Led arcs ps x
  led_here n x c p e = record { place = p.place; place_is = p.place_is; of_arcs = p.of_arcs; ends = sym p.ends_at ∙ e }

  -- one more of them
  pub led_more : (v j x : ℕ) → x ≡ steps_back arcs ps j v → ((i : ℕ) → i < j → Led arcs ps (steps_back arcs ps i v)) → Led arcs ps x
      → (i : ℕ) → i < j + 1 → Led arcs ps (steps_back arcs ps i v)
  led_more v j x at led l i h =
      by_cases (dec_lt i j) (led i) (λ k.
      let e : j ≡ i = omega arith in
      subst (Led arcs ps) (at ∙ ap (λ (y : ℕ). steps_back arcs ps y v) e) l)

  -- ---- once round

  module _ (start : ℕ) where
    -- k steps from `start`, not back before
    pub record Round (k x : ℕ) (costs : ℤ) : Type 0 where
      pub at : x ≡ steps_back arcs ps k start
      pub costs_are : costs ≡ neg_ℤ (total (trail arcs ps k start))
      pub small : Within (k * 1_000_000_000_000) costs
      pub apart : (i : ℕ) → 0 < i → i < k → steps_back arcs ps i start ≢ start

    -- no step yet
    pub no_step : Round 0 start (pos 0)
    unfolding repeated trail total
    no_step = record { at = refl; costs_are = refl; small = record { above = omega arith; under = omega arith }; apart = λ i p h. absurd (omega arith) }

    module _ {k x : ℕ} {costs : ℤ} (r : Round k x costs) where
      -- an event on the way is among the events, and has a parent
      pub round_below : bounds_fit (length codes) (bounds_in m ends ranges) ≡ true → start < length codes → x < length codes
      round_below fit low =
          subst (λ (y : ℕ). y < length codes) (sym r.at)
          (steps_below arcs (length codes) ps (omega arith) (arcs_between (length codes) (bounds_in m ends ranges) fit) k start low)

      -- one step more
      pub round_more : (n c : ℕ) → Parent m n ends ranges codes x c → (0 < k → x ≢ start) → (costs' : ℤ)
          → (c % 2 ≡ 0 → costs' ≡ costs -ℤ pos (get_or ranges c 0)) × (c % 2 ≡ 1 → costs' ≡ costs +ℤ pos (get_or ranges c 0 - 1))
          → Round (k + 1) (get_or ends c 0) costs'
      round_more n c p away costs' w =
          let arc : Arc = get_or arcs p.place no_arc in
          let old : List Arc = trail arcs ps k start in
          let more : trail arcs ps (suc k) start ≡ old ++ (arc ∷ []) =
          trail_suc arcs ps k start p.place (ap (λ (y : ℕ). get_or ps y None) (sym r.at) ∙ p.place_is)
          in
          let (cost-is, cost-small) = costs_more c (get_or ranges c 0) costs costs' arc.adds p.lower p.upper p.small w.0 w.1 in
          let within : Within (k * 1_000_000_000_000) costs = r.small in
          rw (add-one k) (record {
            at = step_back m ends ranges codes n start k x c r.at p;
            costs_are =
                cost-is ∙ ap (λ (z : ℤ). z +ℤ neg_ℤ arc.adds) r.costs_are ∙ sym (neg_ℤ-+ℤ (total old) arc.adds)
                ∙ ap neg_ℤ (sym (total_snoc old arc)) ∙ ap (λ (l : List Arc). neg_ℤ (total l)) (sym more);
            small = subst (Within (suc k * 1_000_000_000_000)) (sym cost-is) (record {
              above = omega (arith, within.above, cost-small.above, up_sum costs (neg_ℤ arc.adds));
              under = omega (arith, within.under, cost-small.under, dn_sum costs (neg_ℤ arc.adds));
            });
            apart = λ i q h. ⊎_elim
                (λ (e : i ≡ k). λ f. away (subst (λ (y : ℕ). 0 < y) e q) (r.at ∙ ap (λ (y : ℕ). steps_back arcs ps y start) (sym e) ∙ f))
                (λ l. r.apart i q l)
                (eq-or-lt_of_le (omega arith));
          })

      -- back where it started: what costs less than 0 gains
      pub round_gains : 0 < k → k ≤ length codes → x ≡ start → lt_z costs (pos 0) ≡ true → Gaining arcs (length codes) ps start
      round_gains p h e less =
          let t : ℤ = total (trail arcs ps k start) in
          let q : costs ≡ neg_ℤ t = r.costs_are in
          record {
            steps = k;
            positive = p;
            short = h;
            closes = sym r.at ∙ e;
            first = r.apart;
            gains = omega (signed, neg_up t, neg_dn t);
          }

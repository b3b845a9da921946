-- The parent of an event, by its code: the bound, the direction in which a chain follows it, where it leads and what it costs. Assumes nothing.
use Rattle.std.specs.Prelude.{Option, None, Some}
use Prim.Native.Nat.{ℕ, zero, suc, ◌+◌, ◌-◌, ◌*◌, ◌/◌, ◌%◌, ◌≤◌, ◌<◌}
use native.Mathlib.Decide.{dec_lt}
use native.Mathlib.Nat.{add-zero}
use native.Mathlib.Numerals.{add-one}
use native.Mathlib.Omega.{arith}
use mathlib.Core.Path.{◌≡◌, refl, ap, ap₂, sym, ◌∙◌, subst}
use mathlib.Core.Logic.{◌≢◌, by_cases}
use mathlib.Core.Bool.{true, cond}
use mathlib.Core.List.{List, [], ◌∷◌, flat_map, Memᴰ}
use lib.Dec.{eqb}
use lib.IntN.{ℤ, pos, neg_ℤ, neg_ℤ-neg_ℤ}
use lib.ListN.{length, get_or, get_or-eq_default, get_or-map}
use Rattle.std.proofs.lemmas.List.Concat.{get_or-flat_map}
use Rattle.laws.proofs.Members.{to_flat, at_place}
use Rattle.network.specs.Bounds.{Bound}
use Rattle.network.specs.BoundArrays.{hi_number, bounds_in}
use Rattle.walks.specs.Walks.{Arc}
use Rattle.walks.specs.Solutions.{Between}
use Rattle.walks.specs.Parents.{Parents, no_arc, before, steps_back}
use Rattle.walks.proofs.Orbit.{repeated_below}
use Rattle.schedule.specs.Timetable.{forward, backward, ways}
use Rattle.schedule.specs.Chain.{Direction, onward, back, onward_leg, leg, direction_number}
use Rattle.schedule.proofs.Chains.{mirror}
use Rattle.passes.specs.Solving.{bounds_fit, no_bound}
use Rattle.passes.specs.Places.{bound_at}
use Rattle.passes.specs.Marks.{ways_before, arc_place, parents_in, Code, of_none, of_forward, of_backward, Coded}
use Rattle.passes.proofs.Fitting.{bounds_length, bound_is, hi_number_of, Fitting, fitting, place_fits}
use Rattle.passes.proofs.BothWays.{forward_place, backward_place}

-- ---- the arcs of a bound, by their places

-- forward comes first
forward_at : (bs : List Bound) (i : ℕ) → i < length bs → get_or (flat_map ways bs) (ways_before bs i) no_arc ≡ forward (get_or bs i no_bound)
unfolding ways ways_before flat_map no_arc
forward_at bs i h =
    ap (λ (p : ℕ). get_or (flat_map ways bs) p no_arc) (sym (add-zero (ways_before bs i))) ∙ get_or-flat_map ways bs i 0 no_bound no_arc h (omega arith)

-- then backward
backward_at : (bs : List Bound) (i k : ℕ) → i < length bs → (get_or bs i no_bound).hi ≡ Some k
    → get_or (flat_map ways bs) (suc (ways_before bs i)) no_arc
    ≡ record { from = (get_or bs i no_bound).to; to = (get_or bs i no_bound).from; adds = neg_ℤ (pos k) }
unfolding ways backward ways_before flat_map no_arc
backward_at bs i k h e =
    let b : Bound = get_or bs i no_bound in
    let two : ways b ≡ forward b ∷ record { from = b.to; to = b.from; adds = neg_ℤ (pos k) } ∷ [] =
    ap (λ (o : Option ℕ). forward b ∷ backward b o) e
    in
    let one : 1 < length (ways b) = subst (λ (l : List Arc). 1 < length l) (sym two) (omega arith) in
    let next : suc (ways_before bs i) ≡ ways_before bs i + 1 = omega arith in
    ap (λ (p : ℕ). get_or (flat_map ways bs) p no_arc) next ∙ get_or-flat_map ways bs i 1 no_bound no_arc h one ∙ ap (λ (l : List Arc). get_or l 1 no_arc) two

-- both are among the arcs
forward_among : (bs : List Bound) (i : ℕ) → i < length bs → Memᴰ (get_or (flat_map ways bs) (ways_before bs i) no_arc) (flat_map ways bs)
unfolding ways
forward_among bs i h =
    let b : Bound = get_or bs i no_bound in
    rw (forward_at bs i h) (to_flat ways bs b (forward b) (at_place bs i no_bound h) (Memᴰ.head refl))

backward_among : (bs : List Bound) (i k : ℕ) → i < length bs → (get_or bs i no_bound).hi ≡ Some k
    → Memᴰ (get_or (flat_map ways bs) (suc (ways_before bs i)) no_arc) (flat_map ways bs)
unfolding ways backward
backward_among bs i k h e =
    let b : Bound = get_or bs i no_bound in
    let a : Arc = record { from = b.to; to = b.from; adds = neg_ℤ (pos k) } in
    let m : Memᴰ a (ways b) = rw e (Memᴰ.tail (Memᴰ.head refl)) in
    rw (backward_at bs i k h e) (to_flat ways bs b a (at_place bs i no_bound h) m)

-- ---- the parent of an event

-- the direction in which a chain follows the bound of the code c + 1: the other one
abbrev pub direction_of : ℕ → Direction
direction_of c = cond (eqb (c % 2) 0) back onward

-- its number
pub direction_is : (c : ℕ) → direction_number (direction_of c) ≡ 1 - c % 2
unfolding direction_number
direction_is c = by (c % 2) (omega arith)
  where
    by : (r : ℕ) → r < 2 → direction_number (cond (eqb r 0) back onward) ≡ 1 - r
    by zero h = refl
    by (suc zero) h = refl
    by (suc (suc r)) h = absurd (omega arith)

module _ (m n : ℕ) (ends ranges codes : List ℕ) (x : ℕ) where
  -- what the code c + 1 at x says
  pub record Parent (c : ℕ) : Type 0 where
    pub code_is : get_or codes x 0 ≡ suc c
    pub within : c < 2 * m
    pub place : ℕ
    pub place_is : get_or (parents_in (bounds_in m ends ranges) codes) x None ≡ Some place
    pub begins : get_or ends c 0 ≡ (get_or (flat_map ways (bounds_in m ends ranges)) place no_arc).from
    pub ends_at : get_or ends (2 * (c / 2) + (1 - c % 2)) 0 ≡ (get_or (flat_map ways (bounds_in m ends ranges)) place no_arc).to
    pub of_arcs : Memᴰ (get_or (flat_map ways (bounds_in m ends ranges)) place no_arc) (flat_map ways (bounds_in m ends ranges))
    pub its_leg : leg (get_or (bounds_in m ends ranges) (c / 2) no_bound) (direction_of c) ≡ Some (mirror (get_or (flat_map ways (bounds_in m ends ranges)) place no_arc))
    pub small : get_or ranges c 0 ≤ 1_000_000_000_001
    pub lower : c % 2 ≡ 0 → (get_or ranges c 0 ≤ 1_000_000_000_000) × ((get_or (flat_map ways (bounds_in m ends ranges)) place no_arc).adds ≡ pos (get_or ranges c 0))
    pub upper : c % 2 ≡ 1 → (1 ≤ get_or ranges c 0) × ((get_or (flat_map ways (bounds_in m ends ranges)) place no_arc).adds ≡ neg_ℤ (pos (get_or ranges c 0 - 1)))

  module _ (fit : bounds_fit n (bounds_in m ends ranges) ≡ true) where
    abbrev bs : List Bound
    bs = bounds_in m ends ranges

    place_of : get_or (parents_in bs codes) x None ≡ arc_place bs (get_or codes x 0)
    unfolding parents_in arc_place
    place_of = get_or-map (arc_place bs) codes x 0

    fits_at : (i : ℕ) → i < m → Fitting n (bound_at i ends ranges)
    fits_at i h = fitting n (bound_at i ends ranges) (place_fits n m ends ranges i h fit)

    -- of a bound followed forward
    forward_parent : (i : ℕ) → i < m → get_or codes x 0 ≡ 2 * i + 1 → Parent (2 * i)
    unfolding forward leg
    forward_parent i h e =
        let l : i < length bs = omega (arith, bounds_length m ends ranges) in
        let b : get_or bs i no_bound ≡ bound_at i ends ranges = bound_is m ends ranges i no_bound h in
        let a : get_or (flat_map ways bs) (ways_before bs i) no_arc ≡ forward (bound_at i ends ranges) = forward_at bs i l ∙ ap forward b in
        let d : 2 * i / 2 ≡ i = omega arith in
        let r : 2 * i % 2 ≡ 0 = omega arith in
        let t : 2 * (2 * i / 2) + (1 - 2 * i % 2) ≡ 2 * i + 1 = omega arith in
        record {
          code_is = e ∙ add-one (2 * i);
          within = omega arith;
          place = ways_before bs i;
          place_is = place_of ∙ ap (arc_place bs) e ∙ forward_place bs i;
          begins = sym (ap (λ (y : Arc). y.from) a);
          ends_at = ap (λ (j : ℕ). get_or ends j 0) t ∙ sym (ap (λ (y : Arc). y.to) a);
          of_arcs = forward_among bs i l;
          its_leg =
              ap₂ leg (ap (λ (j : ℕ). get_or bs j no_bound) d ∙ b) (ap (λ (j : ℕ). cond (eqb j 0) back onward) r)
              ∙ ap (λ (y : Arc). Some (mirror y)) (sym a);
          small = omega (arith, (fits_at i h).lo_fits);
          lower = λ q. ((fits_at i h).lo_fits, ap (λ (y : Arc). y.adds) a);
          upper = λ q. absurd (omega arith);
        }

    -- and backward
    backward_parent : (i k : ℕ) → i < m → (get_or bs i no_bound).hi ≡ Some k → get_or codes x 0 ≡ 2 * i + 2 → Parent (2 * i + 1)
    unfolding leg onward_leg hi_number
    backward_parent i k h hi e =
        let l : i < length bs = omega (arith, bounds_length m ends ranges) in
        let b : get_or bs i no_bound ≡ bound_at i ends ranges = bound_is m ends ranges i no_bound h in
        let top : (bound_at i ends ranges).hi ≡ Some k = ap (λ (y : Bound). y.hi) (sym b) ∙ hi in
        let g : get_or ranges (2 * i + 1) 0 ≡ suc k = sym (hi_number_of (get_or ranges (2 * i + 1) 0)) ∙ ap hi_number top in
        let arc : Arc = record { from = (bound_at i ends ranges).to; to = (bound_at i ends ranges).from; adds = neg_ℤ (pos k) } in
        let a : get_or (flat_map ways bs) (suc (ways_before bs i)) no_arc ≡ arc =
        backward_at bs i k l hi ∙ ap (λ (y : Bound). record { from = y.to; to = y.from; adds = neg_ℤ (pos k) }) b
        in
        let d : (2 * i + 1) / 2 ≡ i = omega arith in
        let r : (2 * i + 1) % 2 ≡ 1 = omega arith in
        let t : 2 * ((2 * i + 1) / 2) + (1 - (2 * i + 1) % 2) ≡ 2 * i = omega arith in
        let c : 2 * i + 2 ≡ suc (2 * i + 1) = omega arith in
        let w : k ≡ get_or ranges (2 * i + 1) 0 - 1 = omega arith in
        record {
          code_is = e ∙ c;
          within = omega arith;
          place = suc (ways_before bs i);
          place_is = place_of ∙ ap (arc_place bs) e ∙ backward_place bs i;
          begins = sym (ap (λ (y : Arc). y.from) a);
          ends_at = ap (λ (j : ℕ). get_or ends j 0) t ∙ sym (ap (λ (y : Arc). y.to) a);
          of_arcs = backward_among bs i k l hi;
          its_leg =
              ap₂ leg (ap (λ (j : ℕ). get_or bs j no_bound) d ∙ b) (ap (λ (j : ℕ). cond (eqb j 0) back onward) r)
              ∙ ap (onward_leg (bound_at i ends ranges)) top
              ∙ ap (λ (z : ℤ). Some (record { begins = (bound_at i ends ranges).from; ends = (bound_at i ends ranges).to; costs = z })) (sym (neg_ℤ-neg_ℤ (pos k)))
              ∙ ap (λ (y : Arc). Some (mirror y)) (sym a);
          small = omega (arith, (fits_at i h).hi_fits, hi_number_of (get_or ranges (2 * i + 1) 0));
          lower = λ q. absurd (omega arith);
          upper = λ q. (omega arith, ap (λ (y : Arc). y.adds) a ∙ ap (λ (j : ℕ). neg_ℤ (pos j)) w);
        }

    -- a code that is not 0 is of a parent
    pub coded_parent : Coded bs codes → get_or codes x 0 ≢ 0 → Parent (get_or codes x 0 - 1)
    coded_parent coded h = by (coded x)
      where
        by : Code bs (get_or codes x 0) → Parent (get_or codes x 0 - 1)
        by (of_none e) = absurd (h e)
        by (of_forward i l e) =
            let c : 2 * i ≡ get_or codes x 0 - 1 = omega arith in
            subst Parent c (forward_parent i (omega (arith, bounds_length m ends ranges)) e)
        by (of_backward i k l hi e) =
            let c : 2 * i + 1 ≡ get_or codes x 0 - 1 = omega arith in
            subst Parent c (backward_parent i k (omega (arith, bounds_length m ends ranges)) hi e)

    -- an event whose parent is not missing has one
    pub parent : Coded bs codes → get_or (parents_in bs codes) x None ≢ None → Parent (get_or codes x 0 - 1)
    unfolding arc_place
    parent coded h = coded_parent coded (λ e. h (place_of ∙ ap (arc_place bs) e))

-- ---- steps back

module _ (arcs : List Arc) (n : ℕ) (ps : Parents) (some_event : 0 < n) (between : Between arcs n) where
  begins_below : (i : ℕ) → (get_or arcs i no_arc).from < n
  unfolding no_arc
  begins_below i =
      by_cases (dec_lt i (length arcs))
      (λ h. (between (get_or arcs i no_arc) (at_place arcs i no_arc h)).0)
      (λ h. subst (λ (a : Arc). a.from < n) (sym (get_or-eq_default arcs no_arc (omega arith))) some_event)

  pub before_below : (u : ℕ) → u < n → before arcs ps u < n
  unfolding before
  before_below u h = by (get_or ps u None)
    where
      by : (o : Option ℕ) → elim o [ None ↦ u | Some i ↦ (get_or arcs i no_arc).from ] < n
      by None = h
      by (Some i) = begins_below i

  -- they stay among the events
  pub steps_below : (j v : ℕ) → v < n → steps_back arcs ps j v < n
  steps_below j v h = repeated_below (before arcs ps) n before_below j v h

-- Back along the parents of a network's events, as the code reads them. Assumes nothing.
use Rattle.std.specs.Prelude.{Option, None, Some, MatchOption}
use Rattle.std.specs.Option.{IsSome, SomeIff}
use Prim.Native.Nat.{ℕ, zero, suc, ◌+◌, ◌-◌, ◌≤◌, ◌<◌}
use native.Mathlib.Numerals.{add-one}
use native.Mathlib.Omega.{arith}
use mathlib.Core.Path.{◌≡◌, refl, ap, sym, ◌∙◌, subst}
use mathlib.Core.Logic.{◌≢◌}
use mathlib.Core.Bool.{true}
use mathlib.Core.List.{List, flat_map}
use Rattle.laws.proofs.Options.{none-ne-some}
use lib.ListN.{length, get_or, get_or-map}
use Rattle.walks.specs.Walks.{Arc}
use Rattle.walks.specs.Parents.{Parents, steps_back}
use Rattle.schedule.specs.Timetable.{ways}
use Rattle.passes.specs.declared.arrays.Network.{Network}
use Rattle.passes.specs.declared.parents.Parents.{Parents as Codes}
use Rattle.passes.specs.Solving.{bounds_fit}
use Rattle.passes.specs.Marks.{arc_place, parents_in, Led}
use Rattle.passes.specs.Networks.{bounds_of, IsArc}
use Rattle.passes.proofs.Fitting.{arcs_between}
use Rattle.passes.proofs.ParentArcs.{Parent, coded_parent, steps_below}
use Rattle.passes.proofs.Cycles.{step_back}

module _ (p : Codes) where
  abbrev net : Network
  net = p.net.now

  abbrev pub arcs : List Arc
  arcs = flat_map ways (bounds_of p.net.now)

  abbrev pub ps : Parents
  ps = parents_in (bounds_of p.net.now) p.codes.now

  -- what the code of the parent of x says, if x has one
  abbrev pub Told : ℕ → Option ℕ → Type 0
  Told x o = MatchOption o (get_or p.codes.now x 0 ≡ 0) (λ c. (get_or p.codes.now x 0 ≡ c + 1) × IsArc p.net.now c)

  -- the parent whose code is c + 1
  pub parent_of : (x c : ℕ) → get_or p.codes.now x 0 ≡ c + 1
      → Parent p.net.now.bounds p.net.now.events p.net.now.ends.now p.net.now.ranges.now p.codes.now x c
  parent_of x c e =
      let q : get_or p.codes.now x 0 - 1 ≡ c = omega arith in
      subst (Parent net.bounds net.events net.ends.now net.ranges.now p.codes.now x) q
      (coded_parent net.bounds net.events net.ends.now net.ranges.now p.codes.now x net.all_fit p.coded (λ z. absurd (omega arith)))

  -- as it is read
  pub told : (x : ℕ) (o : Option ℕ) → SomeIff o (1 ≤ get_or p.codes.now x 0) (get_or p.codes.now x 0 - 1) → Told x o
  told x None h = by (get_or p.codes.now x 0) h
    where
      by : (n : ℕ) → ¬ (1 ≤ n) → n ≡ 0
      by zero q = refl
      by (suc n) q = absurd (q (omega arith))
  told x (Some c) h =
      let e : get_or p.codes.now x 0 ≡ c + 1 = omega (arith, h.0, h.1) in
      let q = parent_of x c e in
      (e, (q.within, λ r. (q.upper r).0))

  -- an event whose parent is not missing has a code
  pub some_told : (x : ℕ) (o : Option ℕ) → Told x o → get_or ps x None ≢ None → IsSome o
  unfolding arc_place parents_in
  some_told x None h f = absurd (f (get_or-map (arc_place (bounds_of net)) p.codes.now x 0 ∙ ap (arc_place (bounds_of net)) h))
  some_told x (Some c) h f = refl

  pub told_some : (x c : ℕ) (o : Option ℕ) → Told x o → o ≡ Some c → (get_or p.codes.now x 0 ≡ c + 1) × IsArc p.net.now c
  told_some x c o h e = subst (Told x) e h

  pub code_told : (x c : ℕ) (o : Option ℕ) → Told x o → get_or p.codes.now x 0 ≡ suc c → IsSome o
  code_told x c None h e = absurd (omega (arith, h))
  code_told x c (Some k) h e = refl

  -- nor is that of one that is led back
  pub led_told : (x : ℕ) (o : Option ℕ) → Told x o → Led arcs ps x → IsSome o
  led_told x o h l = some_told x o h (λ e. none-ne-some _ (sym e ∙ l.place_is))

  -- there are as many parents as events
  pub codes_fit : bounds_fit (length p.codes.now) (bounds_of p.net.now) ≡ true
  codes_fit = subst (λ (n : ℕ). bounds_fit n (bounds_of net) ≡ true) (sym p.long) net.all_fit

  pub codes_below : (x : ℕ) → x < p.net.now.events → x < length p.codes.now
  codes_below x h = omega (arith, p.long)

  pub events_below : (x : ℕ) → x < length p.codes.now → x < p.net.now.events
  events_below x h = omega (arith, p.long)

  pub few_codes : length p.codes.now ≤ 4096
  few_codes = omega (arith, p.long, net.few_events)

  -- the parent, among as many events as parents
  pub parent_long : (x c : ℕ) → get_or p.codes.now x 0 ≡ c + 1
      → Parent p.net.now.bounds (length p.codes.now) p.net.now.ends.now p.net.now.ranges.now p.codes.now x c
  parent_long x c e =
      subst (λ (n : ℕ). Parent net.bounds n net.ends.now net.ranges.now p.codes.now x c) (sym p.long) (parent_of x c e)

  -- as many steps back as there are parents is among the events
  pub back_event : (v x : ℕ) → v < p.net.now.events → x ≡ steps_back arcs ps (length p.codes.now) v → x < p.net.now.events
  back_event v x low at =
      subst (λ (y : ℕ). y < net.events) (sym at)
      (steps_below arcs net.events ps net.some_event (arcs_between net.events (bounds_of net) net.all_fit) (length p.codes.now) v low)

  module _ (v : ℕ) (low : v < p.net.now.events) (j x : ℕ) (at : x ≡ steps_back arcs ps j v) where
    -- each event back is among the events
    pub back_low : x < p.net.now.events
    back_low =
        subst (λ (y : ℕ). y < net.events) (sym at)
        (steps_below arcs net.events ps net.some_event (arcs_between net.events (bounds_of net) net.all_fit) j v low)

    -- and the arc of its parent leads one step further back
    pub back_more : (c : ℕ) → get_or p.codes.now x 0 ≡ c + 1 → get_or p.net.now.ends.now c 0 ≡ steps_back arcs ps (j + 1) v
    back_more c e =
        rw (add-one j) (step_back net.bounds net.ends.now net.ranges.now p.codes.now net.events v j x c at (parent_of x c e))

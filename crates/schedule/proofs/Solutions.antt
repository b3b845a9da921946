-- Times fit exactly when they solve the arcs: when every bound, added ones included, followed either way, allows them. Assumes nothing.
use Rattle.std.specs.Prelude.{Option, None, Some}
use Prim.Native.Nat.{ℕ}
use mathlib.Core.Path.{◌≡◌, refl, ap, sym, ◌∙◌, subst}
use mathlib.Core.Logic.{◌↔◌, ◌⊎◌, inl, inr, ⊎_elim}
use mathlib.Core.List.{List, [], ◌∷◌, map, tail, Memᴰ}
use lib.IntN.{pos, neg_ℤ, ◌+ℤ◌, ◌-ℤ◌}
use lib.Signed.{◌≤ℤ◌}
use Rattle.laws.proofs.Options.{none-ne-some, some-injective}
use Rattle.laws.proofs.Signed.{signed, sum, difference, neg_up, neg_dn}
use Rattle.laws.proofs.Members.{to_flat, of_flat, of_tail}
use Rattle.floor.specs.Plan.{Plan}
use Rattle.network.specs.Events.{Route, routes_of, Point, route_points, route_events, places}
use Rattle.network.specs.Bounds.{Bound, bounds}
use Rattle.network.specs.Meaning.{Times, Meets}
use Rattle.network.proofs.Ends.{first_bound}
use Rattle.walks.specs.Walks.{Arc}
use Rattle.walks.specs.Solutions.{Solves}
use Rattle.schedule.specs.Book.{Book, Passed, passed_at, route_passed, route_to_pass, passed_points, points_to_pass}
use Rattle.schedule.specs.Added.{reported_bound, clock_bound, route_added, added_bounds, all_bounds}
use Rattle.schedule.specs.Fits.{Fits}
use Rattle.schedule.specs.Timetable.{forward, backward, ways, arcs}
use Rattle.schedule.proofs.Books.{KeptBook, AtCart, at_cart}

-- ---- one bound

-- an arc allows the times at its ends
abbrev pub Allowed : Times → Arc → Type 0
Allowed t a = (t a.from +ℤ a.adds) ≤ℤ t a.to

-- a bound that is met allows them followed forward, and backward where it has a hi
pub met_allows : (t : Times) (b : Bound) → Meets t b → (a : Arc) → Memᴰ a (ways b) → Allowed t a
unfolding ways forward backward
met_allows t b m a h = ⊎_elim (λ (e : a ≡ forward b). subst (Allowed t) (sym e) onward) (λ k. back b.hi refl k) (mathlib.Core.List.Memᴰ.cases_cons h)
  where
    onward : Allowed t (forward b)
    onward =
        let l = m.lower in
        omega (signed, l, sum (t b.from) (pos b.lo), difference (t b.to) (t b.from))

    back : (hi : Option ℕ) → b.hi ≡ hi → Memᴰ a (backward b hi) → Allowed t a
    back None q k = absurd (mathlib.Core.List.Memᴰ.not-nil k)
    back (Some h) q k =
        let u = m.upper h q in
        subst (Allowed t) (sym (mathlib.Core.List.Memᴰ.eq_of_singleton k))
        (omega (signed, u, sum (t b.to) (neg_ℤ (pos h)), neg_up (pos h), neg_dn (pos h), difference (t b.to) (t b.from)))

-- and the other way round
pub allowed_meets : (t : Times) (b : Bound) → ((a : Arc) → Memᴰ a (ways b) → Allowed t a) → Meets t b
unfolding ways forward backward
allowed_meets t b h = record { lower = low; upper = high }
  where
    low : pos b.lo ≤ℤ (t b.to -ℤ t b.from)
    low =
        let l : Allowed t (forward b) = h (forward b) (mathlib.Core.List.Memᴰ.head refl) in
        omega (signed, l, sum (t b.from) (pos b.lo), difference (t b.to) (t b.from))

    high : (x : ℕ) → b.hi ≡ Some x → (t b.to -ℤ t b.from) ≤ℤ pos x
    high x q =
        let a : Arc = record { from = b.to; to = b.from; adds = neg_ℤ (pos x) } in
        let m : Memᴰ a (backward b b.hi) = subst (λ (o : Option ℕ). Memᴰ a (backward b o)) (sym q) (mathlib.Core.List.Memᴰ.head refl) in
        let l : Allowed t a = h a (mathlib.Core.List.Memᴰ.tail m) in
        omega (signed, l, sum (t b.to) (neg_ℤ (pos x)), neg_up (pos x), neg_dn (pos x), difference (t b.to) (t b.from))

-- ---- the added bounds

-- a reported point's bound says that its time is the one reported
pub reported_meets : (t : Times) (x : Passed) → t 0 ≡ pos 0 → Meets t (reported_bound x) ↔ (t x.event ≡ pos x.time)
unfolding reported_bound
reported_meets t x z = (there, back)
  where
    there : Meets t (reported_bound x) → t x.event ≡ pos x.time
    there m =
        let l = m.lower in
        let u = m.upper x.time refl in
        omega (signed, l, u, difference (t x.event) (t 0))

    back : t x.event ≡ pos x.time → Meets t (reported_bound x)
    back e =
        record {
          lower = omega (signed, difference (t x.event) (t 0));
          upper = λ h q.
              let f : x.time ≡ h = some-injective _ _ q in
              omega (signed, difference (t x.event) (t 0));
        }

-- that of a point still to be passed says that it is not before the clock
pub clock_meets : (t : Times) (c e : ℕ) → t 0 ≡ pos 0 → Meets t (clock_bound c e) ↔ (pos c ≤ℤ t e)
unfolding clock_bound
clock_meets t c e z = (
  λ m. let l = m.lower in omega (signed, l, difference (t e) (t 0)),
  λ l. record { lower = omega (signed, difference (t e) (t 0)); upper = λ h q. absurd (none-ne-some _ q) },
)

module _ (p : Plan) (b : Book) (kept : KeptBook p b) where
  -- an added bound is that of a point reported or of a point still to be passed
  pub added_cases : (c : Bound) → Memᴰ c (added_bounds p b)
      → ((x : Passed) × Memᴰ x (passed_points p b) × (c ≡ reported_bound x)) ⊎ ((e : ℕ) × Memᴰ e (points_to_pass p b) × (c ≡ clock_bound b.clock e))
  unfolding added_bounds route_added passed_points points_to_pass
  added_cases c m =
      let k : AtCart b.clock (route_added b.clock) (routes_of p) b.passed c = at_cart (route_added b.clock) c kept.carts m in
      ⊎_elim
      (λ h. let (x, i, e) = mathlib.Core.List.Memᴰ.of_map reported_bound (tail (route_passed k.route k.times)) h in
      inl (x, k.too route_passed x (of_tail (route_passed k.route k.times) x i), sym e))
      (λ h. let (x, i, e) = mathlib.Core.List.Memᴰ.of_map (clock_bound b.clock) (route_to_pass k.route k.times) h in
      inr (x, k.too route_to_pass x i, sym e))
      (mathlib.Core.List.Memᴰ.append_cases (map reported_bound (tail (route_passed k.route k.times))) k.here)

  -- ---- times that fit meet every bound, so every arc allows them

  pub bound_met : (t : Times) → Fits p b t → (c : Bound) → Memᴰ c (all_bounds p b) → Meets t c
  unfolding all_bounds
  bound_met t f c m = ⊎_elim (f.meets c) (λ a. ⊎_elim reported waiting (added_cases c a)) (mathlib.Core.List.Memᴰ.append_cases (bounds p) m)
    where
      reported : (x : Passed) × Memᴰ x (passed_points p b) × (c ≡ reported_bound x) → Meets t c
      reported (x, i, e) = subst (Meets t) (sym e) ((reported_meets t x f.starts).1 (f.agrees x i))

      waiting : (e : ℕ) × Memᴰ e (points_to_pass p b) × (c ≡ clock_bound b.clock e) → Meets t c
      waiting (x, i, e) = subst (Meets t) (sym e) ((clock_meets t b.clock x f.starts).1 (f.after_clock x i))

  fit_solves : (t : Times) → Fits p b t → Solves (arcs p b) t
  unfolding arcs
  fit_solves t f =
      record {
        zeroed = f.starts;
        all = λ a m. let (c, k, h) = of_flat ways (all_bounds p b) a m in met_allows t c (bound_met t f c k) a h;
      }

  -- ---- and the other way round

  solved_met : (t : Times) → Solves (arcs p b) t → (c : Bound) → Memᴰ c (all_bounds p b) → Meets t c
  unfolding arcs
  solved_met t s c m = allowed_meets t c (λ a k. s.all a (to_flat ways (all_bounds p b) c a m k))

  solved_added : (t : Times) → Solves (arcs p b) t → (c : Bound) → Memᴰ c (added_bounds p b) → Meets t c
  unfolding all_bounds
  solved_added t s c m = solved_met t s c (mathlib.Core.List.Memᴰ.append_right (bounds p) m)

  -- a first entry is at 0 by its start bound
  first_entry : (t : Times) → Solves (arcs p b) t → (r : Route) → Memᴰ r (routes_of p) → t r.first ≡ pos 0
  unfolding all_bounds
  first_entry t s r m =
      let k : Meets t (record { from = 0; to = r.first; lo = 0; hi = Some 0 }) = solved_met t s _ (mathlib.Core.List.Memᴰ.append_left (added_bounds p b) (first_bound p r m)) in
      let l = k.lower in
      let u = k.upper 0 refl in
      let z = s.zeroed in
      omega (signed, l, u, z, difference (t r.first) (t 0))

  -- a point passed is a first entry, at 0, or one with an added bound
  Split : Route → List ℕ → Passed → Type 0
  Split r ts x = ((x.event ≡ r.first) × (x.time ≡ 0)) ⊎ Memᴰ x (tail (route_passed r ts))

  passed_cases : (r : Route) (later : List ℕ) (x : Passed) → Memᴰ x (route_passed r (0 ∷ later)) → Split r (0 ∷ later) x
  unfolding Split route_passed route_events places passed_at
  passed_cases r later x m = by (route_points r) m
    where
      by : (ps : List Point) → Memᴰ x (passed_at (places r.first ps) (0 ∷ later))
          → ((x.event ≡ r.first) × (x.time ≡ 0)) ⊎ Memᴰ x (tail (passed_at (places r.first ps) (0 ∷ later)))
      by [] m = absurd (mathlib.Core.List.Memᴰ.not-nil m)
      by (q ∷ qs) m = ⊎_elim (λ (e : x ≡ record { event = r.first; time = 0 }). inl (ap (λ (y : Passed). y.event) e, ap (λ (y : Passed). y.time) e)) inr (mathlib.Core.List.Memᴰ.cases_cons m)

  solved_agrees : (t : Times) → Solves (arcs p b) t → (x : Passed) → Memᴰ x (passed_points p b) → t x.event ≡ pos x.time
  unfolding passed_points added_bounds route_added Split
  solved_agrees t s x m =
      let k : AtCart b.clock route_passed (routes_of p) b.passed x = at_cart route_passed x kept.carts m in
      let e = k.kept.from_0 in
      ⊎_elim
      (λ h. ap t h.0 ∙ first_entry t s k.route k.of_plan ∙ ap pos (sym h.1))
      (λ h. (reported_meets t x s.zeroed).0
      (solved_added t s (reported_bound x) (k.too (route_added b.clock) (reported_bound x) (mathlib.Core.List.Memᴰ.append_left _ (mathlib.Core.List.Memᴰ.map reported_bound h)))))
      (subst (λ (ts : List ℕ). Split k.route ts x) (sym e)
      (passed_cases k.route k.kept.later x (subst (λ (ts : List ℕ). Memᴰ x (route_passed k.route ts)) e k.here)))

  solved_waits : (t : Times) → Solves (arcs p b) t → (e : ℕ) → Memᴰ e (points_to_pass p b) → pos b.clock ≤ℤ t e
  unfolding points_to_pass added_bounds route_added
  solved_waits t s e m =
      let k : AtCart b.clock route_to_pass (routes_of p) b.passed e = at_cart route_to_pass e kept.carts m in
      (clock_meets t b.clock e s.zeroed).0
      (solved_added t s (clock_bound b.clock e)
      (k.too (route_added b.clock) (clock_bound b.clock e)
      (mathlib.Core.List.Memᴰ.append_right (map reported_bound (tail (route_passed k.route k.times))) (mathlib.Core.List.Memᴰ.map (clock_bound b.clock) k.here))))

  -- the times that fit are the solutions of the arcs
  pub fits_are_solutions : (t : Times) → Fits p b t ↔ Solves (arcs p b) t
  unfolding all_bounds
  fits_are_solutions t = (
    fit_solves t,
    λ s. record {
      starts = s.zeroed;
      meets = λ c m. solved_met t s c (mathlib.Core.List.Memᴰ.append_left (added_bounds p b) m);
      agrees = solved_agrees t s;
      after_clock = solved_waits t s;
    },
  )

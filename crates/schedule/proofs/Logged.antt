-- An accepted plan and a book that a log of accepted reports gives: their arcs go between events, add no more than 10^12 either way, and lead from the
-- start to every event with a sum of at least 0. Assumes nothing.
use Rattle.std.specs.Prelude.{Option, None, Some, Ok}
use Prim.Native.Nat.{ℕ, zero, suc, ◌≤◌, ◌<◌}
use native.Mathlib.Omega.{arith}
use mathlib.Core.Path.{◌≡◌, refl, ap, sym, subst}
use mathlib.Core.Logic.{◌⊎◌, inl, inr, ⊎_elim}
use mathlib.Core.List.Memᴰ
use mathlib.Core.List.{List, [], ◌∷◌, Memᴰ}
use lib.IntN.{ℤ, pos, ◌+ℤ◌}
use lib.Signed.{◌≤ℤ◌}
use lib.ListN.{length}
use Rattle.laws.proofs.Options.{none-ne-some, some-injective}
use Rattle.laws.proofs.Signed.{signed, sum, neg_up, neg_dn, Within}
use Rattle.laws.proofs.Members.{to_flat, of_flat, of_drop}
use Rattle.floor.specs.Plan.{Plan}
use Rattle.floor.specs.Tables.{Tables}
use Rattle.network.specs.Events.{Route, routes_of, route_events, event_count}
use Rattle.network.specs.Bounds.{Bound, bounds}
use Rattle.network.specs.Judge.{judge}
use Rattle.network.proofs.Judged.{judged_sound}
use Rattle.network.proofs.Routes.{event_count_is}
use Rattle.network.proofs.Sizes.{bound_sizes}
use Rattle.network.proofs.Ends.{some_point, route_first, bounds_between, entered}
use Rattle.walks.specs.Walks.{Arc, Walk, stay, go}
use Rattle.walks.specs.Solutions.{Between}
use Rattle.schedule.specs.Book.{Report, Book, Passed, passed_at, first_book, replay, route_passed, route_to_pass, passed_points, points_to_pass}
use Rattle.schedule.specs.Added.{reported_bound, clock_bound, added_bounds, all_bounds}
use Rattle.schedule.specs.Timetable.{forward, backward, ways, arcs}
use Rattle.schedule.proofs.Books.{KeptBook, AtCart, at_cart, book_kept}
use Rattle.schedule.proofs.Solutions.{added_cases}

pub record Logged (p : Plan) (b : Book) : Type 0 where
  pub tables : Tables
  pub of_tables : judge tables ≡ Ok p
  pub log : List Report
  pub replayed : replay p (first_book p) log ≡ Some b

-- ---- where the points of a cart lie

passed_member : (es ts : List ℕ) (x : Passed) → Memᴰ x (passed_at es ts) → Memᴰ x.event es × Memᴰ x.time ts
unfolding passed_at
passed_member [] ts x m = absurd (Memᴰ.not-nil m)
passed_member (e ∷ es) [] x m = absurd (Memᴰ.not-nil m)
passed_member (e ∷ es) (t ∷ ts) x m =
    ⊎_elim
    (λ (q : x ≡ record { event = e; time = t }). (Memᴰ.head (ap (λ (y : Passed). y.event) q), Memᴰ.head (ap (λ (y : Passed). y.time) q)))
    (λ h. let (a, c) = passed_member es ts x h in (Memᴰ.tail a, Memᴰ.tail c))
    (Memᴰ.cases_cons m)

-- an added bound goes from the start to an event, and has limits of at most 10^12
pub record AddedBound (p : Plan) (c : Bound) : Type 0 where
  pub from_start : c.from ≡ 0
  pub to_event : c.to < event_count p
  pub lo_most : c.lo ≤ 1_000_000_000_000
  pub hi_most : (h : ℕ) → c.hi ≡ Some h → h ≤ 1_000_000_000_000

module _ (p : Plan) (b : Book) (l : Logged p b) where
  pub logged_kept : KeptBook p b
  logged_kept = book_kept p l.log b (some_point p (judged_sound l.tables p l.of_tables)) l.replayed

  pub some_event : 0 < event_count p
  some_event = omega (arith, event_count_is p)

  -- a cart's point is an event
  event_there : (r : Route) → Memᴰ r (routes_of p) → (e : ℕ) → Memᴰ e (route_events r) → e < event_count p
  event_there r m e h = let (rest, q, inside) = route_first p (judged_sound l.tables p l.of_tables) r m in omega (arith, (inside e h).1)

  reported_added : (x : Passed) → Memᴰ x (passed_points p b) → AddedBound p (reported_bound x)
  unfolding passed_points route_passed reported_bound
  reported_added x m =
      let k : AtCart b.clock route_passed (routes_of p) b.passed x = at_cart route_passed x logged_kept.carts m in
      let (e, t) = passed_member (route_events k.route) k.times x k.here in
      let c : x.time ≤ b.clock = k.kept.by_clock x.time t in
      let d : b.clock ≤ 1_000_000_000_000 = logged_kept.in_range in
      record {
        from_start = refl;
        to_event = event_there k.route k.of_plan x.event e;
        lo_most = omega (arith, c, d);
        hi_most = λ h q. let f : x.time ≡ h = some-injective _ _ q in omega (arith, c, d);
      }

  waiting_added : (e : ℕ) → Memᴰ e (points_to_pass p b) → AddedBound p (clock_bound b.clock e)
  unfolding points_to_pass route_to_pass clock_bound
  waiting_added e m =
      let k : AtCart b.clock route_to_pass (routes_of p) b.passed e = at_cart route_to_pass e logged_kept.carts m in
      record {
        from_start = refl;
        to_event = event_there k.route k.of_plan e (of_drop (length k.times) (route_events k.route) e k.here);
        lo_most = logged_kept.in_range;
        hi_most = λ h q. absurd (none-ne-some _ q);
      }

  added_bound : (c : Bound) → Memᴰ c (added_bounds p b) → AddedBound p c
  added_bound c m =
      ⊎_elim
      (λ h. let (x, k, e) = h in subst (AddedBound p) (sym e) (reported_added x k))
      (λ h. let (x, k, e) = h in subst (AddedBound p) (sym e) (waiting_added x k))
      (added_cases p b logged_kept c m)

  -- ---- the arcs

  -- the arc of a bound goes between the bound's events
  way_ends : (c : Bound) (a : Arc) → Memᴰ a (ways c) → ((a.from ≡ c.from) × (a.to ≡ c.to)) ⊎ ((a.from ≡ c.to) × (a.to ≡ c.from))
  unfolding ways forward backward
  way_ends c a m = ⊎_elim (λ (e : a ≡ forward c). inl (ap (λ (x : Arc). x.from) e, ap (λ (x : Arc). x.to) e)) (by c.hi) (Memᴰ.cases_cons m)
    where
      by : (o : Option ℕ) → Memᴰ a (backward c o) → ((a.from ≡ c.from) × (a.to ≡ c.to)) ⊎ ((a.from ≡ c.to) × (a.to ≡ c.from))
      by None h = absurd (Memᴰ.not-nil h)
      by (Some x) h = let e = Memᴰ.eq_of_singleton h in inr (ap (λ (y : Arc). y.from) e, ap (λ (y : Arc). y.to) e)

  -- every bound goes between events
  pub bound_ends : (c : Bound) → Memᴰ c (all_bounds p b) → (c.from < event_count p) × (c.to < event_count p)
  unfolding all_bounds
  bound_ends c m =
      ⊎_elim (bounds_between l.tables p l.of_tables c)
      (λ h. let a = added_bound c h in (omega (arith, a.from_start, some_event), a.to_event))
      (Memᴰ.append_cases (bounds p) m)

  pub arcs_between : Between (arcs p b) (event_count p)
  unfolding arcs
  arcs_between a m =
      let (c, k, w) = of_flat ways (all_bounds p b) a m in
      let (f, t) = bound_ends c k in
      ⊎_elim (λ h. (omega (arith, h.0, f), omega (arith, h.1, t))) (λ h. (omega (arith, h.0, t), omega (arith, h.1, f))) (way_ends c a w)

  -- ---- every event is reached

  -- a walk from the start to e whose sum is not below 0
  pub record Reached (e : ℕ) : Type 0 where
    pub count : ℕ
    pub total : ℤ
    pub walk : Walk (arcs p b) count e total
    pub not_below : pos 0 ≤ℤ total

  one_on : (c : Bound) → Memᴰ c (bounds p) → Reached c.from → Reached c.to
  unfolding arcs all_bounds ways forward
  one_on c m r =
      let w : Walk (arcs p b) (suc r.count) c.to (r.total +ℤ pos c.lo) =
      go (forward c) (to_flat ways (all_bounds p b) c (forward c) (Memᴰ.append_left (added_bounds p b) m) (Memᴰ.head refl)) r.walk in
      record { count = suc r.count; total = r.total +ℤ pos c.lo; walk = w; not_below = omega (signed, r.not_below, sum r.total (pos c.lo)) }

  reach : (m e : ℕ) → e < m → e < event_count p → Reached e
  reach zero e h k = absurd (omega arith)
  reach (suc m) zero h k = record { count = 0; total = pos 0; walk = stay; not_below = omega signed }
  reach (suc m) (suc e) h k =
      let (c, i, t, f) = entered l.tables p l.of_tables (suc e) (omega arith) k in
      subst Reached t (one_on c i (reach m c.from (omega (arith, f)) (omega (arith, f))))

  pub every_event_reached : (e : ℕ) → e < event_count p → Reached e
  every_event_reached e h = reach (suc e) e (omega arith) h

  -- ---- what the arcs add

  pub bound_most : (c : Bound) → Memᴰ c (all_bounds p b) → (c.lo ≤ 1_000_000_000_000) × ((h : ℕ) → c.hi ≡ Some h → h ≤ 1_000_000_000_000)
  unfolding all_bounds
  bound_most c m =
      ⊎_elim (λ k. let (x, y) = bound_sizes l.tables p l.of_tables c k in (omega (arith, x), λ h q. omega (arith, y h q)))
      (λ h. let a = added_bound c h in (a.lo_most, a.hi_most))
      (Memᴰ.append_cases (bounds p) m)

  way_within : (c : Bound) → (c.lo ≤ 1_000_000_000_000) → ((h : ℕ) → c.hi ≡ Some h → h ≤ 1_000_000_000_000) → (a : Arc) → Memᴰ a (ways c)
      → Within 1_000_000_000_000 a.adds
  unfolding ways forward backward
  way_within c x y a m = ⊎_elim (λ (e : a ≡ forward c). subst (λ (z : Arc). Within 1_000_000_000_000 z.adds) (sym e) (record { above = x; under = omega arith })) (by c.hi refl) (Memᴰ.cases_cons m)
    where
      by : (o : Option ℕ) → c.hi ≡ o → Memᴰ a (backward c o) → Within 1_000_000_000_000 a.adds
      by None q h = absurd (Memᴰ.not-nil h)
      by (Some h) q k =
          let g : h ≤ 1_000_000_000_000 = y h q in
          subst (λ (z : Arc). Within 1_000_000_000_000 z.adds) (sym (Memᴰ.eq_of_singleton k))
          (record { above = omega (arith, neg_up (pos h)); under = omega (arith, neg_dn (pos h), g) })

  -- no arc adds more than 10^12 either way
  pub arcs_within : (a : Arc) → Memᴰ a (arcs p b) → Within 1_000_000_000_000 a.adds
  unfolding arcs
  arcs_within a m =
      let (c, k, w) = of_flat ways (all_bounds p b) a m in
      let (x, y) = bound_most c k in
      way_within c x y a w

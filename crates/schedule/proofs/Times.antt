-- The timetable of an accepted plan with a logged book: times exist exactly when the passes settle; then those of the timetable fit, no others that
-- fit are earlier anywhere, and none stands in for a sum that is not there or below 0; else there is a chain. Assumes nothing.
use Rattle.std.specs.Prelude.{Option, None, Some}
use Prim.Native.Nat.{ℕ, ◌*◌, ◌≤◌, ◌<◌}
use native.Mathlib.Nat.{mul-le-mul_right}
use native.Mathlib.Omega.{arith}
use mathlib.Core.Path.{◌≡◌, refl, ap, sym, ◌∙◌}
use mathlib.Core.Logic.{◌↔◌}
use mathlib.Core.List.{List, map}
use lib.IntN.{ℤ, pos, negsuc}
use lib.Signed.{◌≤ℤ◌}
use lib.ListN.{length, get_or, length-map, get_or-map}
use Rattle.laws.proofs.Options.{none-ne-some, some-injective}
use Rattle.laws.proofs.Signed.{signed, Within}
use Rattle.floor.specs.Plan.{Plan}
use Rattle.network.specs.Events.{event_count}
use Rattle.network.specs.Meaning.{Times}
use Rattle.network.proofs.Judged.{judged}
use Rattle.walks.specs.Walks.{PassNumber}
use Rattle.walks.specs.Passes.{Sums, sums, Settled, settled}
use Rattle.walks.proofs.Greatest.{AtLeast, sums_length}
use Rattle.walks.proofs.PassNumber.{pass_number_is}
use Rattle.walks.proofs.Settling.{ends_below, settled_is, settled_bounds}
use Rattle.walks.proofs.Least.{settled_is_least}
use Rattle.walks.proofs.Range.{sums_within}
use Rattle.walks.proofs.Unsettled.{unsettled_cycle, solution_settles}
use Rattle.schedule.specs.Book.{Book}
use Rattle.schedule.specs.Fits.{Fits}
use Rattle.schedule.specs.Timetable.{time, Timetable, timetable_of, arcs, timetable}
use Rattle.schedule.proofs.Solutions.{fits_are_solutions}
use Rattle.schedule.proofs.Chains.{ChainWithin, cycle_chain}
use Rattle.schedule.proofs.Logged.{Logged, logged_kept, some_event, arcs_between, arcs_within, Reached, every_event_reached}

-- a sum that is at least 0 is its time
time_is : (o : Option ℤ) (w : ℤ) → AtLeast o w → pos 0 ≤ℤ w → o ≡ Some (pos (time o))
unfolding time
time_is None w h z = absurd (none-ne-some _ h.there)
time_is (Some (pos n)) w h z = refl
time_is (Some (negsuc n)) w h z =
    let e : negsuc n ≡ h.value = some-injective _ _ h.there in
    absurd (omega (signed, e, h.least, z))

-- what a timetable says of the passes
timetable_settled : (p : Plan) (b : Book) (t : Timetable) → timetable p b ≡ Some t
    → (s : Settled) × (settled (arcs p b) (event_count p) ≡ Some s) × (t.times ≡ map time s.sums) × (t.passes ≡ s.passes)
unfolding timetable timetable_of
timetable_settled p b t e = by (settled (arcs p b) (event_count p)) refl e
  where
    by : (o : Option Settled) → settled (arcs p b) (event_count p) ≡ o → timetable_of o ≡ Some t
        → (s : Settled) × (settled (arcs p b) (event_count p) ≡ Some s) × (t.times ≡ map time s.sums) × (t.passes ≡ s.passes)
    by None q f = absurd (none-ne-some _ f)
    by (Some s) q f =
        let r = some-injective _ _ f in
        (s, q, sym (ap (λ (x : Timetable). x.times) r), sym (ap (λ (x : Timetable). x.passes) r))

timetable_unsettled : (p : Plan) (b : Book) → timetable p b ≡ None → settled (arcs p b) (event_count p) ≡ None
unfolding timetable timetable_of
timetable_unsettled p b e = by (settled (arcs p b) (event_count p)) e
  where
    by : (o : Option Settled) → timetable_of o ≡ None → o ≡ None
    by None f = refl
    by (Some s) f = absurd (none-ne-some _ (sym f))

module _ (p : Plan) (b : Book) (l : Logged p b) where
  abbrev n : ℕ
  n = event_count p

  -- "4,096 events"
  few_events : n ≤ 4096
  few_events = (judged l.tables p l.of_tables).1

  -- ---- the sums

  -- every event has a sum and none is below 0: `time` stands in for nothing
  pub time_is_sum : (s : Settled) → settled (arcs p b) n ≡ Some s → (v : ℕ) → v < n → get_or s.sums v None ≡ Some (pos (time (get_or s.sums v None)))
  time_is_sum s q v h =
      let r : Reached p b l v = every_event_reached p b l v h in
      time_is (get_or s.sums v None) r.total
      (settled_bounds (arcs p b) n (some_event p b l) (arcs_between p b l) s q r.count v r.total r.walk) r.not_below

  -- as many passes as there are events, and no sum passes 4,096 times 10^12 either way: 2^62 is far above
  pub sums_in_range : (k v : ℕ) (x : ℤ) → k ≤ n → get_or (sums (arcs p b) n k) v None ≡ Some x → Within 4_096_000_000_000_000 x
  sums_in_range k v x h e =
      let w : Within (k * 1_000_000_000_000) x = sums_within (arcs p b) 1_000_000_000_000 (arcs_within p b l) n k v x e in
      let few : k ≤ 4096 = omega (arith, h, few_events) in
      let m : k * 1_000_000_000_000 ≤ 4096 * 1_000_000_000_000 = mul-le-mul_right 1_000_000_000_000 few in
      record { above = omega (arith, w.above, m); under = omega (arith, w.under, m) }

  -- ---- times

  module _ (t : Timetable) (e : timetable p b ≡ Some t) where
    -- the sum of an event is its time in the timetable
    sum_of : (s : Settled) → settled (arcs p b) n ≡ Some s → t.times ≡ map time s.sums → (v : ℕ) → v < n
        → get_or s.sums v None ≡ Some (pos (get_or t.times v 0))
    unfolding time
    sum_of s q f v h =
        time_is_sum s q v h ∙ ap (λ (x : ℕ). Some (pos x)) (sym (ap (λ (x : List ℕ). get_or x v 0) f ∙ get_or-map time s.sums v None))

    -- times that are the timetable's at every event fit, and no times that fit are earlier at any event
    pub timetable_earliest : (u : Times) → ((v : ℕ) → v < n → u v ≡ pos (get_or t.times v 0))
        → Fits p b u × ((w : Times) → Fits p b w → (v : ℕ) → v < n → u v ≤ℤ w v)
    timetable_earliest u h =
        let (s, q, f, g) = timetable_settled p b t e in
        let (solves, least) = settled_is_least (arcs p b) n (some_event p b l) (arcs_between p b l) s q u (λ v k. sum_of s q f v k ∙ ap Some (sym (h v k))) in
        ((fits_are_solutions p b (logged_kept p b l) u).1 solves, λ w k. least w ((fits_are_solutions p b (logged_kept p b l) w).0 k))

    -- the number of passes is the document's, and below the number of events
    pub timetable_counted : PassNumber (arcs p b) n t.passes × (t.passes < n)
    timetable_counted =
        let (s, q, f, g) = timetable_settled p b t e in
        let (a, k, c) = settled_is (arcs p b) n s q in
        pass_number_is (arcs p b) n (some_event p b l) (ends_below (arcs p b) n (arcs_between p b l)) t.passes (k ∙ ap Some (sym g))

    -- a time for every event
    pub timetable_length : length t.times ≡ n
    timetable_length =
        let (s, q, f, g) = timetable_settled p b t e in
        ap length f ∙ length-map s.sums time ∙ ap length (settled_is (arcs p b) n s q).0 ∙ sums_length (arcs p b) n s.passes

    -- in range
    pub timetable_range : (v : ℕ) → v < n → get_or t.times v 0 ≤ 4_096_000_000_000_000
    timetable_range v h =
        let (s, q, f, g) = timetable_settled p b t e in
        let below : t.passes < n = timetable_counted.1 in
        (sums_in_range s.passes v (pos (get_or t.times v 0)) (omega (arith, below, g))
        (ap (λ (x : Sums). get_or x v None) (sym (settled_is (arcs p b) n s q).0) ∙ sum_of s q f v h)).above

  -- ---- no times

  -- where there is no timetable there is a chain of no more items than events
  pub no_timetable_chain : timetable p b ≡ None → ChainWithin p b n
  no_timetable_chain e =
      cycle_chain p b (logged_kept p b l) (judged l.tables p l.of_tables).2 n
      (unsettled_cycle (arcs p b) n (some_event p b l) (arcs_between p b l) (timetable_unsettled p b e))

  -- and no times fit
  pub no_timetable_none_fit : timetable p b ≡ None → (u : Times) → ¬ Fits p b u
  no_timetable_none_fit e u f =
      solution_settles (arcs p b) n (some_event p b l) (arcs_between p b l) u ((fits_are_solutions p b (logged_kept p b l) u).0 f) (timetable_unsettled p b e)

  -- times exist exactly when the passes settle
  pub times_exist : ((t : Timetable) × (timetable p b ≡ Some t)) ↔ ((u : Times) × Fits p b u)
  times_exist = (λ x. let (t, e) = x in ((λ v. pos (get_or t.times v 0)), (timetable_earliest t e (λ v. pos (get_or t.times v 0)) (λ v h. refl)).0), λ x. by (timetable p b) refl x.0 x.1)
    where
      by : (o : Option Timetable) → timetable p b ≡ o → (u : Times) → Fits p b u → (t : Timetable) × (timetable p b ≡ Some t)
      by None q u f = absurd (no_timetable_none_fit q u f)
      by (Some t) q u f = (t, q)

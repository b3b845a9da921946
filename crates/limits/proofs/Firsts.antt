-- The first events of paths and the finish's, one path after the other. Assumes nothing.
use Prim.Native.Nat.{ℕ, suc, ◌+◌, ◌*◌, ◌-◌, ◌≤◌, ◌<◌}
use native.Mathlib.Numerals.{add-one}
use native.Mathlib.Omega.{arith}
use mathlib.Core.Path.{◌≡◌, refl, ap, sym, ◌∙◌}
use mathlib.Core.Bool.{Bool, true, false, not, ◌&&◌, cond}
use mathlib.Core.List.{List, [], ◌∷◌, ◌++◌, map}
use borrow.Author.Tests.{le-leb, lt-leb, not-false}
use Rattle.std.proofs.lemmas.Bool.Decides.{nat_tests}
use lib.Dec.{leb}
use lib.ListN.{length, take, drop, set, length-drop}
use lib.Seq.{sets, length-take-le}
use Rattle.words.specs.Words.{written}
use Rattle.tables.specs.Arrays.{paths_in}
use Rattle.tables.proofs.PathRecords.{paths_in_length}
use Rattle.floor.specs.Plan.{Plan}
use Rattle.floor.specs.declared.Cart.{Cart}
use Rattle.network.specs.Events.{Route, routes, routes_of, event_count, finish_event}
use Rattle.network.proofs.BoundStores.{front_stored}
use Rattle.limits.specs.Limits.{of_paths, limits_kept, paths_within}
use Rattle.limits.specs.Orders.{first_events, events_kept, events_fit, firsts_fitting}
use Rattle.limits.specs.Counts.{total, moves}
use Rattle.limits.proofs.RowBounds.{of_paths_carts}
use Rattle.limits.proofs.Counts.{path_points, events_are}
use Rattle.limits.proofs.CountSteps.{row_fits, paths_next, paths_none}
use Rattle.limits.proofs.LimitSteps.{path_events, all_events}

-- the first event of each path, the first numbered e, and the number behind the last path's
abbrev pub firsts_from : ℕ → List (List ℕ) → List ℕ
firsts_from e [] = e ∷ []
firsts_from e (p ∷ ps) = e ∷ firsts_from (e + path_points p) ps

-- so of routes
routes_firsts : (cs : List Cart) (ps : List (List ℕ)) (j e : ℕ) → length cs ≡ length ps
    → map (λ (r : Route). r.first) (routes j e cs ps) ++ ((e + total path_points ps) ∷ []) ≡ firsts_from e ps
unfolding routes total
routes_firsts [] [] j e h = let same : e + 0 ≡ e = omega arith in ap (λ (n : ℕ). n ∷ []) same
routes_firsts [] (p ∷ ps) j e h = absurd (omega arith)
routes_firsts (c ∷ cs) [] j e h = absurd (omega arith)
routes_firsts (c ∷ cs) (p ∷ ps) j e h =
    let f : ℕ = e + path_points p in
    let last : e + (path_points p + total path_points ps) ≡ f + total path_points ps = omega arith in
    ap (λ (n : ℕ). e ∷ (map (λ (r : Route). r.first) (routes (suc j) f cs ps) ++ (n ∷ []))) last
    ∙ ap (λ (l : List ℕ). e ∷ l) (routes_firsts cs ps (suc j) f (omega arith))

-- of a plan
pub first_events_are : (p : Plan) → length p.carts ≡ length p.paths → first_events p ≡ firsts_from 1 p.paths
unfolding first_events routes_of finish_event
first_events_are p h =
    let last : event_count p - 1 ≡ 1 + total path_points p.paths = omega (arith, events_are p h) in
    ap (λ (n : ℕ). map (λ (r : Route). r.first) (routes 1 1 p.carts p.paths) ++ (n ∷ [])) last
    ∙ routes_firsts p.carts p.paths 1 1 h

-- of a plan of paths
of_paths_firsts : (ps : List (List ℕ)) → first_events (of_paths ps) ≡ firsts_from 1 ps
unfolding of_paths
of_paths_firsts ps = first_events_are (of_paths ps) (of_paths_carts ps)

-- they go by the paths alone
pub firsts_by_paths : (p : Plan) → length p.carts ≡ length p.paths → first_events p ≡ first_events (of_paths p.paths)
firsts_by_paths p h = first_events_are p h ∙ sym (of_paths_firsts p.paths)

-- ---- written

-- one for each path, and one
pub firsts_count : (ps : List (List ℕ)) (e : ℕ) → length (firsts_from e ps) ≡ suc (length ps)
firsts_count [] e = refl
firsts_count (p ∷ ps) e = ap suc (firsts_count ps (e + path_points p))

-- the i-th path: its number, and those of the paths after it, past its points
firsts_next : (n i w : ℕ) (s : List ℕ) → i < n → 1 ≤ w → n * w ≤ length s → (e : ℕ)
    → firsts_from e (paths_in (n - i) w (drop (i * w) s))
    ≡ e ∷ firsts_from (e + (3 * moves (take w (drop (i * w) s)) + 1)) (paths_in (n - (i + 1)) w (drop ((i + 1) * w) s))
firsts_next n i w s l some fits e =
    let p : List ℕ = take w (drop (i * w) s) in
    let here : length p ≡ w = length-take-le w (drop (i * w) s) (omega (arith, length-drop (i * w) s, row_fits n i w l)) in
    let more : path_points p ≡ 3 * moves p + 1 = omega (arith, path_events p (omega arith)) in
    ap (firsts_from e) (paths_next n i w s l)
    ∙ ap (λ (k : ℕ). e ∷ firsts_from (e + k) (paths_in (n - (i + 1)) w (drop ((i + 1) * w) s))) more

-- it is written
pub first_written : (n i w : ℕ) (s : List ℕ) → i < n → 1 ≤ w → n * w ≤ length s → (e m : ℕ) → m ≡ moves (take w (drop (i * w) s)) → (fs : List ℕ)
    → sets (set fs i e) (i + 1) (firsts_from (e + (3 * m + 1)) (paths_in (n - (i + 1)) w (drop ((i + 1) * w) s)))
    ≡ sets fs i (firsts_from e (paths_in (n - i) w (drop (i * w) s)))
first_written n i w s l some fits e m h fs =
    let rest : List (List ℕ) = paths_in (n - (i + 1)) w (drop ((i + 1) * w) s) in
    ap (λ (k : ℕ). sets (set fs i e) (i + 1) (firsts_from (e + (3 * k + 1)) rest)) h
    ∙ ap (λ (k : ℕ). sets (set fs i e) k (firsts_from (e + (3 * moves (take w (drop (i * w) s)) + 1)) rest)) (add-one i)
    ∙ ap (λ (k : List ℕ). sets fs i k) (sym (firsts_next n i w s l some fits e))

-- behind the last path's stands the finish's
pub finish_written : (n i w e : ℕ) (r fs : List ℕ) → i ≡ n → set fs n e ≡ sets fs i (firsts_from e (paths_in (n - i) w r))
finish_written n i w e r fs h =
    ap (λ (k : ℕ). set fs k e) (sym h) ∙ ap (λ (ps : List (List ℕ)). sets fs i (firsts_from e ps)) (sym (paths_none n i w r (omega arith)))

-- all of them
pub firsts_written : (n w : ℕ) (s fs : List ℕ) → n < length fs
    → sets fs 0 (firsts_from 1 (paths_in n w s)) ≡ written (first_events (of_paths (paths_in n w s))) fs
firsts_written n w s fs h =
    let ps : List (List ℕ) = paths_in n w s in
    let room : length (firsts_from 1 ps) ≤ length fs = omega (arith, firsts_count ps 1, paths_in_length n w s) in
    front_stored (firsts_from 1 ps) fs room
    ∙ ap (λ (l : List ℕ). written l fs) (sym (of_paths_firsts ps))

-- ---- the tests

-- how many events there are
pub events_counted : (n w : ℕ) (s : List ℕ) → 1 ≤ w → n * w ≤ length s → event_count (of_paths (paths_in n w s)) ≡ 2 + n + 3 * total moves (paths_in n w s)
unfolding of_paths
events_counted n w s o l = omega (arith, events_are (of_paths (paths_in n w s)) (of_paths_carts (paths_in n w s)), all_events n w s o l)

module _ (n w : ℕ) (s : List ℕ) where
  -- the events, by the moves counted
  events_asked : n ≤ 64 → 1 ≤ w → w ≤ 1024 → n * w ≤ length s → (m : ℕ) → m ≡ total moves (paths_in n w s) → leb (2 + n + 3 * m) 4096 ≡ events_kept n w s
  unfolding events_kept
  events_asked h o k l m e =
      let many : 2 + n + 3 * m ≡ event_count (of_paths (paths_in n w s)) = omega (arith, events_counted n w s o l) in
      ap (λ (x : ℕ). leb x 4096) many ∙ simp (le-leb n 64 h, le-leb 1 w o, le-leb w 1024 k, le-leb (n * w) (length s) l)

  -- paths that keep them are few enough for the code that numbers them and writes their order bounds
  pub kept_says : (b : Bool) → b ≡ events_kept n w s → not b ≡ false
      → ((n ≤ 64) × (1 ≤ w) × (w ≤ 1024) × (n * w ≤ length s)) × (2 + n + 3 * total moves (paths_in n w s) ≤ 4096)
  unfolding events_kept
  kept_says b q e =
      let kept : (n ≤ 64) × (1 ≤ w) × (w ≤ 1024) × (n * w ≤ length s) × (event_count (of_paths (paths_in n w s)) ≤ 4096) = grind (arith, nat_tests, not-false b e) in
      let (few, some, steps, cells, events) = kept in
      ((few, some, steps, cells), omega (arith, events, events_counted n w s some cells))

  -- others are too many, too long or not there
  pub events_off : ¬ ((n ≤ 64) × (1 ≤ w) × (w ≤ 1024) × (n * w ≤ length s)) → events_kept n w s ≡ false
  events_off h = by (events_kept n w s) refl
    where
      by : (b : Bool) → events_kept n w s ≡ b → b ≡ false
      by true e = absurd (h (kept_says true (sym e) refl).0)
      by false e = refl

  module _ (few : (n ≤ 64) × (1 ≤ w) × (w ≤ 1024) × (n * w ≤ length s)) (m : ℕ) (e : m ≡ total moves (paths_in n w s)) where
    -- no more events than may be, by the moves counted
    pub events_within : 2 + n + 3 * m ≤ 4096 → events_kept n w s ≡ true
    events_within under = sym (events_asked few.0 few.1 few.2 few.3 m e) ∙ le-leb (2 + n + 3 * m) 4096 under

    -- too many of them
    pub events_over : 4096 < 2 + n + 3 * m → events_kept n w s ≡ false
    events_over over = sym (events_asked few.0 few.1 few.2 few.3 m e) ∙ lt-leb (2 + n + 3 * m) 4096 over

-- paths that do not keep it, but have a step, do not keep the last limits
pub limits_off : (n w : ℕ) (s : List ℕ) → ¬ (w ≡ 0) → events_kept n w s ≡ false → false ≡ paths_within n w s
unfolding events_kept paths_within limits_kept
limits_off n w s h e = grind (arith, nat_tests)

-- 65 places are enough for them
pub fit_there : (n w : ℕ) (s : List ℕ) → events_fit n w s 65 ≡ events_kept n w s
unfolding events_fit
fit_there n w s = by (events_kept n w s) refl
  where
    by : (b : Bool) → events_kept n w s ≡ b → (b && leb (suc n) 65) ≡ b
    by false e = refl
    by true e = le-leb (suc n) 65 (omega (arith, (kept_says n w s true (sym e) refl).0.0))

module _ (n w : ℕ) (s fs : List ℕ) where
  -- this is to be answered and left
  abbrev Left : Bool → List ℕ → Type 0
  Left b fs' = record { answer : b ≡ events_fit n w s (length fs); left : fs' ≡ written (firsts_fitting n w s (length fs)) fs }

  -- where they do not fit
  none_fit : events_fit n w s (length fs) ≡ false → Left false fs
  unfolding firsts_fitting written
  none_fit e = record { answer = sym e; left = ap (λ (b : Bool). written (cond b (first_events (of_paths (paths_in n w s))) []) fs) (sym e) }

  -- too many, or not there
  pub firsts_over : events_kept n w s ≡ false → Left false fs
  unfolding events_fit
  firsts_over e = none_fit (ap (λ (b : Bool). b && leb (suc n) (length fs)) e)

  -- no room
  pub firsts_room : length fs ≤ n → Left false fs
  unfolding events_fit
  firsts_room small = none_fit (ap (λ (b : Bool). events_kept n w s && b) (lt-leb (suc n) (length fs) (omega arith)) ∙ by (events_kept n w s))
    where
      by : (b : Bool) → (b && false) ≡ false
      by true = refl
      by false = refl

  -- else they are written
  pub firsts_fit : events_kept n w s ≡ true → n < length fs → (fs' : List ℕ) → fs' ≡ written (first_events (of_paths (paths_in n w s))) fs → Left true fs'
  unfolding events_fit firsts_fitting
  firsts_fit e room fs' g = grind (arith, nat_tests)

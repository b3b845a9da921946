-- A log that is replayed: its carts and times, how long it can be, and one report more at its end. Assumes nothing.
use Rattle.std.specs.Prelude.{None, Some}
use Prim.Native.Nat.{ℕ, zero, suc, ◌+◌, ◌-◌, ◌≤◌, ◌<◌}
use native.Mathlib.Nat.{not-suc-le-zero}
use native.Mathlib.Omega.{arith}
use mathlib.Core.Path.{◌≡◌, refl, ap, sym, ◌∙◌, subst}
use mathlib.Core.Logic.{⊎_elim}
use mathlib.Core.Bool.{Bool, true, false, ◌&&◌}
use mathlib.Core.List.Memᴰ
use mathlib.Core.List.{List, [], ◌∷◌, ◌++◌, map, flat_map, Memᴰ}
use lib.Dec.{T, leb, ltb, leb→le, ltb→lt}
use lib.ListN.{length, get_or, set, length-append, length-map, length-set}
use mir.Facts.{and_yes}
use Rattle.laws.proofs.Options.{none-ne-some, some-injective}
use Rattle.floor.specs.Plan.{Plan}
use Rattle.network.specs.Events.{Route, routes_of, route_points, event_count}
use Rattle.network.proofs.Routes.{event_count_is}
use Rattle.schedule.specs.Book.{Report, Book, first_book, is_there, points_of, passed_by, has_next, in_time, acceptable, pass_next, replay}

-- ---- one report

-- what an accepted report says: its cart is there and has a point to pass, its time is not below the clock and not over 10^12
pub record Acceptable (p : Plan) (b : Book) (r : Report) : Type 0 where
  pub from_1 : 1 ≤ r.cart
  pub there : r.cart ≤ length p.carts
  pub point : length (passed_by b r.cart) < points_of p r.cart
  pub clock : b.clock ≤ r.time
  pub limit : r.time ≤ 1_000_000_000_000

-- it is what the test says
pub acceptable_says : (p : Plan) (b : Book) (r : Report) → acceptable p b r ≡ true → Acceptable p b r
unfolding acceptable has_next in_time is_there
acceptable_says p b r e =
    let is : Bool = leb 1 r.cart && leb r.cart (length p.carts) in
    let more : Bool = ltb (length (passed_by b r.cart)) (points_of p r.cart) in
    let late : Bool = leb b.clock r.time in
    let early : Bool = leb r.time 1_000_000_000_000 in
    let (next, time) = and_yes (is && more) (late && early) (subst T (sym e) tt) in
    let (one_of_lem, a_point) = and_yes is more next in
    let (one, last) = and_yes (leb 1 r.cart) (leb r.cart (length p.carts)) one_of_lem in
    let (not_before, not-over) = and_yes late early time in
    record {
      from_1 = leb→le 1 r.cart one;
      there = leb→le r.cart (length p.carts) last;
      point = ltb→lt (length (passed_by b r.cart)) (points_of p r.cart) a_point;
      clock = leb→le b.clock r.time not_before;
      limit = leb→le r.time 1_000_000_000_000 not-over;
    }

-- ---- replay

-- a log that is replayed begins with an accepted report, and the rest is replayed
pub replay_first : (p : Plan) (b c : Book) (r : Report) (rs : List Report) → replay p b (r ∷ rs) ≡ Some c
    → (acceptable p b r ≡ true) × (replay p (pass_next b r) rs ≡ Some c)
unfolding replay
replay_first p b c r rs e = by (acceptable p b r) refl e
  where
    by : (t : Bool) → acceptable p b r ≡ t → elim t [ true ↦ replay p (pass_next b r) rs | false ↦ None ] ≡ Some c
        → (acceptable p b r ≡ true) × (replay p (pass_next b r) rs ≡ Some c)
    by true q e = (q, e)
    by false q e = absurd (none-ne-some _ e)

-- and back
pub replay_on : (p : Plan) (b : Book) (r : Report) (rs : List Report) → acceptable p b r ≡ true → replay p b (r ∷ rs) ≡ replay p (pass_next b r) rs
unfolding replay
replay_on p b r rs q = ap (λ (t : Bool). elim t [ true ↦ replay p (pass_next b r) rs | false ↦ None ]) q

-- one log after another
pub replay_append : (p : Plan) (b c : Book) (log more : List Report) → replay p b log ≡ Some c → replay p b (log ++ more) ≡ replay p c more
unfolding replay
replay_append p b c [] more e = ap (λ (x : Book). replay p x more) (some-injective _ _ e)
replay_append p b c (r ∷ rs) more e =
    let (q, rest) = replay_first p b c r rs e in replay_on p b r (rs ++ more) q ∙ replay_append p (pass_next b r) c rs more rest

-- an accepted report at the end
pub replay_snoc : (p : Plan) (b0 b : Book) (log : List Report) (r : Report) → replay p b0 log ≡ Some b → acceptable p b r ≡ true
    → replay p b0 (log ++ (r ∷ [])) ≡ Some (pass_next b r)
unfolding replay
replay_snoc p b0 b log r e q = replay_append p b0 b log (r ∷ []) e ∙ replay_on p b r [] q

-- every beginning of a log that is replayed is replayed, and then the rest
pub replay_prefix : (p : Plan) (b0 b : Book) (log more : List Report) → replay p b0 (log ++ more) ≡ Some b
    → (c : Book) × (replay p b0 log ≡ Some c) × (replay p c more ≡ Some b)
unfolding replay
replay_prefix p b0 b [] more e = (b0, refl, e)
replay_prefix p b0 b (r ∷ rs) more e =
    let (q, rest) = replay_first p b0 b r (rs ++ more) e in
    let (c, before, after) = replay_prefix p (pass_next b0 r) b rs more rest in
    (c, replay_on p b0 r rs q ∙ before, after)

-- ---- its carts and times

-- each report of a log that is replayed names a cart that is there and a time of at most 10^12
pub log_carts_times : (p : Plan) (b0 b : Book) (log : List Report) → replay p b0 log ≡ Some b → (r : Report) → Memᴰ r log
    → (1 ≤ r.cart) × (r.cart ≤ length p.carts) × (r.time ≤ 1_000_000_000_000)
log_carts_times p b0 b [] e r m = absurd (Memᴰ.not-nil m)
log_carts_times p b0 b (x ∷ xs) e r m =
    let (q, rest) = replay_first p b0 b x xs e in
    let a : Acceptable p b0 x = acceptable_says p b0 x q in
    ⊎_elim (λ (h : r ≡ x). subst (λ (y : Report). (1 ≤ y.cart) × (y.cart ≤ length p.carts) × (y.time ≤ 1_000_000_000_000)) (sym h) (a.from_1, a.there, a.limit))
    (log_carts_times p (pass_next b0 x) b xs rest r) (Memᴰ.cases_cons m)

-- ---- its length

-- how many points are left to pass, of ns points each, where these are passed
abbrev left : List ℕ → List (List ℕ) → ℕ
left [] tss = 0
left (n ∷ ns) [] = 0
left (n ∷ ns) (ts ∷ tss) = (n - length ts) + left ns tss

-- one point more passed is one less left
left_less : (ns : List ℕ) (tss : List (List ℕ)) (i t : ℕ) → length tss ≡ length ns → length (get_or tss i []) < get_or ns i 0
    → left ns tss ≡ suc (left ns (set tss i (get_or tss i [] ++ (t ∷ []))))
left_less [] tss i t e h = absurd (not-suc-le-zero h)
left_less (n ∷ ns) [] i t e h = absurd (omega (arith, e))
left_less (n ∷ ns) (ts ∷ tss) zero t e h = omega (arith, h, length-append ts (t ∷ []))
left_less (n ∷ ns) (ts ∷ tss) (suc i) t e h =
    let more : left ns tss ≡ suc (left ns (set tss i (get_or tss i [] ++ (t ∷ [])))) = left_less ns tss i t (omega (arith, e)) h in
    omega (arith, more)

-- how many points each route has
abbrev pub counts : List Route → List ℕ
counts rs = map (λ (r : Route). length (route_points r)) rs

-- each report of a log passes a point
log_left : (p : Plan) (b0 b : Book) (log : List Report) → length b0.passed ≡ length (routes_of p) → replay p b0 log ≡ Some b
    → length log ≤ left (counts (routes_of p)) b0.passed
unfolding pass_next points_of passed_by
log_left p b0 b [] s e = omega arith
log_left p b0 b (r ∷ rs) s e =
    let (q, rest) = replay_first p b0 b r rs e in
    let a : Acceptable p b0 r = acceptable_says p b0 r q in
    let next : List ℕ = get_or b0.passed (r.cart - 1) [] ++ (r.time ∷ []) in
    let wide : length b0.passed ≡ length (counts (routes_of p)) = s ∙ sym (length-map (routes_of p) (λ (x : Route). length (route_points x))) in
    let less : left (counts (routes_of p)) b0.passed ≡ suc (left (counts (routes_of p)) (set b0.passed (r.cart - 1) next)) =
    left_less (counts (routes_of p)) b0.passed (r.cart - 1) r.time wide a.point
    in
    let more : length rs ≤ left (counts (routes_of p)) (set b0.passed (r.cart - 1) next) =
    log_left p (pass_next b0 r) b rs (length-set b0.passed (r.cart - 1) next ∙ s) rest
    in
    omega (arith, less, more)

-- all points together
abbrev all_points : List ℕ → ℕ
all_points [] = 0
all_points (n ∷ ns) = n + all_points ns

-- no more are left than there are
left_at_most : (ns : List ℕ) (tss : List (List ℕ)) → left ns tss ≤ all_points ns
left_at_most [] tss = omega arith
left_at_most (n ∷ ns) [] = omega arith
left_at_most (n ∷ ns) (ts ∷ tss) = omega (arith, left_at_most ns tss)

-- of all routes
points_count : (rs : List Route) → length (flat_map route_points rs) ≡ all_points (counts rs)
unfolding flat_map
points_count [] = refl
points_count (r ∷ rs) = omega (arith, length-append (route_points r) (flat_map route_points rs), points_count rs)

-- a log that is replayed from the first book has no more reports than the plan has points
pub log_short : (p : Plan) (b : Book) (log : List Report) → replay p (first_book p) log ≡ Some b → length log + 2 ≤ event_count p
unfolding first_book
log_short p b log e =
    let firsts : List (List ℕ) = map (λ (r : Route). 0 ∷ []) (routes_of p) in
    let most : length log ≤ left (counts (routes_of p)) firsts = log_left p (first_book p) b log (length-map (routes_of p) (λ (r : Route). 0 ∷ [])) e in
    omega (arith, most, left_at_most (counts (routes_of p)) firsts, points_count (routes_of p), event_count_is p)

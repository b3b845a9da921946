-- What holds of every book that a log of accepted reports can give: each cart has passed its first entry at 0, no more points than it has, and none
-- after the clock. Assumes nothing.
use Rattle.std.specs.Prelude.{Some}
use Prim.Native.Nat.{ℕ, zero, suc, ◌-◌, ◌≤◌, ◌<◌}
use native.Mathlib.Omega.{arith}
use mathlib.Core.Path.{◌≡◌, refl, ap, subst}
use mathlib.Core.Logic.{⊎_elim}
use mathlib.Core.List.Memᴰ
use mathlib.Core.List.{List, [], ◌∷◌, ◌++◌, map, Memᴰ}
use lib.ListN.{length, get_or, set, length-append}
use Rattle.laws.proofs.Options.{some-injective}
use Rattle.floor.specs.Plan.{Plan}
use Rattle.network.specs.Events.{Route, routes_of, route_points}
use Rattle.schedule.proofs.Log.{Acceptable, acceptable_says, replay_first, counts}
use Rattle.schedule.specs.Book.{Report, Book, first_book, points_of, passed_by, pass_next, replay, by_cart}

-- the times of the points that the cart of a route has passed by the clock
pub record Kept (clock : ℕ) (r : Route) (ts : List ℕ) : Type 0 where
  pub later : List ℕ
  pub from_0 : ts ≡ 0 ∷ later
  pub within : length ts ≤ length (route_points r)
  pub by_clock : (t : ℕ) → Memᴰ t ts → t ≤ clock

-- cart by cart
pub data AllKept (clock : ℕ) : List Route → List (List ℕ) → Type 0 where
  no_cart : AllKept clock [] []
  one_more : {r : Route} {ts : List ℕ} {rs : List Route} {tss : List (List ℕ)} → Kept clock r ts → AllKept clock rs tss → AllKept clock (r ∷ rs) (ts ∷ tss)

pub record KeptBook (p : Plan) (b : Book) : Type 0 where
  pub carts : AllKept b.clock (routes_of p) b.passed
  pub in_range : b.clock ≤ 1_000_000_000_000

-- ---- the first book

abbrev pub HasPoints : List Route → Type 0
HasPoints rs = (r : Route) → Memᴰ r rs → 1 ≤ length (route_points r)

first_kept : (rs : List Route) → HasPoints rs → AllKept 0 rs (map (λ (r : Route). 0 ∷ []) rs)
first_kept [] h = no_cart
first_kept (r ∷ rs) h =
    one_more
    (record {
      later = [];
      from_0 = refl;
      within = h r (Memᴰ.head refl);
      by_clock = λ t m. let e : t ≡ 0 = Memᴰ.eq_of_singleton m in omega arith;
    })
    (first_kept rs (λ x m. h x (Memᴰ.tail m)))

-- ---- one report more

later_clock : {c t : ℕ} {r : Route} {ts : List ℕ} → c ≤ t → Kept c r ts → Kept t r ts
later_clock {c} {t} l k =
    record { later = k.later; from_0 = k.from_0; within = k.within; by_clock = λ x m. omega (arith, k.by_clock x m, l) }

all_later : {c t : ℕ} {rs : List Route} {tss : List (List ℕ)} → c ≤ t → AllKept c rs tss → AllKept t rs tss
all_later l no_cart = no_cart
all_later l (one_more k ks) = one_more (later_clock l k) (all_later l ks)

-- a point more at the time t
one_more_passed : {c t : ℕ} {r : Route} {ts : List ℕ} → c ≤ t → length ts < length (route_points r) → Kept c r ts → Kept t r (ts ++ (t ∷ []))
one_more_passed {c} {t} {r} {ts} l w k =
    record {
      later = k.later ++ (t ∷ []);
      from_0 = ap (λ (x : List ℕ). x ++ (t ∷ [])) k.from_0;
      within = omega (arith, length-append ts (t ∷ []), w);
      by_clock = λ x m.
          ⊎_elim (λ a. omega (arith, k.by_clock x a, l)) (λ a. let e : x ≡ t = Memᴰ.eq_of_singleton a in omega arith)
          (Memᴰ.append_cases ts m);
    }

pass_kept : {c t : ℕ} {rs : List Route} {tss : List (List ℕ)} (i : ℕ) → c ≤ t → AllKept c rs tss → length (get_or tss i []) < get_or (counts rs) i 0
    → AllKept t rs (set tss i (get_or tss i [] ++ (t ∷ [])))
pass_kept i l no_cart w = absurd (omega arith)
pass_kept zero l (one_more k ks) w = one_more (one_more_passed l w k) (all_later l ks)
pass_kept (suc i) l (one_more k ks) w = one_more (later_clock l k) (pass_kept i l ks w)

next_kept : (p : Plan) (b : Book) (r : Report) → Acceptable p b r → KeptBook p b → KeptBook p (pass_next b r)
unfolding points_of passed_by pass_next
next_kept p b r a k = record { carts = pass_kept (r.cart - 1) a.clock k.carts a.point; in_range = a.limit }

-- ---- a whole log

replay_kept : (p : Plan) (b : Book) (log : List Report) (c : Book) → KeptBook p b → replay p b log ≡ Some c → KeptBook p c
unfolding replay
replay_kept p b [] c k e = subst (KeptBook p) (some-injective _ _ e) k
replay_kept p b (r ∷ rs) c k e =
    let (q, f) = replay_first p b c r rs e in
    replay_kept p (pass_next b r) rs c (next_kept p b r (acceptable_says p b r q) k) f

-- every book that a log gives
pub book_kept : (p : Plan) (log : List Report) (b : Book) → HasPoints (routes_of p) → replay p (first_book p) log ≡ Some b → KeptBook p b
unfolding first_book
book_kept p log b h e = replay_kept p (first_book p) log b (record { carts = first_kept (routes_of p) h; in_range = omega arith }) e

-- ---- what is said cart by cart

-- x is among what f gives for one cart's route and times, and all that g gives for them is among what g gives
pub record AtCart {A : Type 0} (clock : ℕ) (f : Route → List ℕ → List A) (rs : List Route) (tss : List (List ℕ)) (x : A) : Type 1 where
  pub route : Route
  pub times : List ℕ
  pub of_plan : Memᴰ route rs
  pub kept : Kept clock route times
  pub here : Memᴰ x (f route times)
  pub too : {B : Type 0} (g : Route → List ℕ → List B) (y : B) → Memᴰ y (g route times) → Memᴰ y (by_cart g rs tss)

pub at_cart : {A : Type 0} {clock : ℕ} (f : Route → List ℕ → List A) {rs : List Route} {tss : List (List ℕ)} (x : A) → AllKept clock rs tss
    → Memᴰ x (by_cart f rs tss)
    → AtCart clock f rs tss x
unfolding by_cart
at_cart f x no_cart m = absurd (Memᴰ.not-nil m)
at_cart f x (one_more {r = r} {ts = ts} {rs = rs} {tss = tss} k ks) m =
    ⊎_elim
    (λ h. record { route = r; times = ts; of_plan = Memᴰ.head refl; kept = k; here = h; too = λ g y a. Memᴰ.append_left (by_cart g rs tss) a })
    (λ h. let a : AtCart _ f rs tss x = at_cart f x ks h in
    record {
      route = a.route;
      times = a.times;
      of_plan = Memᴰ.tail a.of_plan;
      kept = a.kept;
      here = a.here;
      too = λ g y c. Memᴰ.append_right (g r ts) (a.too g y c);
    })
    (Memᴰ.append_cases (f r ts) m)

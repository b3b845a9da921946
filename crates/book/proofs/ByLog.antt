-- The bounds that a book adds, by the log that gives it: each cart's times are the log's, in their order. Assumes nothing.
use Rattle.std.specs.Prelude.{Some}
use Prim.Native.Nat.{ℕ, suc, ◌+◌, ◌-◌, ◌≤◌, ◌<◌}
use native.Mathlib.Omega.{arith}
use native.Mathlib.Decide.{ℕ_discrete}
use mathlib.Core.Path.{◌≡◌, refl, ap, ap₂, sym, ◌∙◌}
use mathlib.Core.Logic.{⊎_elim}
use mathlib.Core.Bool.{Bool, true, false, cond}
use mathlib.Core.List.Memᴰ
use mathlib.Core.List.{List, [], ◌∷◌, ◌++◌, map, tail, flat_map, append_assoc, append-nil, Memᴰ}
use lib.Dec.{eqb}
use lib.ListN.{length, get_or, take, drop, set}
use borrow.Author.Tests.{eq-eqb, ne_eqb}
use Rattle.laws.proofs.Options.{some-injective}
use Rattle.floor.specs.Plan.{Plan}
use Rattle.floor.specs.declared.Cart.{Cart}
use Rattle.network.specs.Events.{Point, places, visits_of, points, Route, routes, routes_of, route_points, route_events}
use Rattle.network.specs.Bounds.{Bound}
use Rattle.schedule.specs.Book.{Report, Book, first_book, passed_by, pass_next, replay, passed_at, route_passed, route_to_pass, by_cart}
use Rattle.schedule.specs.Added.{reported_bound, clock_bound, route_added, added_bounds}
use Rattle.schedule.proofs.Log.{acceptable_says, replay_first}
use Rattle.book.specs.Replaying.{times_of, Firsts}
use Rattle.book.specs.Writing.{reported_from, waiting_from, cart_added, added_along}
use Rattle.book.proofs.Starts.{numbers, numbers_first, numbers_next, first_events_are}

-- ---- the times of each cart

-- those that carts from number j on have passed, and those that a log has of them
abbrev pub logged : List Report → ℕ → List (List ℕ) → List (List ℕ)
logged log j [] = []
logged log j (ts ∷ tss) = (ts ++ times_of j log) ∷ logged log (suc j) tss

-- of no log
logged_none : (j : ℕ) (tss : List (List ℕ)) → logged [] j tss ≡ tss
unfolding times_of
logged_none j [] = refl
logged_none j (ts ∷ tss) = ap₂ (λ (x : List ℕ) (y : List (List ℕ)). x ∷ y) (append-nil ts) (logged_none (suc j) tss)

-- a report of a cart before these adds nothing
logged_past : (r : Report) (rs : List Report) (j : ℕ) (tss : List (List ℕ)) → r.cart < j → logged rs j tss ≡ logged (r ∷ rs) j tss
unfolding times_of
logged_past r rs j [] h = refl
logged_past r rs j (ts ∷ tss) h =
    ap₂ (λ (x : List ℕ) (y : List (List ℕ)). (ts ++ x) ∷ y)
    (sym (ap (λ (b : Bool). cond b (r.time ∷ times_of j rs) (times_of j rs)) (ne_eqb r.cart j (λ e. omega arith))))
    (logged_past r rs (suc j) tss (omega arith))

-- a report of one of these adds its time
logged_one : (r : Report) (rs : List Report) (j : ℕ) (tss : List (List ℕ)) → j ≤ r.cart
    → logged rs j (set tss (r.cart - j) (get_or tss (r.cart - j) [] ++ (r.time ∷ []))) ≡ logged (r ∷ rs) j tss
unfolding times_of
logged_one r rs j [] h = refl
logged_one r rs j (ts ∷ tss) h = by (ℕ_discrete r.cart j) (λ l. logged_one r rs (suc j) tss l)
  where
    put : ℕ → List (List ℕ)
    put k = set (ts ∷ tss) k (get_or (ts ∷ tss) k [] ++ (r.time ∷ []))

    by : Dec (r.cart ≡ j) → (suc j ≤ r.cart → logged rs (suc j) (set tss (r.cart - suc j) (get_or tss (r.cart - suc j) [] ++ (r.time ∷ []))) ≡ logged (r ∷ rs) (suc j) tss)
        → logged rs j (put (r.cart - j)) ≡ logged (r ∷ rs) j (ts ∷ tss)
    by (yes e) more =
        let z : r.cart - j ≡ 0 = omega (arith, e) in
        ap (λ (k : ℕ). logged rs j (put k)) z
        ∙ ap₂ (λ (x : List ℕ) (y : List (List ℕ)). x ∷ y)
        (append_assoc ts (r.time ∷ []) (times_of j rs) ∙ ap (λ (x : List ℕ). ts ++ x) (sym (ap (λ (b : Bool). cond b (r.time ∷ times_of j rs) (times_of j rs)) (eq-eqb r.cart j e))))
        (logged_past r rs (suc j) tss (omega (arith, e)))
    by (no n) more =
        let z : r.cart - j ≡ suc (r.cart - suc j) = far n in
        ap (λ (k : ℕ). logged rs j (put k)) z
        ∙ ap₂ (λ (x : List ℕ) (y : List (List ℕ)). (ts ++ x) ∷ y)
        (sym (ap (λ (b : Bool). cond b (r.time ∷ times_of j rs) (times_of j rs)) (ne_eqb r.cart j n)))
        (more (later n))
      where
        later : ¬ (r.cart ≡ j) → suc j ≤ r.cart
        later n = omega (arith, h)

        far : ¬ (r.cart ≡ j) → r.cart - j ≡ suc (r.cart - suc j)
        far n = omega (arith, later n)

-- so the times of a book are those of the log that leads to it
replay_logged : (p : Plan) (b c : Book) (log : List Report) → replay p b log ≡ Some c → c.passed ≡ logged log 1 b.passed
unfolding replay pass_next passed_by
replay_logged p b c [] e = ap (λ (x : Book). x.passed) (sym (some-injective _ _ e)) ∙ sym (logged_none 1 b.passed)
replay_logged p b c (r ∷ rs) e =
    let (q, f) = replay_first p b c r rs e in
    replay_logged p (pass_next b r) c rs f ∙ logged_one r rs 1 b.passed (acceptable_says p b r q).from_1

-- ---- the bounds of a cart

-- of the points passed
reported_are : {A : Type 0} (xs : List A) (us : List ℕ) (e : ℕ) → map reported_bound (passed_at (places e xs) us) ≡ reported_from e (length xs) us
unfolding passed_at places reported_from
reported_are [] us e = refl
reported_are (x ∷ xs) [] e = refl
reported_are (x ∷ xs) (u ∷ us) e = ap (λ (l : List Bound). reported_bound (record { event = e; time = u }) ∷ l) (reported_are xs us (suc e))

-- of all points, where none is passed
all_waiting : {A : Type 0} (xs : List A) (c e : ℕ) → map (clock_bound c) (places e xs) ≡ waiting_from c e (length xs)
unfolding places waiting_from
all_waiting [] c e = refl
all_waiting (x ∷ xs) c e = ap (λ (l : List Bound). clock_bound c e ∷ l) (all_waiting xs c (suc e))

-- of those still to be passed
waiting_are : {A : Type 0} (xs : List A) (us : List ℕ) (c e : ℕ)
    → map (clock_bound c) (drop (length us) (places e xs)) ≡ waiting_from c (e + length (reported_from e (length xs) us)) (length xs - length (reported_from e (length xs) us))
unfolding places reported_from waiting_from
waiting_are [] [] c e = refl
waiting_are [] (u ∷ us) c e = refl
waiting_are (x ∷ xs) [] c e =
    let z : e + 0 ≡ e = omega arith in
    let m : suc (length xs) ≡ suc (length xs) - 0 = omega arith in
    all_waiting (x ∷ xs) c e ∙ ap (λ (n : ℕ). waiting_from c n (suc (length xs))) (sym z) ∙ ap (waiting_from c (e + 0)) m
waiting_are (x ∷ xs) (u ∷ us) c e =
    let k : ℕ = length (reported_from (suc e) (length xs) us) in
    let z : suc e + k ≡ e + suc k = omega arith in
    let m : length xs - k ≡ suc (length xs) - suc k = omega arith in
    waiting_are xs us c (suc e) ∙ ap (λ (n : ℕ). waiting_from c n (length xs - k)) z ∙ ap (waiting_from c (e + suc k)) m

-- of a route that has a point
cart_are : (clock : ℕ) (log : List Report) (r : Route) → 1 ≤ length (route_points r)
    → route_added clock r (0 ∷ times_of r.number log)
    ≡ cart_added clock log r.number (suc r.first) (r.first + length (route_points r) - suc r.first)
unfolding route_added route_passed route_to_pass route_events cart_added places passed_at
cart_are clock log r h = by (route_points r) h
  where
    us : List ℕ
    us = times_of r.number log

    by : (ps : List Point) → 1 ≤ length ps
        → map reported_bound (tail (passed_at (places r.first ps) (0 ∷ us))) ++ map (clock_bound clock) (drop (suc (length us)) (places r.first ps))
        ≡ cart_added clock log r.number (suc r.first) (r.first + length ps - suc r.first)
    by [] l = absurd (omega arith)
    by (x ∷ xs) l =
        let n : r.first + suc (length xs) - suc r.first ≡ length xs = omega arith in
        ap₂ (λ (a b : List Bound). a ++ b) (reported_are xs us (suc r.first)) (waiting_are xs us clock (suc r.first))
        ∙ ap (cart_added clock log r.number (suc r.first)) (sym n)

-- ---- the bounds of all carts

-- of routes whose events are numbered from e on
along_are : (clock : ℕ) (log : List Report) (cs : List Cart) (ps : List (List ℕ)) (j e : ℕ)
    → ((r : Route) → Memᴰ r (routes j e cs ps) → 1 ≤ length (route_points r))
    → by_cart (route_added clock) (routes j e cs ps) (logged log j (map (λ (r : Route). 0 ∷ []) (routes j e cs ps)))
    ≡ added_along clock log j e (drop 1 (numbers j e cs ps))
unfolding routes by_cart added_along flat_map route_points
along_are clock log [] ps j e h = refl
along_are clock log (c ∷ cs) [] j e h = refl
along_are clock log (c ∷ cs) (p ∷ ps) j e h =
    let f : ℕ = e + length (points (visits_of p)) in
    let r : Route = record { number = j; cart = c; visits = visits_of p; first = e } in
    let next : drop 1 (numbers j e (c ∷ cs) (p ∷ ps)) ≡ f ∷ drop 1 (numbers (suc j) f cs ps) = numbers_next c cs p ps j e ∙ numbers_first cs ps (suc j) f in
    ap₂ (λ (x y : List Bound). x ++ y)
    (cart_are clock log r (h r (Memᴰ.head refl)))
    (along_are clock log cs ps (suc j) f (λ x m. h x (Memᴰ.tail m)))
    ∙ ap (added_along clock log j e) (sym next)

-- of a plan with the book of its log
pub added_are : (p : Plan) (carts : ℕ) (firsts : List ℕ) → Firsts p carts firsts → (log : List Report) (b : Book) → replay p (first_book p) log ≡ Some b
    → added_bounds p b ≡ added_along b.clock log 1 (get_or firsts 0 0) (take carts (drop 1 firsts))
unfolding added_bounds first_book routes_of
added_are p carts firsts f log b e =
    let all : take (suc carts) firsts ≡ 1 ∷ drop 1 (numbers 1 1 p.carts p.paths) = f.are ∙ first_events_are p ∙ numbers_first p.carts p.paths 1 1 in
    ap (by_cart (route_added b.clock) (routes 1 1 p.carts p.paths)) (replay_logged p (first_book p) b log e)
    ∙ along_are b.clock log p.carts p.paths 1 1 f.have_points
    ∙ by firsts all
  where
    by : (fs : List ℕ) → take (suc carts) fs ≡ 1 ∷ drop 1 (numbers 1 1 p.carts p.paths)
        → added_along b.clock log 1 1 (drop 1 (numbers 1 1 p.carts p.paths)) ≡ added_along b.clock log 1 (get_or fs 0 0) (take carts (drop 1 fs))
    by [] q = absurd (let z : ◌≡◌ {A = ℕ} 0 1 = omega (arith, ap length q) in omega arith)
    by (x ∷ xs) q =
        let first : x ≡ 1 = ap (λ (l : List ℕ). get_or l 0 0) q in
        let rest : take carts xs ≡ drop 1 (numbers 1 1 p.carts p.paths) = ap (λ (l : List ℕ). drop 1 l) q in
        ap (added_along b.clock log 1 1) (sym rest) ∙ ap (λ (n : ℕ). added_along b.clock log 1 n (take carts xs)) (sym first)

-- ---- the times of the log

-- each is the time of a point passed, and so no later than 10^12
pub times_most : (p : Plan) (b c : Book) (log : List Report) → replay p b log ≡ Some c → (j t : ℕ) → Memᴰ t (times_of j log) → t ≤ 1_000_000_000_000
unfolding times_of replay
times_most p b c [] e j t m = absurd (Memᴰ.not-nil m)
times_most p b c (r ∷ rs) e j t m =
    let (q, f) = replay_first p b c r rs e in
    by (acceptable_says p b r q).limit (λ k. times_most p (pass_next b r) c rs f j t k) (eqb r.cart j) m
  where
    by : r.time ≤ 1_000_000_000_000 → (Memᴰ t (times_of j rs) → t ≤ 1_000_000_000_000) → (x : Bool)
        → Memᴰ t (cond x (r.time ∷ times_of j rs) (times_of j rs)) → t ≤ 1_000_000_000_000
    by l more true m = ⊎_elim (λ (q : t ≡ r.time). omega arith) more (Memᴰ.cases_cons m)
    by l more false m = more m

-- A bound's number leads to that bound: no two bounds have the same. Assumes nothing.
use Prim.Native.Nat.{ℕ, zero, suc, ◌+◌, ◌≤◌, ◌<◌}
use native.Mathlib.Omega.{arith}
use mathlib.Core.Path.{◌≡◌, refl, ap, sym, ◌∙◌, subst}
use mathlib.Core.Logic.{⊎_elim}
use mathlib.Core.Bool.{Bool, cond}
use mathlib.Core.List.Memᴰ
use mathlib.Core.List.{List, [], ◌∷◌, ◌++◌, map, tail, Memᴰ}
use lib.ListN.{length, get_or, drop, length-map}
use borrow.Author.Tests.{eq-eqb, ne_eqb}
use Rattle.laws.proofs.Rising.{Rises, rises_member}
use Rattle.floor.specs.Plan.{Plan}
use Rattle.floor.specs.declared.Cart.{Cart}
use Rattle.network.specs.Events.{Route, points, visits_of, routes, routes_of, route_points, route_events, places}
use Rattle.network.specs.Bounds.{Bound, bounds}
use Rattle.schedule.specs.Book.{Book, passed_at, route_passed, route_to_pass, by_cart}
use Rattle.schedule.specs.Added.{reported_bound, clock_bound, route_added, added_bounds, all_bounds, Numbered, numbered, added_numbered, numbered_bounds}
use Rattle.schedule.specs.Chain.{Direction, Item, leg, leg_of}
use Rattle.schedule.proofs.Books.{Kept, AllKept, one_more, KeptBook}

-- ---- looking a number up

-- the first bound has the number
found : (x : Numbered) (bs : List Numbered) (i : Item) → x.number ≡ i.number → leg_of (x ∷ bs) i ≡ leg x.bound i.direction
unfolding leg_of
found x bs i e = ap (λ (t : Bool). cond t (leg x.bound i.direction) (leg_of bs i)) (eq-eqb x.number i.number e)

-- it has another
passed_over : (x : Numbered) (bs : List Numbered) (i : Item) → ¬ (x.number ≡ i.number) → leg_of (x ∷ bs) i ≡ leg_of bs i
unfolding leg_of
passed_over x bs i h = ap (λ (t : Bool). cond t (leg x.bound i.direction) (leg_of bs i)) (ne_eqb x.number i.number h)

-- ---- the plan's own bounds

-- the number k leads to the bound c
pub record Leads (bs : List Numbered) (c : Bound) (k : ℕ) : Type 0 where
  pub leads : (d : Direction) → leg_of bs (record { number = k; direction = d }) ≡ leg c d

lead_on : (x : Numbered) (bs : List Numbered) (c : Bound) (k : ℕ) → ¬ (x.number ≡ k) → Leads bs c k → Leads (x ∷ bs) c k
lead_on x bs c k h l = record { leads = λ d. passed_over x bs (record { number = k; direction = d }) h ∙ l.leads d }

lead_here : (x : Numbered) (bs : List Numbered) (c : Bound) → c ≡ x.bound → Leads (x ∷ bs) c x.number
lead_here x bs c e = record { leads = λ d. found x bs (record { number = x.number; direction = d }) refl ∙ ap (λ (y : Bound). leg y d) (sym e) }

-- a bound among those numbered from i on has a number among theirs
own_number : (bs : List Bound) (i : ℕ) (rest : List Numbered) (c : Bound) → Memᴰ c bs → (k : ℕ) × (i ≤ k) × Leads (numbered i bs ++ rest) c k
unfolding numbered
own_number [] i rest c m = absurd (Memᴰ.not-nil m)
own_number (b ∷ bs) i rest c m =
    ⊎_elim
    (λ (e : c ≡ b). (i, omega arith, lead_here (record { number = i; bound = b }) (numbered (suc i) bs ++ rest) c e))
    (λ t. let (k, l, h) = own_number bs (suc i) rest c t in
    (k, omega (arith, l), lead_on (record { number = i; bound = b }) (numbered (suc i) bs ++ rest) c k (λ (e : i ≡ k). omega (arith, l)) h))
    (Memᴰ.cases_cons m)

-- a number past theirs is looked for further on
past_own : (bs : List Bound) (i : ℕ) (rest : List Numbered) (x : Item) → i + length bs ≤ x.number → leg_of (numbered i bs ++ rest) x ≡ leg_of rest x
unfolding numbered
past_own [] i rest x l = refl
past_own (b ∷ bs) i rest x l =
    passed_over (record { number = i; bound = b }) (numbered (suc i) bs ++ rest) x (λ e. omega arith)
    ∙ past_own bs (suc i) rest x (omega arith)

-- ---- the added ones: each cart event but the first entries has one at most

-- numbers above e, each above the one before
abbrev Above : ℕ → List ℕ → Type 0
Above = Rises (λ (x : ℕ). x)

above_less : (l : List ℕ) (d e : ℕ) → d ≤ e → Above e l → Above d l
above_less [] d e h r = tt
above_less (x ∷ xs) d e h r = (omega (arith, r.0), r.1)

-- the numbers after e of things in a row, and what is above them
above_places : {A : Type 0} (xs : List A) (e : ℕ) (rest : List ℕ) → Above (e + length xs) rest → Above e (places (suc e) xs ++ rest)
unfolding places
above_places [] e rest r = above_less rest e (e + 0) (omega arith) r
above_places (x ∷ xs) e rest r = (omega arith, above_places xs (suc e) rest (above_less rest (suc e + length xs) (e + suc (length xs)) (omega arith) r))

-- the events of a list of bounds' ends
abbrev ends : List Bound → List ℕ
ends = map (λ (b : Bound). b.to)

ends_append : (xs ys : List Bound) → ends (xs ++ ys) ≡ ends xs ++ ends ys
ends_append [] ys = refl
ends_append (x ∷ xs) ys = ap (λ (l : List ℕ). x.to ∷ l) (ends_append xs ys)

ends_waiting : (es : List ℕ) (c : ℕ) → ends (map (clock_bound c) es) ≡ es
unfolding clock_bound
ends_waiting [] c = refl
ends_waiting (e ∷ es) c = ap (λ (l : List ℕ). e ∷ l) (ends_waiting es c)

-- the points passed and those still to be passed are all there are
ends_all : (es ts : List ℕ) (c : ℕ) → ends (map reported_bound (passed_at es ts) ++ map (clock_bound c) (drop (length ts) es)) ≡ es
unfolding passed_at reported_bound clock_bound
ends_all [] [] c = refl
ends_all [] (t ∷ ts) c = refl
ends_all (e ∷ es) [] c = ap (λ (l : List ℕ). e ∷ l) (ends_waiting es c)
ends_all (e ∷ es) (t ∷ ts) c = ap (λ (l : List ℕ). e ∷ l) (ends_all es ts c)

-- so a cart's added bounds end at its events, its first entry excepted
route_ends : (r : Route) (ts : List ℕ) (c : ℕ) → Kept c r ts → ends (route_added c r ts) ≡ tail (route_events r)
unfolding route_added route_passed route_to_pass route_events places passed_at
route_ends r ts c k = subst (λ (us : List ℕ). Shown (route_events r) us) (sym k.from_0) (by (route_events r))
  where
    Shown : List ℕ → List ℕ → Type 0
    Shown es us = ends (map reported_bound (tail (passed_at es us)) ++ map (clock_bound c) (drop (length us) es)) ≡ tail es

    by : (es : List ℕ) → Shown es (0 ∷ k.later)
    by [] = refl
    by (e ∷ es) = ends_all es k.later c

above_tail : {A : Type 0} (xs : List A) (e : ℕ) (rest : List ℕ) → Above (e + length xs) rest → Above e (tail (places e xs) ++ rest)
unfolding places
above_tail [] e rest r = above_less rest e (e + 0) (omega arith) r
above_tail (x ∷ xs) e rest r = above_places xs e rest (above_less rest (e + length xs) (e + suc (length xs)) (omega arith) r)

-- they rise from cart to cart
added_rise : (cs : List Cart) (ps : List (List ℕ)) (j e c : ℕ) (tss : List (List ℕ)) → AllKept c (routes j e cs ps) tss
    → Above e (ends (by_cart (route_added c) (routes j e cs ps) tss))
unfolding routes by_cart route_events route_points
added_rise [] ps j e c tss k = tt
added_rise (d ∷ cs) [] j e c tss k = tt
added_rise (d ∷ cs) (p ∷ ps) j e c tss k = by (e + length (points (visits_of p))) tss k (λ more ks. added_rise cs ps (suc j) (e + length (points (visits_of p))) c more ks)
  where
    r : Route
    r = record { number = j; cart = d; visits = visits_of p; first = e }

    by : (f : ℕ) (tss : List (List ℕ)) → AllKept c (r ∷ routes (suc j) f cs ps) tss
        → ((more : List (List ℕ)) → AllKept c (routes (suc j) f cs ps) more → Above (e + length (route_points r)) (ends (by_cart (route_added c) (routes (suc j) f cs ps) more)))
        → Above e (ends (by_cart (route_added c) (r ∷ routes (suc j) f cs ps) tss))
    by f tss (one_more {ts = ts} {tss = more} k ks) rise =
        let rest = by_cart (route_added c) (routes (suc j) f cs ps) more in
        subst (Above e) (sym (ends_append (route_added c r ts) rest ∙ ap (λ (l : List ℕ). l ++ ends rest) (route_ends r ts c k)))
        (above_tail (route_points r) e (ends rest) (rise more ks))

-- ---- so a number of theirs leads to one bound

added_leads : (bs : List Bound) (e : ℕ) (c : Bound) → Above e (ends bs) → Memᴰ c bs → Leads (added_numbered bs) c (10_000 + c.to)
unfolding added_numbered
added_leads [] e c r m = absurd (Memᴰ.not-nil m)
added_leads (b ∷ bs) e c r m =
    ⊎_elim
    (λ (q : c ≡ b). subst (λ (x : Bound). Leads (added_numbered (b ∷ bs)) c (10_000 + x.to)) (sym q) (lead_here (record { number = 10_000 + b.to; bound = b }) (added_numbered bs) c q))
    (λ t. let l : b.to < c.to = rises_member (λ (x : ℕ). x) b.to (ends bs) c.to r.1 (Memᴰ.map (λ (x : Bound). x.to) t) in
    lead_on (record { number = 10_000 + b.to; bound = b }) (added_numbered bs) c (10_000 + c.to) (λ (q : 10_000 + b.to ≡ 10_000 + c.to). omega arith) (added_leads bs b.to c r.1 t))
    (Memᴰ.cases_cons m)

-- numbers that rise above e and stay below n are few
above_few : (l : List ℕ) (e n : ℕ) → Above e l → ((x : ℕ) → Memᴰ x l → x < n) → e < n → e + length l < n
above_few [] e n r h l = omega arith
above_few (x ∷ xs) e n r h l =
    let rest : x + length xs < n = above_few xs x n r.1 (λ y m. h y (Memᴰ.tail m)) (h x (Memᴰ.head refl)) in
    omega (arith, rest, r.0)

-- so there are fewer added bounds than events
pub added_few : (p : Plan) (b : Book) → KeptBook p b → (n : ℕ) → 1 < n → ((c : Bound) → Memᴰ c (added_bounds p b) → c.to < n) → length (added_bounds p b) < n
unfolding added_bounds routes_of
added_few p b kept n l h =
    let bs : List Bound = added_bounds p b in
    let rest : 1 + length (ends bs) < n =
    above_few (ends bs) 1 n (added_rise p.carts p.paths 1 1 b.clock b.passed kept.carts)
    (λ x m. let (c, k, e) = Memᴰ.of_map (λ (c : Bound). c.to) bs m in subst (λ (y : ℕ). y < n) e (h c k)) l in
    omega (arith, rest, length-map bs (λ (c : Bound). c.to))

-- a number of a plan and its book's added bound leads to it
pub added_number : (p : Plan) (b : Book) → KeptBook p b → length (bounds p) ≤ 8192 → (c : Bound) → Memᴰ c (added_bounds p b) → Leads (numbered_bounds p b) c (10_000 + c.to)
unfolding numbered_bounds added_bounds routes_of
added_number p b kept few c h =
    let q = added_leads (added_bounds p b) 1 c (added_rise p.carts p.paths 1 1 b.clock b.passed kept.carts) h in
    record {
      leads = λ d. past_own (bounds p) 0 (added_numbered (added_bounds p b)) (record { number = 10_000 + c.to; direction = d }) (omega (arith, few)) ∙ q.leads d;
    }

-- every bound of a plan and its book has a number that leads to it
pub has_number : (p : Plan) (b : Book) → KeptBook p b → length (bounds p) ≤ 8192 → (c : Bound) → Memᴰ c (all_bounds p b)
    → (k : ℕ) × Leads (numbered_bounds p b) c k
unfolding all_bounds numbered_bounds added_bounds routes_of
has_number p b kept few c m = ⊎_elim own added (Memᴰ.append_cases (bounds p) m)
  where
    own : Memᴰ c (bounds p) → (k : ℕ) × Leads (numbered_bounds p b) c k
    own h = let (k, l, q) = own_number (bounds p) 0 (added_numbered (added_bounds p b)) c h in (k, q)

    added : Memᴰ c (added_bounds p b) → (k : ℕ) × Leads (numbered_bounds p b) c k
    added h = (10_000 + c.to, added_number p b kept few c h)

-- the plan's own bound at place i has the number i
own_at : (bs : List Bound) (j : ℕ) (rest : List Numbered) (i : ℕ) (c : Bound) → i < length bs → get_or bs i c ≡ c → Leads (numbered j bs ++ rest) c (j + i)
unfolding numbered
own_at [] j rest i c l e = absurd (omega arith)
own_at (b ∷ bs) j rest zero c l e =
    let z : j ≡ j + 0 = omega arith in
    subst (Leads (numbered j (b ∷ bs) ++ rest) c) z (lead_here (record { number = j; bound = b }) (numbered (suc j) bs ++ rest) c (sym e))
own_at (b ∷ bs) j rest (suc i) c l e =
    let z : suc j + i ≡ j + suc i = omega arith in
    subst (Leads (numbered j (b ∷ bs) ++ rest) c) z
    (lead_on (record { number = j; bound = b }) (numbered (suc j) bs ++ rest) c (suc j + i) (λ (q : j ≡ suc j + i). omega arith) (own_at bs (suc j) rest i c (omega arith) e))

pub own_place : (p : Plan) (b : Book) (i : ℕ) (c : Bound) → i < length (bounds p) → get_or (bounds p) i c ≡ c → Leads (numbered_bounds p b) c i
unfolding numbered_bounds
own_place p b i c l e = let z : 0 + i ≡ i = omega arith in subst (Leads (numbered_bounds p b) c) z (own_at (bounds p) 0 (added_numbered (added_bounds p b)) i c l e)

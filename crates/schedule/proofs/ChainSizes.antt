-- A chain fits its slices: it has no more items than there are events, since it meets none twice, and its numbers need no more than two bytes.
-- Assumes nothing.
use Rattle.std.specs.Prelude.{Option, None, Some}
use Prim.Native.Nat.{ℕ, zero, suc, ◌+◌, ◌^◌, ◌≤◌, ◌<◌}
use native.Mathlib.Decide.{dec_lt}
use native.Mathlib.Omega.{arith}
use mathlib.Core.Path.{◌≡◌, refl, ap, sym, subst}
use mathlib.Core.Logic.{inl, inr, ⊎_elim, ◌≢◌, by_cases}
use mathlib.Core.Bool.{◌&&◌, not}
use mathlib.Core.List.Memᴰ
use mathlib.Core.List.{List, [], ◌∷◌, map, Memᴰ}
use lib.Dec.{T, T_not, eqb, eqb_refl}
use lib.ListN.{length, get_or}
use lib.Signed.{lt_z}
use lib.IntN.{pos}
use mir.Facts.{and_yes}
use Rattle.laws.proofs.Options.{none-ne-some, some-injective}
use Rattle.laws.proofs.Tests.{yes_or}
use Rattle.floor.specs.Plan.{Plan}
use Rattle.network.specs.Events.{event_count}
use Rattle.network.specs.Bounds.{Bound, bounds}
use Rattle.network.proofs.Judged.{judged}
use Rattle.walks.proofs.Search.{Twice, pigeon}
use Rattle.schedule.specs.Book.{Book}
use Rattle.schedule.specs.Added.{added_bounds, all_bounds, Numbered, numbered, added_numbered, numbered_bounds}
use Rattle.schedule.specs.Chain.{Direction, onward, back, Item, Leg, onward_leg, leg, legs, linked, begins_at, no_event_twice, cost, closed_below_0, is_chain}
use Rattle.schedule.proofs.Legs.{closed_legs, items_bounds, legs_bounds, legs_long, numbered_bound}
use Rattle.schedule.proofs.Logged.{Logged, bound_ends}

-- where the legs of a list begin
abbrev begun : List Leg → ℕ → ℕ
begun ls i = get_or (map (λ (l : Leg). l.begins) ls) i 0

-- a leg at some place begins there
begins_there : (ls : List Leg) (i : ℕ) → i < length ls → T (begins_at (begun ls i) ls)
unfolding begins_at
begins_there [] i h = absurd (omega arith)
begins_there (l ∷ ls) zero h = yes_or (eqb l.begins l.begins) (begins_at l.begins ls) (inl (eqb_refl l.begins))
begins_there (l ∷ ls) (suc i) h = yes_or (eqb (begun ls i) l.begins) (begins_at (begun ls i) ls) (inr (begins_there ls i (omega arith)))

-- two legs of a list that meets no event twice begin at different events
begins_apart : (ls : List Leg) → T (no_event_twice ls) → (i j : ℕ) → i < j → j < length ls → begun ls i ≢ begun ls j
unfolding no_event_twice
begins_apart [] t i j h k e = omega arith
begins_apart (l ∷ ls) t i zero h k e = omega arith
begins_apart (l ∷ ls) t zero (suc j) h k e =
    T_not (begins_at l.begins ls) (and_yes (not (begins_at l.begins ls)) (no_event_twice ls) t).0
    (subst (λ (x : ℕ). T (begins_at x ls)) (sym e) (begins_there ls j (omega arith)))
begins_apart (l ∷ ls) t (suc i) (suc j) h k e =
    begins_apart ls (and_yes (not (begins_at l.begins ls)) (no_event_twice ls) t).1 i j (omega arith) (omega arith) e

begins_below : (ls : List Leg) (n : ℕ) → ((l : Leg) → Memᴰ l ls → l.begins < n) → (i : ℕ) → i < length ls → begun ls i < n
begins_below [] n h i k = absurd (omega arith)
begins_below (l ∷ ls) n h zero k = h l (Memᴰ.head refl)
begins_below (l ∷ ls) n h (suc i) k = begins_below ls n (λ x m. h x (Memᴰ.tail m)) i (omega arith)

-- so of n events there are at most n legs
legs_few : (ls : List Leg) (n : ℕ) → T (no_event_twice ls) → ((l : Leg) → Memᴰ l ls → l.begins < n) → length ls ≤ n
legs_few ls n t h = by_cases (dec_lt n (length ls)) (λ k. absurd (clash k (pigeon n (begun ls) (λ i m. begins_below ls n h i (omega arith))))) (λ k. omega arith)
  where
    clash : n < length ls → Twice (begun ls) n → ⊥
    clash k w = begins_apart ls t w.low w.high w.below (omega (arith, w.within)) w.equal

leg_begins : (c : Bound) (n : ℕ) → c.from < n → c.to < n → (d : Direction) (l : Leg) → leg c d ≡ Some l → l.begins < n
unfolding leg onward_leg
leg_begins c n f t onward l e = by c.hi e
  where
    by : (o : Option ℕ) → onward_leg c o ≡ Some l → l.begins < n
    by None e = absurd (none-ne-some _ e)
    by (Some h) e = subst (λ (x : Leg). x.begins < n) (some-injective _ _ e) f
leg_begins c n f t back l e = subst (λ (x : Leg). x.begins < n) (some-injective _ _ e) t

closed_few : (o : Option (List Leg)) (ls : List Leg) → o ≡ Some ls → T (closed_below_0 o) → T (no_event_twice ls)
unfolding closed_below_0
closed_few None ls e t = absurd t
closed_few (Some []) ls e t = absurd t
closed_few (Some (l ∷ more)) ls e t =
    let (a, c) = and_yes (linked l.ends l.begins more && no_event_twice (l ∷ more)) (lt_z (cost (l ∷ more)) (pos 0)) t in
    subst (λ (x : List Leg). T (no_event_twice x)) (some-injective _ _ e) (and_yes (linked l.ends l.begins more) (no_event_twice (l ∷ more)) a).1

pub chain_short : (p : Plan) (b : Book) → Logged p b → (is : List Item) → T (is_chain p b is) → length is ≤ event_count p
unfolding is_chain
chain_short p b k is t =
    let (ls, e) = closed_legs (legs (numbered_bounds p b) is) t in
    let few : length ls ≤ event_count p =
    legs_few ls (event_count p) (closed_few (legs (numbered_bounds p b) is) ls e t)
    (λ l m. let (i, x) = legs_bounds (numbered_bounds p b) is ls e l m in
    let (f, g) = bound_ends p b k x.numbered.bound (numbered_bound p b x.numbered x.there) in
    leg_begins x.numbered.bound (event_count p) f g i.direction l x.its_leg)
    in
    omega (arith, few, legs_long (numbered_bounds p b) is ls e)

-- ---- the numbers

own_below : (bs : List Bound) (i : ℕ) (x : Numbered) → Memᴰ x (numbered i bs) → x.number < i + length bs
unfolding numbered
own_below [] i x m = absurd (Memᴰ.not-nil m)
own_below (b ∷ bs) i x m =
    ⊎_elim (λ (e : x ≡ record { number = i; bound = b }). let q : x.number ≡ i = ap (λ (y : Numbered). y.number) e in omega arith)
    (λ t. let h : x.number < suc i + length bs = own_below bs (suc i) x t in omega arith)
    (Memᴰ.cases_cons m)

number_below : (p : Plan) (b : Book) → Logged p b → (x : Numbered) → Memᴰ x (numbered_bounds p b) → x.number < 256 ^ 2
unfolding numbered_bounds added_numbered all_bounds
number_below p b k x m =
    let (read, events, count) = judged k.tables p k.of_tables in
    ⊎_elim (λ h. let q : x.number < 0 + length (bounds p) = own_below (bounds p) 0 x h in omega (arith, q, count))
    (λ h. let (c, i, e) = Memᴰ.of_map (λ (b : Bound). record { number = 10_000 + b.to; bound = b }) (added_bounds p b) h in
    let q : 10_000 + c.to ≡ x.number = ap (λ (y : Numbered). y.number) e in
    let (f, g) = bound_ends p b k c (Memᴰ.append_right (bounds p) i) in
    omega (arith, q, g, events))
    (Memᴰ.append_cases (numbered 0 (bounds p)) m)

pub chain_numbers : (p : Plan) (b : Book) → Logged p b → (is : List Item) → T (is_chain p b is) → (i : Item) → Memᴰ i is → i.number < 256 ^ 2
unfolding is_chain
chain_numbers p b k is t i m =
    let (ls, e) = closed_legs (legs (numbered_bounds p b) is) t in
    let (l, x) = items_bounds (numbered_bounds p b) is ls e i m in
    subst (λ (n : ℕ). n < 256 ^ 2) x.same_number (number_below p b k x.numbered x.there)

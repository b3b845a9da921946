-- The visits of a route: their steps rise, their cells change, each is where its path is, and from the last on the path stays. Assumes nothing.
use Prim.Native.Nat.{ℕ, zero, suc, ◌+◌, ◌≤◌, ◌<◌}
use native.Mathlib.Omega.{arith}
use mathlib.Core.Path.{◌≡◌, refl, ap, sym, ◌∙◌, subst}
use mathlib.Core.Logic.{◌≢◌, ◌⊎◌, inl, inr, ⊎_elim}
use mathlib.Core.Bool.{Bool, true, false, cond}
use mathlib.Core.List.Memᴰ
use mathlib.Core.List.{List, [], ◌∷◌, Memᴰ}
use lib.Dec.{T, eqb, eqb→eq}
use lib.ListN.{length, get_or}
use borrow.Author.Tests.{eqb-false}
use Rattle.floor.specs.Plan.{Plan}
use Rattle.floor.specs.Paths.{at_step, steps}
use Rattle.floor.proofs.Accepted.{Sound}
use Rattle.network.specs.Events.{Visit, visits_after, visits_of, Route, routes_of}
use Rattle.laws.proofs.Rising.{Rises, Rising}
use Rattle.network.proofs.Routes.{Origin, origin, path_there}

-- ---- the visits of a path

-- a visit's step
abbrev pub step_of : Visit → ℕ
step_of v = v.step

-- the steps of the visits rise
visits_after_rise : (ds : List ℕ) (c t : ℕ) (x : Visit) → x.step < t → Rises step_of x (visits_after c t ds)
unfolding visits_after
visits_after_rise [] c t x l = tt
visits_after_rise (d ∷ ds) c t x l = by (eqb c d) (λ v h. visits_after_rise ds d (suc t) v h)
  where
    by : (b : Bool) → ((v : Visit) → v.step < suc t → Rises step_of v (visits_after d (suc t) ds))
        → Rises step_of x (cond b (visits_after d (suc t) ds) (record { step = t; cell = d } ∷ visits_after d (suc t) ds))
    by true rest = rest x (omega arith)
    by false rest = (l, rest (record { step = t; cell = d }) (omega arith))

-- from step 0 on
pub visits_rise : (q : List ℕ) → Rising step_of (visits_of q)
unfolding visits_of
visits_rise [] = tt
visits_rise (c ∷ cs) = visits_after_rise cs c 1 (record { step = 0; cell = c }) (omega arith)

-- each successive visit is to another cell
abbrev pub Changes : Visit → List Visit → Type 0
Changes x [] = Unit {0}
Changes x (y ∷ ys) = (x.cell ≢ y.cell) × Changes y ys

-- a visit is only there where the cell is another
visits_after_change : (ds : List ℕ) (c t : ℕ) (x : Visit) → x.cell ≡ c → Changes x (visits_after c t ds)
unfolding visits_after
visits_after_change [] c t x e = tt
visits_after_change (d ∷ ds) c t x e = by (eqb c d) refl (λ v h. visits_after_change ds d (suc t) v h)
  where
    by : (b : Bool) → eqb c d ≡ b → ((v : Visit) → v.cell ≡ d → Changes v (visits_after d (suc t) ds))
        → Changes x (cond b (visits_after d (suc t) ds) (record { step = t; cell = d } ∷ visits_after d (suc t) ds))
    by true q rest = rest x (e ∙ eqb→eq c d (subst T (sym q) tt))
    by false q rest = (λ r. eqb-false c d q (sym e ∙ r), rest (record { step = t; cell = d }) refl)

-- of two successive places
changes_at : (x : Visit) (xs : List Visit) (i : ℕ) (d : Visit) → Changes x xs → i < length xs → (get_or (x ∷ xs) i d).cell ≢ (get_or xs i d).cell
changes_at x [] i d h l = absurd (omega arith)
changes_at x (y ∷ ys) zero d h l = h.0
changes_at x (y ∷ ys) (suc i) d h l = changes_at y ys i d h.1 (omega arith)

-- of the visits of a path
pub visits_change : (q : List ℕ) (i : ℕ) (d : Visit) → suc i < length (visits_of q) → (get_or (visits_of q) i d).cell ≢ (get_or (visits_of q) (suc i) d).cell
unfolding visits_of
visits_change [] i d l = absurd (omega arith)
visits_change (c ∷ cs) i d l =
    changes_at (record { step = 0; cell = c }) (visits_after c 1 cs) i d (visits_after_change cs c 1 (record { step = 0; cell = c }) refl) (omega arith)

-- ---- where the path is

-- at a visit's step the path is in the visit's cell
visits_after_held : (ds : List ℕ) (c t : ℕ) (v : Visit) → Memᴰ v (visits_after c t ds)
    → (i : ℕ) × (v.step ≡ t + i) × (i < length ds) × (get_or ds i 0 ≡ v.cell)
unfolding visits_after
visits_after_held [] c t v m = absurd (Memᴰ.not-nil m)
visits_after_held (d ∷ ds) c t v m = by (eqb c d) m (visits_after_held ds d (suc t) v)
  where
    further : (i : ℕ) × (v.step ≡ suc t + i) × (i < length ds) × (get_or ds i 0 ≡ v.cell)
        → (i : ℕ) × (v.step ≡ t + i) × (i < length (d ∷ ds)) × (get_or (d ∷ ds) i 0 ≡ v.cell)
    further h = let (i, s, l, e) = h in (suc i, omega (arith, s), omega (arith, l), e)

    by : (b : Bool) → Memᴰ v (cond b (visits_after d (suc t) ds) (record { step = t; cell = d } ∷ visits_after d (suc t) ds))
        → (Memᴰ v (visits_after d (suc t) ds) → (i : ℕ) × (v.step ≡ suc t + i) × (i < length ds) × (get_or ds i 0 ≡ v.cell))
        → (i : ℕ) × (v.step ≡ t + i) × (i < length (d ∷ ds)) × (get_or (d ∷ ds) i 0 ≡ v.cell)
    by true m rest = further (rest m)
    by false m rest =
        ⊎_elim
        (λ e. (0, ap (λ (x : Visit). x.step) e ∙ omega arith, omega arith, ap (λ (x : Visit). x.cell) (sym e)))
        (λ n. further (rest n))
        (Memᴰ.cases_cons m)

-- at each visit's step, which is one of the path's
pub visit_held : (q : List ℕ) (v : Visit) → Memᴰ v (visits_of q) → (v.step < length q) × (at_step v.step q ≡ v.cell)
unfolding visits_of at_step
visit_held [] v m = absurd (Memᴰ.not-nil m)
visit_held (c ∷ cs) v m =
    ⊎_elim
    (λ e. subst (λ (x : Visit). (x.step < length (c ∷ cs)) × (get_or (c ∷ cs) x.step 0 ≡ x.cell)) (sym e) (omega arith, refl))
    (λ n. let (i, s, l, e) = visits_after_held cs c 1 v n in
    let next : v.step ≡ suc i = omega (arith, s) in
    (omega (arith, s, l), ap (λ (k : ℕ). get_or (c ∷ cs) k 0) next ∙ e))
    (Memᴰ.cases_cons m)

-- ---- after the last visit

-- the last of some visits
abbrev final : Visit → List Visit → Visit
final x [] = x
final x (y ∷ ys) = final y ys

-- it is the first or one of the others
final_is : (x : Visit) (xs : List Visit) → (final x xs ≡ x) ⊎ Memᴰ (final x xs) xs
final_is x [] = inl refl
final_is x (y ∷ ys) = inr (⊎_elim (λ e. Memᴰ.head e) (λ m. Memᴰ.tail m) (final_is y ys))

-- it stands at the last place
final_at : (x : Visit) (xs : List Visit) (i : ℕ) (d : Visit) → suc i ≡ length (x ∷ xs) → get_or (x ∷ xs) i d ≡ final x xs
final_at x [] zero d e = refl
final_at x [] (suc i) d e = absurd (omega arith)
final_at x (y ∷ ys) zero d e = absurd (omega arith)
final_at x (y ∷ ys) (suc i) d e = final_at y ys i d (omega arith)

-- one that is not later than step t is the first, where the others are later than t
final_early : (ds : List ℕ) (c t : ℕ) (x : Visit) → (final x (visits_after c (suc t) ds)).step ≤ t → final x (visits_after c (suc t) ds) ≡ x
final_early ds c t x l =
    ⊎_elim (λ e. e)
    (λ m. let (i, s, _, _) = visits_after_held ds c (suc t) (final x (visits_after c (suc t) ds)) m in absurd (omega (arith, s, l)))
    (final_is x (visits_after c (suc t) ds))

-- from the last visit on the path stays in its cell
final_stays : (ds : List ℕ) (c t : ℕ) (x : Visit) → x.cell ≡ c → (k : ℕ) → k < length ds → (final x (visits_after c t ds)).step ≤ t + k
    → get_or ds k 0 ≡ (final x (visits_after c t ds)).cell
unfolding visits_after
final_stays [] c t x e k l h = absurd (omega arith)
final_stays (d ∷ ds) c t x e k l h = by (eqb c d) refl k l h (λ v g. final_stays ds d (suc t) v g)
  where
    -- at once, or later
    at : (v : Visit) → v.cell ≡ d → (k : ℕ) → k < length (d ∷ ds) → (final v (visits_after d (suc t) ds)).step ≤ t + k
        → ((k : ℕ) → k < length ds → (final v (visits_after d (suc t) ds)).step ≤ suc t + k → get_or ds k 0 ≡ (final v (visits_after d (suc t) ds)).cell)
        → get_or (d ∷ ds) k 0 ≡ (final v (visits_after d (suc t) ds)).cell
    at v g zero l h rest = sym g ∙ ap (λ (w : Visit). w.cell) (sym (final_early ds d t v (omega (arith, h))))
    at v g (suc k) l h rest = rest k (omega (arith, l)) (omega (arith, h))

    by : (b : Bool) → eqb c d ≡ b → (k : ℕ) → k < length (d ∷ ds)
        → (final x (cond b (visits_after d (suc t) ds) (record { step = t; cell = d } ∷ visits_after d (suc t) ds))).step ≤ t + k
        → ((v : Visit) → v.cell ≡ d → (k : ℕ) → k < length ds → (final v (visits_after d (suc t) ds)).step ≤ suc t + k
        → get_or ds k 0 ≡ (final v (visits_after d (suc t) ds)).cell)
        → get_or (d ∷ ds) k 0 ≡ (final x (cond b (visits_after d (suc t) ds) (record { step = t; cell = d } ∷ visits_after d (suc t) ds))).cell
    by true q k l h rest = let g : x.cell ≡ d = e ∙ eqb→eq c d (subst T (sym q) tt) in at x g k l h (rest x g)
    by false q k l h rest =
        let v : Visit = record { step = t; cell = d } in at v refl k l h (rest v refl)

-- so of the visit at the last place
pub last_stays : (q : List ℕ) (i : ℕ) (d : Visit) → suc i ≡ length (visits_of q) → (s : ℕ) → (get_or (visits_of q) i d).step ≤ s → s < length q
    → at_step s q ≡ (get_or (visits_of q) i d).cell
unfolding visits_of at_step
last_stays [] i d e s h l = absurd (omega arith)
last_stays (c ∷ cs) i d e s h l =
    subst (λ (v : Visit). v.step ≤ s → get_or (c ∷ cs) s 0 ≡ v.cell) (sym (final_at x xs i d e)) (at s l) h
  where
    x : Visit
    x = record { step = 0; cell = c }

    xs : List Visit
    xs = visits_after c 1 cs

    at : (s : ℕ) → s < length (c ∷ cs) → (final x xs).step ≤ s → get_or (c ∷ cs) s 0 ≡ (final x xs).cell
    at zero l h = ap (λ (v : Visit). v.cell) (sym (final_early cs c 0 x h))
    at (suc s) l h = final_stays cs c 1 x refl s (omega (arith, l)) (omega (arith, h))

-- ---- the visits of a plan's routes

-- their steps rise
pub route_rises : (p : Plan) (r : Route) → Memᴰ r (routes_of p) → Rising step_of r.visits
route_rises p r m = let o : Origin p r = origin p r m in subst (Rising step_of) (sym o.visited) (visits_rise (get_or p.paths o.place []))

-- each successive visit is to another cell
pub route_changes : (p : Plan) (r : Route) → Memᴰ r (routes_of p) → (i : ℕ) (d : Visit) → suc i < length r.visits
    → (get_or r.visits i d).cell ≢ (get_or r.visits (suc i) d).cell
route_changes p r m i d =
    let o : Origin p r = origin p r m in
    subst (λ (v : List Visit). suc i < length v → (get_or v i d).cell ≢ (get_or v (suc i) d).cell) (sym o.visited) (visits_change (get_or p.paths o.place []) i d)

-- a visit of a route: its step is one of the plan's, and there the route's path is in the visit's cell
pub visit_there : (p : Plan) → Sound p → (r : Route) (o : Origin p r) (x : Visit) → Memᴰ x r.visits
    → (x.step < steps p.paths) × (at_step x.step (get_or p.paths o.place []) ≡ x.cell)
visit_there p s r o x n =
    let q : List ℕ = get_or p.paths o.place [] in
    let (l, c) = visit_held q x (subst (λ (v : List Visit). Memᴰ x v) o.visited n) in
    (omega (arith, l, s.same_steps q (path_there p r o)), c)

-- A bound checked both ways, and bounds one after the other: what the checks of its arcs come to. Assumes nothing.
use Prim.Native.Nat.{ℕ, suc, ◌+◌, ◌≤◌, ◌<◌}
use native.Mathlib.Nat.{eq-or-lt_of_le}
use native.Mathlib.Numerals.{add-one}
use native.Mathlib.Omega.{arith}
use mathlib.Core.Path.{◌≡◌, refl, ap, sym, ◌∙◌, subst}
use mathlib.Core.Logic.{inl, inr, ⊎_elim}
use mathlib.Core.Bool.{Bool, true, false}
use mathlib.Core.List.Memᴰ
use mathlib.Core.List.{List, [], ◌∷◌, flat_map, Memᴰ}
use lib.IntN.{ℤ, ◌+ℤ◌}
use lib.Signed.{◌≤ℤ◌}
use lib.ListN.{length, get_or, set}
use Rattle.laws.proofs.Members.{to_flat, of_flat, at_place, place_of}
use Rattle.network.specs.Bounds.{Bound}
use Rattle.network.specs.BoundArrays.{bounds_in}
use Rattle.walks.specs.Walks.{Arc}
use Rattle.walks.specs.Certificate.{weighted, Tight}
use Rattle.walks.proofs.Greatest.{set_cases}
use Rattle.schedule.specs.Timetable.{forward, ways}
use Rattle.passes.specs.Solving.{no_bound}
use Rattle.passes.specs.Places.{bound_at}
use Rattle.passes.specs.Values.{value, Allowed, Marks}
use Rattle.passes.proofs.Fitting.{bounds_length, bound_is}

-- ---- one bound

-- an arc whose weight the values allow
pub one_allowed : (values : List ℤ) (a : Arc) → (value values a.from +ℤ (weighted a).adds) ≤ℤ value values a.to → Allowed (a ∷ []) values
one_allowed values a h x m =
    subst (λ (y : Arc). (value values y.from +ℤ (weighted y).adds) ≤ℤ value values y.to) (sym (Memᴰ.eq_of_singleton m)) h

-- and another behind it
pub both_allowed : (values : List ℤ) (a c : Arc) → Allowed (a ∷ []) values → Allowed (c ∷ []) values → Allowed (a ∷ (c ∷ [])) values
both_allowed values a c f g x m = ⊎_elim (λ (q : x ≡ a). f x (Memᴰ.head q)) (λ t. g x t) (Memᴰ.cases_cons m)

-- an arc that is exact marks its end
pub one_marked : (values : List ℤ) (marks : List Bool) (a : Arc) → value values a.to ≡ value values a.from +ℤ (weighted a).adds
    → Marks (a ∷ []) values marks (set marks a.to true)
one_marked values marks a e x h =
    ⊎_elim (λ (q : (x ≡ a.to) × (get_or (set marks a.to true) x false ≡ true)).
    inr (record { arc = a; of_arcs = Memᴰ.head refl; ends = sym q.0; exact = ap (value values) q.0 ∙ e }))
    (λ q. inl (sym q ∙ h)) (set_cases marks a.to true x false)

-- with more arcs it is marked as well
pub tight_more : (values : List ℤ) (arcs more : List Arc) (v : ℕ) → ((a : Arc) → Memᴰ a arcs → Memᴰ a more) → Tight arcs (value values) v → Tight more (value values) v
tight_more values arcs more v h t = record { arc = t.arc; of_arcs = h t.arc t.of_arcs; ends = t.ends; exact = t.exact }

pub marks_more : (values : List ℤ) (marks marks' : List Bool) (arcs more : List Arc) → ((a : Arc) → Memᴰ a arcs → Memᴰ a more) → Marks arcs values marks marks'
    → Marks more values marks marks'
marks_more values marks marks' arcs more m f x h = ⊎_elim inl (λ t. inr (tight_more values arcs more x m t)) (f x h)

pub both_marked : (values : List ℤ) (marks marks₁ marks' : List Bool) (a c : Arc) → Marks (a ∷ []) values marks marks₁ → Marks (c ∷ []) values marks₁ marks'
    → Marks (a ∷ (c ∷ [])) values marks marks'
both_marked values marks marks₁ marks' a c f g x h =
    ⊎_elim (marks_more values marks marks₁ (a ∷ []) (a ∷ (c ∷ [])) (λ b m. Memᴰ.head (Memᴰ.eq_of_singleton m)) f x)
    (λ t. inr (tight_more values (c ∷ []) (a ∷ (c ∷ [])) x (λ b. Memᴰ.tail) t)) (g x h)

-- forward comes first among the ways of a bound
pub marks_forward : (values : List ℤ) (marks marks' : List Bool) (b : Bound) → Marks (forward b ∷ []) values marks marks' → Marks (ways b) values marks marks'
unfolding ways
marks_forward values marks marks' b = marks_more values marks marks' (forward b ∷ []) (ways b) (λ a m. Memᴰ.head (Memᴰ.eq_of_singleton m))

-- ---- bounds one after the other

module _ (m : ℕ) (ends ranges : List ℕ) (values : List ℤ) (marks₀ : List Bool) where
  abbrev bs : List Bound
  bs = bounds_in m ends ranges

  -- the bounds before i are allowed, and what is marked is marked by one of them
  pub record Checking (i : ℕ) (marks : List Bool) : Type 0 where
    pub inside : i ≤ m
    pub long : length marks ≡ length marks₀
    pub allowed : (j : ℕ) → j < i → Allowed (ways (bound_at j ends ranges)) values
    pub marked : Marks (flat_map ways bs) values marks₀ marks

  -- the arcs of a bound are among them
  among : (i : ℕ) → i < m → (a : Arc) → Memᴰ a (ways (bound_at i ends ranges)) → Memᴰ a (flat_map ways bs)
  among i h a t =
      to_flat ways bs (bound_at i ends ranges) a
      (subst (λ (b : Bound). Memᴰ b bs) (bound_is m ends ranges i no_bound h) (at_place bs i no_bound (omega (arith, bounds_length m ends ranges)))) t

  module _ {i : ℕ} {marks : List Bool} (c : Checking i marks) (h : i < m) (marks' : List Bool)
      (k : Marks (ways (bound_at i ends ranges)) values marks marks') where
    -- one bound more has marked
    pub more_marked : Marks (flat_map ways bs) values marks₀ marks'
    more_marked v g =
        ⊎_elim (λ o. c.marked v o)
        (λ t. inr (tight_more values (ways (bound_at i ends ranges)) (flat_map ways bs) v (among i h) t)) (k v g)

    -- and is allowed
    pub more_checked : length marks' ≡ length marks → Allowed (ways (bound_at i ends ranges)) values → Checking (i + 1) marks'
    more_checked l a =
        rw (add-one i) (record {
          inside = h;
          long = l ∙ c.long;
          allowed = λ j b.
              ⊎_elim (λ (e : suc j ≡ suc i). let q : j ≡ i = omega arith in subst (λ (y : ℕ). Allowed (ways (bound_at y ends ranges)) values) (sym q) a)
              (λ q. c.allowed j (omega arith)) (eq-or-lt_of_le b);
          marked = more_marked;
        })

  -- all are allowed
  pub all_allowed : {i : ℕ} {marks : List Bool} → Checking i marks → m ≤ i → Allowed (flat_map ways bs) values
  all_allowed {i} c h a t =
      let (b, here, there) = of_flat ways bs a t in
      let (j, l, e) = place_of bs b no_bound here in
      let q : j < m = omega (arith, l, bounds_length m ends ranges) in
      c.allowed j (omega arith) a (subst (λ (y : Bound). Memᴰ a (ways y)) (sym e ∙ bound_is m ends ranges j no_bound q) there)

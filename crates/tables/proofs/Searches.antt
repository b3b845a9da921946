-- Searches in arrays: the steps of a path, and the paths of an array, passed one after the other and held against roads.
-- Assumes nothing.
use Rattle.std.specs.Prelude.{None, Some}
use Prim.Native.Nat.{ℕ, suc, ◌+◌, ◌-◌, ◌≤◌, ◌<◌}
use native.Mathlib.Omega.{arith}
use mathlib.Core.Path.{◌≡◌, refl, sym, ap, subst, ◌∙◌}
use mathlib.Core.Bool.{Bool, true, false, not, ◌&&◌, ◌||◌, cond}
use mathlib.Core.List.{List, [], ◌∷◌}
use borrow.Author.Tests.{eq-eqb, ne_eqb, not-true, not-false}
use lib.Dec.{eqb}
use lib.ListN.{length, take, drop, get_or}
use lib.Seq.{drop-drop}
use Rattle.floor.specs.Plan.{joined}
use Rattle.floor.specs.declared.Road.{Road}
use Rattle.floor.specs.Paths.{on_roads, off_road}
use Rattle.collisions.specs.Meetings.{paths_in}
pub use Rattle.collisions.proofs.Searches.{both_fail, path_fits}

-- the second of two tests is enough
pub either : (t : Bool) → t || true ≡ true
either true = refl
either false = refl

-- ---- paths that keep to roads

-- two cells next to each other, and those left then
pub record Stepped (left step after : List ℕ) : Type 0 where
  pub two : 2 ≤ length left
  pub cells : step ≡ take 2 left
  pub less : after ≡ drop 1 left

module _ (rs : List Road) where
  -- the first step, tested, and those after it
  step_next : (p : List ℕ) (t : Bool) → 2 ≤ length p
      → eqb (get_or (take 2 p) 0 0) (get_or (take 2 p) 1 0) || joined rs (get_or (take 2 p) 0 0) (get_or (take 2 p) 1 0) ≡ t → on_roads rs p ≡ t && on_roads rs (drop 1 p)
  unfolding on_roads
  step_next [] t h e = absurd (omega arith)
  step_next (a ∷ []) t h e = absurd (omega arith)
  step_next (a ∷ b ∷ cs) t h e = ap (λ x. x && on_roads rs (b ∷ cs)) e

  -- after the last step
  pub steps_past : (p : List ℕ) → length p < 2 → on_roads rs p ≡ true
  unfolding on_roads
  steps_past [] h = refl
  steps_past (a ∷ []) h = refl
  steps_past (a ∷ b ∷ cs) h = absurd (omega arith)

  module _ {left step after : List ℕ} (s : Stepped left step after) where
    passed : (t : Bool) → eqb (get_or step 0 0) (get_or step 1 0) || joined rs (get_or step 0 0) (get_or step 1 0) ≡ t → on_roads rs left ≡ t && on_roads rs after
    passed t e = step_next left t s.two (subst (λ x. eqb (get_or x 0 0) (get_or x 1 0) || joined rs (get_or x 0 0) (get_or x 1 0) ≡ t) s.cells e) ∙ ap (λ x. t && on_roads rs x) (sym s.less)

    -- a step that stays
    pub step_stays : get_or step 0 0 ≡ get_or step 1 0 → on_roads rs left ≡ on_roads rs after
    step_stays e = passed true (rw (eq-eqb _ _ e))

    -- a step on a road
    pub step_on : {r : Bool} → r ≡ joined rs (get_or step 0 0) (get_or step 1 0) → not r ≡ false → on_roads rs left ≡ on_roads rs after
    step_on {r} e t = passed true (rw (← e, not-false r t) (either (eqb (get_or step 0 0) (get_or step 1 0))))

    -- a step off the roads
    pub step_off : {r : Bool} → (get_or step 0 0 ≡ get_or step 1 0 → ⊥) → r ≡ joined rs (get_or step 0 0) (get_or step 1 0) → not r ≡ true → on_roads rs left ≡ false
    step_off {r} h e t = passed false (rw (ne_eqb _ _ h, ← e, not-true r t))

-- ---- paths of an array

-- the path at a place of an array, tested, and those after it
off_road_next : (rs : List Road) (n w i at : ℕ) (s : List ℕ) (t : Bool) → i < n → on_roads rs (take (at + w - at) (drop at s)) ≡ t
    → off_road rs (i + 1) (paths_in (n - i) w (drop at s))
    ≡ cond t (off_road rs (i + 1 + 1) (paths_in (n - (i + 1)) w (drop (at + w) s))) (Some (i + 1))
unfolding off_road paths_in
off_road_next rs n w i at s t h e =
    let l : n - i ≡ suc (n - (i + 1)) = omega arith in
    let m : suc (i + 1) ≡ i + 1 + 1 = omega arith in
    let same : w ≡ at + w - at = omega arith in
    let on : on_roads rs (take w (drop at s)) ≡ t = ap (λ (k : ℕ). on_roads rs (take k (drop at s))) same ∙ e in
    rw (l, on, drop-drop, m)

-- a path that keeps to the roads is passed over
pub path_on : (rs : List Road) (n w i at : ℕ) (s : List ℕ) {r : Bool} → i < n → r ≡ on_roads rs (take (at + w - at) (drop at s)) → not r ≡ false
    → off_road rs (i + 1) (paths_in (n - i) w (drop at s)) ≡ off_road rs (i + 1 + 1) (paths_in (n - (i + 1)) w (drop (at + w) s))
path_on rs n w i at s {r} h e t = off_road_next rs n w i at s true h (sym e ∙ not-false r t)

-- one that leaves them is found
pub path_off : (rs : List Road) (n w i at : ℕ) (s : List ℕ) {r : Bool} → i < n → r ≡ on_roads rs (take (at + w - at) (drop at s)) → not r ≡ true
    → off_road rs (i + 1) (paths_in (n - i) w (drop at s)) ≡ Some (i + 1)
path_off rs n w i at s {r} h e t = off_road_next rs n w i at s false h (sym e ∙ not-true r t)

-- after the last path
pub paths_past : (rs : List Road) (n w i at : ℕ) (s : List ℕ) → n ≤ i → off_road rs (i + 1) (paths_in (n - i) w (drop at s)) ≡ None
unfolding off_road paths_in
paths_past rs n w i at s h = let e : n - i ≡ 0 = omega arith in rw e

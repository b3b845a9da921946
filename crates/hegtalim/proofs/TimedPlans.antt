-- A timetable, case by case, as the code meets them. Assumes nothing.
use Rattle.std.specs.Prelude.{Option, None, Some, Result, Ok, Err}
use Prim.Native.Nat.{ℕ, ◌≤◌, ◌<◌}
use native.Mathlib.Omega.{arith}
use mathlib.Core.Path.{◌≡◌, refl, ap, sym, ◌∙◌, subst}
use mathlib.Core.Logic.{inl, inr}
use mathlib.Core.Bool.{Bool, true, false, ◌&&◌}
use mathlib.Core.List.{List, flat_map}
use lib.Dec.{T, leb}
use lib.ListN.{length}
use lib.Seq.{sets}
use mir.Facts.{and_yes}
use borrow.Author.Tests.{le-leb, lt-leb}
use Rattle.laws.proofs.Tests.{passes}
use Rattle.network.specs.BoundArrays.{bound_ends, bound_range}
use Rattle.schedule.specs.Added.{all_bounds}
use Rattle.schedule.specs.Lent.{Lent, long_enough}
use Rattle.slice.specs.declared.HoldError.{HoldError}
use Rattle.slice.specs.PlanSlice.{plan_need, Held, held}
use Rattle.passes.specs.declared.Solved.{Solved}
use Rattle.passes.specs.Solving.{Solving}
use Rattle.bounds.specs.declared.Bounding.{Bounding}
use Rattle.bounds.specs.Bounding.{bounding_fits, bounding_of, bounding_held, bounding, bounding_answer, bounds_left, bounding_left}
use Rattle.hegtalim.specs.Errors.{not_timed}
use Rattle.hegtalim.specs.declared.TimeError.{TimeError}
use Rattle.hegtalim.specs.Answers.{Timed}
use Rattle.hegtalim.specs.Outcomes.{meets_needs, Timetabled, too_short, no_plan, timed, no_times}
use Rattle.hegtalim.specs.Working.{Worked, done, no_room}
use Rattle.hegtalim.proofs.Timing.{told, solving_is}

-- ---- lengths

module _ (s : List ℕ) (l : Lent) where
  -- all slices are long enough
  pub needs_there : plan_need ≤ length s → long_enough l ≡ true → meets_needs s l ≡ true
  unfolding meets_needs
  needs_there h e = simp (le-leb plan_need (length s) h, e)

  -- one is not
  pub plan_short : length s < plan_need → Timetabled s l (Err TimeError.TooShort) l
  unfolding meets_needs
  plan_short h = too_short (ap (λ (b : Bool). b && long_enough l) (lt-leb plan_need (length s) h))

  pub lent_short : plan_need ≤ length s → long_enough l ≡ false → Timetabled s l (Err TimeError.TooShort) l
  unfolding meets_needs
  lent_short h e = too_short (simp (le-leb plan_need (length s) h, e))

-- ---- what is held

module _ (s : List ℕ) (l : Lent) (met : meets_needs s l ≡ true) (x : Result Bounding HoldError) (is : x ≡ bounding_answer (bounding_fits s) (held s)) where
  -- the slice is long enough
  fits : bounding_fits s ≡ true
  unfolding bounding_fits meets_needs
  fits = passes (leb plan_need (length s)) (and_yes (leb plan_need (length s)) (long_enough l) (subst T (sym met) tt)).0

  said : x ≡ bounding (held s)
  unfolding bounding_answer
  said = is ∙ ap (λ (b : Bool). bounding_answer b (held s)) fits

  -- no plan
  pub none_held : (why : HoldError) → x ≡ Err why → Timetabled s l (Err (not_timed why)) l
  unfolding bounding bounding_held not_timed
  none_held why q = by (held s) refl why (sym q ∙ said)
    where
      by : (o : Option Held) → held s ≡ o → (why : HoldError) → Err why ≡ bounding o → Timetabled s l (Err (not_timed why)) l
      by None e HoldError.NoPlan z = no_plan met e
      by None e HoldError.TooShort z = absurd (cc)
      by (Some h) e why z = absurd (cc)

  -- a plan, and its bounds in two arrays
  module _ (before before_r ends ranges : List ℕ) (left : ends ≡ bounding_left bound_ends (bounding_fits s) (held s) before)
      (left_r : ranges ≡ bounding_left bound_range (bounding_fits s) (held s) before_r) (n : Bounding) (q : x ≡ Ok n) where
    -- what is known of it
    record There : Type 0 where
      plan_held : Held
      of_slice : held s ≡ Some plan_held
      counts : n ≡ bounding_of plan_held
      ends_there : ends ≡ sets before 0 (flat_map bound_ends (all_bounds plan_held.plan plan_held.book))
      ranges_there : ranges ≡ sets before_r 0 (flat_map bound_range (all_bounds plan_held.plan plan_held.book))

    there : There
    unfolding bounding bounding_held bounds_left bounding_left
    there = by (held s) refl (sym q ∙ said)
      where
        by : (o : Option Held) → held s ≡ o → Ok n ≡ bounding o → There
        by None e z = absurd (cc)
        by (Some h) e z =
            record {
              plan_held = h;
              of_slice = e;
              counts = cc;
              ends_there = left ∙ ap (λ (t : Bool). bounding_left bound_ends t (held s) before) fits ∙ ap (λ (o : Option Held). bounds_left bound_ends o before) e;
              ranges_there = left_r ∙ ap (λ (t : Bool). bounding_left bound_range t (held s) before_r) fits ∙ ap (λ (o : Option Held). bounds_left bound_range o before_r) e;
            }

    -- what is found, and said of it
    pub found : (f : Option Solved) (l' : Lent) → Solving n.own n.all n.events ends ranges l f l' → (y : Timed) → told f ≡ y → Worked (length before) (length before_r) s l y l'
    unfolding bounding_of
    found f l' w y e =
        let t : There = there in
        subst (λ (z : Timed). Worked (length before) (length before_r) s l z l') e
        (solving_is s t.plan_held t.of_slice l met n.events n.own n.all (ap (λ (i : Bounding). i.events) t.counts) (ap (λ (i : Bounding). i.own) t.counts) (ap (λ (i : Bounding). i.all) t.counts)
        before before_r ends ranges t.ends_there t.ranges_there f l' w)

-- ---- small arrays and large ones

module _ (e r : ℕ) (s : List ℕ) (l : Lent) where
  -- large ones have room
  pub large_done : (x : Timed) (l' : Lent) → Worked e r s l x l' → 24_576 ≤ e → 24_576 ≤ r → Timetabled s l x l'
  large_done x l' (done y k w) he hr = w
  large_done x l' (no_room (inl h)) he hr = absurd (omega arith)
  large_done x l' (no_room (inr h)) he hr = absurd (omega arith)

  -- what has no room in arrays may have none in others that are too short
  short_worked : (e' r' : ℕ) → e' < 24_576 → (x : Timed) (l' : Lent) → Worked e r s l x l' → Worked e' r' s l x l'
  short_worked e' r' h x l' (done y k w) = done y k w
  short_worked e' r' h x l' (no_room room) = no_room (inl h)

  -- the same of an answer and slices that are these
  pub picked_worked : (x y : Timed) (k k' : Lent) → k ≡ k' → x ≡ y → Worked e r s l y k' → Worked 12_288 12_288 s l x k
  picked_worked x y k k' p q w = subst (λ (m : Lent). Worked 12_288 12_288 s l x m) (sym p) (subst (λ (z : Timed). Worked 12_288 12_288 s l z k') (sym q) (short_worked 12_288 12_288 (omega arith) y k' w))

  -- an answer that is not `TooShort` is the outcome
  pub small_done : (x : Timed) (l' : Lent) → Worked e r s l x l' → ¬ (x ≡ Err TimeError.TooShort) → Timetabled s l x l'
  small_done x l' (done y k w) h = w
  small_done x l' (no_room room) h = absurd (h refl)

  -- one that is leaves the slices lent as they came
  short_kept : (x : Timed) (l' : Lent) → Worked e r s l x l' → x ≡ Err TimeError.TooShort → l' ≡ l
  short_kept x l' (no_room room) q = refl
  short_kept x l' (done y k (too_short h)) q = refl
  short_kept x l' (done y k (no_plan a b)) q = refl
  short_kept x l' (done y k (timed a b c t d)) q = absurd (cc)
  short_kept x l' (done y k (no_times a b c d is f)) q = absurd (cc)

  -- so what comes then is the outcome
  pub then_large : (x : Timed) (l' : Lent) → Worked e r s l x l' → x ≡ Err TimeError.TooShort → (y : Timed) (k : Lent) → Timetabled s l' y k → Timetabled s l y k
  then_large x l' w q y k t = subst (λ (m : Lent). Timetabled s m y k) (short_kept x l' w q) t

-- What the writer of a held plan's bounds answers and leaves, by whether the slice is long enough and a plan is held. Assumes nothing.
use Rattle.std.specs.Prelude.{Option, None, Some, Result, Err, is_err, List, ℕ, ◌*◌, ◌≤◌, ◌<◌, Bool, true, false}
use mathlib.Core.Path.{◌≡◌, refl, ap, sym, ◌∙◌, subst}
use lib.ListN.{length, replicate}
use lib.Seq.{sets, length-sets}
use mathlib.Core.List.{flat_map}
use borrow.Author.Tests.{le-leb, lt-leb}
use Rattle.network.specs.BoundArrays.{bound_ends, bound_range}
use Rattle.network.specs.Bounds.{Bound}
use Rattle.schedule.specs.Added.{all_bounds}
use Rattle.slice.specs.declared.HoldError.{HoldError}
use Rattle.slice.specs.PlanSlice.{plan_need, Held, held}
use Rattle.bounds.specs.declared.Bounding.{Bounding}
use Rattle.bounds.specs.Bounding.{bounding_fits, bounding_held, bounding, bounding_answer, bounds_left, bounding_left, LeavesIn}

-- what is answered and left of arrays
abbrev pub Ends : List ℕ → List ℕ → List ℕ → Result Bounding HoldError → List ℕ → List ℕ → Type 0
Ends s ends ranges x e r = record {
  answer : x ≡ bounding_answer (bounding_fits s) (held s);
  left : e ≡ bounding_left bound_ends (bounding_fits s) (held s) ends;
  left_ranges : r ≡ bounding_left bound_range (bounding_fits s) (held s) ranges;
}

module _ (s : List ℕ) where
  -- it is too short
  pub short_plan : (ends ranges : List ℕ) → length s < plan_need → Ends s ends ranges (Err HoldError.TooShort) ends ranges
  unfolding bounding_fits bounding_answer bounding_left
  short_plan ends ranges h =
      let short : bounding_fits s ≡ false = lt-leb plan_need (length s) h in record {
        answer = sym (ap (λ (t : Bool). bounding_answer t (held s)) short);
        left = sym (ap (λ (t : Bool). bounding_left bound_ends t (held s) ends) short);
        left_ranges = sym (ap (λ (t : Bool). bounding_left bound_range t (held s) ranges) short);
      }

  module _ (h : plan_need ≤ length s) (x : Result Bounding HoldError) (e0 r0 e1 r1 : List ℕ) (x-is : x ≡ bounding (held s)) (w : LeavesIn (held s) e0 r0 e1 r1) where
    long : bounding_fits s ≡ true
    unfolding bounding_fits
    long = le-leb plan_need (length s) h

    answer : x ≡ bounding_answer (bounding_fits s) (held s)
    unfolding bounding_answer
    answer = x-is ∙ sym (ap (λ (t : Bool). bounding_answer t (held s)) long)

    -- where none is held, or one is
    none : is_err x ≡ true → held s ≡ None
    unfolding bounding bounding_held
    none q = by (held s) refl
      where
        by : (o : Option Held) → held s ≡ o → held s ≡ None
        by None e = e
        by (Some k) e = let z : false ≡ true = sym (ap is_err (x-is ∙ ap bounding e)) ∙ q in absurd (cc)

    some : is_err x ≡ false → (k : Held) × (held s ≡ Some k)
    unfolding bounding bounding_held
    some q = by (held s) refl
      where
        by : (o : Option Held) → held s ≡ o → (k : Held) × (held s ≡ Some k)
        by None e = let z : true ≡ false = sym (ap is_err (x-is ∙ ap bounding e)) ∙ q in absurd (cc)
        by (Some k) e = (k, e)

    -- what is left of an array, by what is held
    left_by : (g : Bound → List ℕ) (o : Option Held) → held s ≡ o → (e t : List ℕ) → t ≡ bounds_left g o e → t ≡ bounding_left g (bounding_fits s) (held s) e
    unfolding bounding_left
    left_by g o f e t q = q ∙ ap (λ (i : Option Held). bounds_left g i e) (sym f) ∙ sym (ap (λ (i : Bool). bounding_left g i (held s) e) long)

    -- no plan, and the arrays are cleared
    pub cleared_plan : is_err x ≡ true → (ends ranges e r : List ℕ) → ends ≡ e1 → ranges ≡ r1 → e ≡ replicate (length ends) 0 → r ≡ replicate (length ranges) 0 → Ends s e0 r0 x e r
    unfolding bounds_left
    cleared_plan q ends ranges e r te tr ee er =
        let le : length e1 ≡ length e0 = ap length w.left ∙ length-sets e0 0 (flat_map bound_ends w.written) in
        let lr : length r1 ≡ length r0 = ap length w.left_ranges ∙ length-sets r0 0 (flat_map bound_range w.written) in record {
          answer = answer;
          left = left_by bound_ends None (none q) _ _ (ee ∙ ap (λ (n : ℕ). replicate n 0) (ap length te ∙ le));
          left_ranges = left_by bound_range None (none q) _ _ (er ∙ ap (λ (n : ℕ). replicate n 0) (ap length tr ∙ lr));
        }

    -- a plan, and its bounds are there
    pub written_plan : is_err x ≡ false → (e r : List ℕ) → e ≡ e1 → r ≡ r1 → Ends s e0 r0 x e r
    unfolding bounds_left
    written_plan q ends ranges te tr =
        let (k, e) = some q in
        let all : (g : Bound → List ℕ) (l : List ℕ) → sets l 0 (flat_map g w.written) ≡ sets l 0 (flat_map g (all_bounds k.plan k.book)) =
        λ g l. ap (λ (bs : List Bound). sets l 0 (flat_map g bs)) (w.are k e) in record {
          answer = answer;
          left = left_by bound_ends (Some k) e _ _ (te ∙ w.left ∙ all bound_ends e0);
          left_ranges = left_by bound_range (Some k) e _ _ (tr ∙ w.left_ranges ∙ all bound_range r0);
        }

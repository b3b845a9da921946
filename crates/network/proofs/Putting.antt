-- Bounds put in two arrays, some behind the others. Assumes nothing.
use Rattle.std.specs.Prelude.{ℕ, ◌+◌, ◌*◌, ◌≤◌, ◌<◌, min, List, [], ◌++◌, length, Some, None}
use native.Mathlib.Nat.{min-eq_left, min-eq_right}
use native.Mathlib.Omega.{arith}
use mathlib.Core.Path.{◌≡◌, refl, ap, sym, ◌∙◌, subst}
use mathlib.Core.Logic.{⊎_elim}
use mathlib.Core.Bool.{Bool, cond}
use mathlib.Core.List.{flat_map, append_assoc, append-nil}
use lib.ListN.{length-append}
use lib.Seq.{sets, length-sets}
use borrow.Author.Tests.{lt-ltb}
use Rattle.laws.proofs.Tests.{below_or_not}
use Rattle.network.specs.Bounds.{Bound}
use Rattle.network.specs.BoundArrays.{bound_ends, bound_range, hi_kept, Puts}
use Rattle.network.specs.declared.BoundArrays.{BoundArrays}
use Rattle.network.proofs.BoundStores.{by_ends, by_range, more_stored, none_stored, sets_past}

-- a hi below the largest number of 64 bits is put as it is
pub kept_hi : (h : ℕ) → h < 18_446_744_073_709_551_615 → hi_kept (Some h) ≡ Some h
unfolding hi_kept
kept_hi h l = ap (λ (b : Bool). cond b (Some h) None) (lt-ltb h 18_446_744_073_709_551_615 l)

-- none put
pub puts_none : (a : BoundArrays) (bs : List Bound) → bs ≡ [] → Puts a a bs
puts_none a bs e = record {
  same_ends = refl;
  same_ranges = refl;
  ends = none_stored bound_ends a.ends.now (2 * a.place) bs e;
  ranges = none_stored bound_range a.ranges.now (2 * a.place) bs e;
  place = omega (arith, a.in_memory.2, ap length e);
}

-- behind the end of an array none has a place
stored_next : (g : Bound → List ℕ) (s : List ℕ) (k j : ℕ) (bs : List Bound) → j ≡ min k 18_446_744_073_709_551_615 → length s ≤ 18_446_744_073_709_551_615
    → sets s (2 * j) (flat_map g bs) ≡ sets s (2 * k) (flat_map g bs)
stored_next g s k j bs e l =
    ⊎_elim
    (λ (h : k < 18_446_744_073_709_551_615). ap (λ (n : ℕ). sets s (2 * n) (flat_map g bs)) (e ∙ min-eq_left (omega arith)))
    (λ (h : 18_446_744_073_709_551_615 ≤ k).
    let q : j ≡ 18_446_744_073_709_551_615 = e ∙ min-eq_right h in
    sets_past (flat_map g bs) s (2 * j) (omega arith) ∙ sym (sets_past (flat_map g bs) s (2 * k) (omega arith)))
    (below_or_not k 18_446_744_073_709_551_615)

-- some put, and more behind them
pub puts_more : (a b c : BoundArrays) (xs ys : List Bound) → Puts a b xs → Puts b c ys → Puts a c (xs ++ ys)
puts_more a b c xs ys p q = record {
  same_ends = q.same_ends ∙ p.same_ends;
  same_ranges = q.same_ranges ∙ p.same_ranges;
  ends = q.ends ∙ stored_next bound_ends b.ends.now (a.place + length xs) b.place ys p.place (omega (arith, b.in_memory.0))
      ∙ more_stored bound_ends by_ends a.ends.now b.ends.now a.place (a.place + length xs) xs ys refl p.ends;
  ranges = q.ranges ∙ stored_next bound_range b.ranges.now (a.place + length xs) b.place ys p.place (omega (arith, b.in_memory.1))
      ∙ more_stored bound_range by_range a.ranges.now b.ranges.now a.place (a.place + length xs) xs ys refl p.ranges;
  place = omega (arith, p.place, q.place, length-append xs ys);
}

-- no array gets another length
pub puts_long : (a b : BoundArrays) (bs : List Bound) → Puts a b bs
    → (length b.ends.now ≡ length a.ends.now) × (length b.ranges.now ≡ length a.ranges.now)
puts_long a b bs p = (
  ap length p.ends ∙ length-sets a.ends.now (2 * a.place) (flat_map bound_ends bs),
  ap length p.ranges ∙ length-sets a.ranges.now (2 * a.place) (flat_map bound_range bs),
)

-- ---- in a loop

-- of all bounds these are yet to be put: the arrays were a at first
pub record Putting (a b : BoundArrays) (all rest : List Bound) : Type 0 where
  pub done : List Bound
  pub are : done ++ rest ≡ all
  pub puts : Puts a b done

-- at first all
pub putting_first : (a : BoundArrays) (all rest : List Bound) → rest ≡ all → Putting a a all rest
putting_first a all rest q = record { done = []; are = q; puts = puts_none a [] refl }

module _ {a b : BoundArrays} {all rest : List Bound} (w : Putting a b all rest) where
  -- some are put
  pub putting_more : (c : BoundArrays) (bs more : List Bound) → rest ≡ bs ++ more → Puts b c bs → Putting a c all more
  putting_more c bs more e p = record {
    done = w.done ++ bs;
    are = append_assoc w.done bs more ∙ ap (λ (l : List Bound). w.done ++ l) (sym e) ∙ w.are;
    puts = puts_more a b c w.done bs w.puts p;
  }

  -- none is
  pub putting_none : (more : List Bound) → rest ≡ more → Putting a b all more
  putting_none more e = putting_more b [] more e (puts_none b [] refl)

  -- at last all
  pub putting_all : rest ≡ [] → Puts a b all
  putting_all e = subst (Puts a b) (sym (append-nil w.done) ∙ ap (λ (l : List Bound). w.done ++ l) (sym e) ∙ w.are) w.puts

-- Times of sums, and times written one behind the other. Assumes nothing.
use Rattle.std.specs.Prelude.{None, Some, int_lt}
use Rattle.std.specs.Int.{int_max}
use Rattle.std.proofs.lemmas.Int.{ints}
use Prim.Native.Nat.{ℕ, ◌+◌, ◌*◌, ◌≤◌, ◌<◌}
use native.Mathlib.Numerals.{add-one}
use native.Mathlib.Omega.{arith}
use mathlib.Core.Path.{◌≡◌, refl, ap, ap₂, sym, ◌∙◌}
use mathlib.Core.Bool.{Bool, true, false, cond}
use mathlib.Core.List.{List, [], ◌∷◌, ◌++◌, map}
use lib.Dec.{eqb}
use lib.IntN.{ℤ, pos, negsuc, nat_abs}
use lib.ListN.{length, get_or, take, length-map}
use lib.Seq.{take-suc, take_all, length-take-le}
use Rattle.words.specs.Words.{words, with_word, written}
use Rattle.words.proofs.Storing.{word_behind}
use Rattle.walks.specs.Passes.{same_number}
use Rattle.schedule.specs.Timetable.{time}
use Rattle.passes.specs.Marks.{sum_at, sums_in}
use Rattle.passes.proofs.Marks.{map_behind}

-- ---- the time of a sum

-- the greater of it and 0, also of the mark
pub time_read : (z m : ℤ) → m ≡ int_max z (pos 0) → nat_abs m ≡ time (sum_at z)
unfolding sum_at same_number time
time_read (pos n) m e = ap nat_abs e ∙ by (int_lt (pos 0) (pos n)) refl
  where
    by : (b : Bool) → int_lt (pos 0) (pos n) ≡ b → nat_abs (cond b (pos n) (pos 0)) ≡ n
    by true h = refl
    by false h = omega (arith, ints, h)
time_read (negsuc n) m e = ap nat_abs e ∙ by (eqb n 4_611_686_018_427_387_903)
  where
    by : (b : Bool) → 0 ≡ time (cond b None (Some (negsuc n)))
    by true = refl
    by false = refl

-- ---- times written

-- the times of the first i sums are written
pub record Timed (sums : List ℤ) (times₀ : List ℕ) (i : ℕ) (times : List ℕ) : Type 0 where
  pub inside : i ≤ length sums
  pub long : length times ≡ length times₀
  pub times_are : times ≡ written (words 8 (map time (sums_in (take i sums)))) times₀

-- none
pub none_timed : (sums : List ℤ) (times₀ : List ℕ) → Timed sums times₀ 0 times₀
unfolding sums_in words written
none_timed sums times₀ = record { inside = omega arith; long = refl; times_are = refl }

-- one more
pub next_timed : {sums : List ℤ} {times₀ times : List ℕ} {i : ℕ} → Timed sums times₀ i times → i < length sums → 8 * length sums ≤ length times₀
    → (d : ℤ) (t : ℕ) (times' : List ℕ) → t ≡ time (sum_at (get_or sums i d)) → times' ≡ with_word 8 times i t → length times' ≡ length times
    → Timed sums times₀ (i + 1) times'
unfolding sums_in
next_timed {sums} {times₀} {times} {i} r h room d t times' e w l =
    let before : List ℕ = map time (map sum_at (take i sums)) in
    let long : length before ≡ i = length-map (map sum_at (take i sums)) time ∙ length-map (take i sums) sum_at ∙ length-take-le i sums r.inside in
    rw (add-one i) (record {
      inside = h;
      long = l ∙ r.long;
      times_are =
          w ∙ ap₂ (λ (s : List ℕ) (j : ℕ). with_word 8 s j t) r.times_are (sym long)
          ∙ word_behind 8 before times₀ t (omega arith)
          ∙ ap (λ (ns : List ℕ). written (words 8 ns) times₀)
          (ap (λ (v : ℕ). before ++ (v ∷ [])) e ∙ sym (map_behind time sum_at (take i sums) (get_or sums i d))
          ∙ ap (λ (s : List ℤ). map time (map sum_at s)) (sym (take-suc sums i d h)));
    })

-- all
pub all_timed : {sums : List ℤ} {times₀ times : List ℕ} {i : ℕ} → Timed sums times₀ i times → length sums ≤ i
    → times ≡ written (words 8 (map time (sums_in sums))) times₀
all_timed {sums} {times₀} {times} {i} r h =
    r.times_are ∙ ap (λ (s : List ℤ). written (words 8 (map time (sums_in s))) times₀) (take_all i sums h)

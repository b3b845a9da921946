-- Searches in arrays: carts held against those before them, step by step.
-- Assumes nothing.
use Rattle.std.specs.Prelude.{Option, None, Some}
use Prim.Native.Nat.{ℕ, zero, suc, ◌+◌, ◌*◌, ◌-◌, ◌≤◌, ◌<◌}
use native.Mathlib.Numerals.{add-one}
use native.Mathlib.Nat.{mul-le-mul_right, add-mul, zero-mul, suc-mul}
use native.Mathlib.Omega.{arith}
use mathlib.Core.Path.{◌≡◌, refl, ap, sym, ◌∙◌}
use mathlib.Core.Bool.{Bool, true, false, true≢false, ◌&&◌, ◌||◌, cond}
use mathlib.Core.List.{List, [], map}
use borrow.Author.Tests.{eq-eqb, ne_eqb, eqb-true, eqb-false}
use lib.Dec.{eqb}
use lib.ListN.{length, take, drop, get_or, length-take, drop_of_length-le}
use lib.Seq.{length-take-le, take-suc, drop-cons, get_or-take, get_or-drop, drop-drop}
use Rattle.laws.proofs.Options.{some-ne-none}
use Rattle.floor.specs.Refusal.{next}
use Rattle.floor.specs.Paths.{collides, first_collision, earliest, at_step, same_cell, steps, first_same_cell, Move, exchanged}
use Rattle.collisions.specs.Meetings.{paths_in}

-- two numbers that are not both equal to two others
pub both_fail : (x y a b : ℕ) → (x ≡ a → y ≡ b → ⊥) → eqb x a && eqb y b ≡ false
both_fail x y a b h = by (eqb x a) refl
  where
    by : (t : Bool) → eqb x a ≡ t → t && eqb y b ≡ false
    by true e = ne_eqb y b (h (eqb-true x a e))
    by false e = refl

-- the cells of path i are among those of n paths
pub path_fits : (i n w : ℕ) → i < n → i * w + w ≤ n * w
path_fits i n w h = let e : (i + 1) * w ≤ n * w = mul-le-mul_right w (omega arith) in omega (arith, add-mul i 1 w)

-- ---- collisions

-- what a list of n has at its places
pub record Placed {A : Type 0} (xs : List A) (n : ℕ) (at : ℕ → A) : Type 0 where
  pub count : length xs ≡ n
  pub there : (d : A) (i : ℕ) → i < n → get_or xs i d ≡ at i

module _ {A : Type 0} {xs : List A} {n : ℕ} {at : ℕ → A} (f : A → A → Bool) (v : Placed xs n at) where
  -- the one at place i held against those before it from place k on: the one there, and those after it
  collides_next : (i k : ℕ) (t : Bool) → k < i → i < n → f (at i) (at k) ≡ t
      → collides f (at i) (drop k (take i xs)) ≡ t || collides f (at i) (drop (k + 1) (take i xs))
  unfolding collides
  collides_next i k t h l e =
      let below : k < length (take i xs) = simp length-take (omega (arith, v.count)) in
      let here : get_or (take i xs) k (at k) ≡ at k = get_or-take i xs k (at k) h ∙ v.there (at k) k (omega arith) in
      rw (add-one, drop-cons (take i xs) k (at k) below, here, e)

  -- one that the one at place i does not collide with is passed over
  pub other_passed : (i k : ℕ) → k < i → i < n → f (at i) (at k) ≡ false
      → collides f (at i) (drop k (take i xs)) ≡ collides f (at i) (drop (k + 1) (take i xs))
  other_passed i k h l e = collides_next i k false h l e

  -- the one at place i, tested, and those after it
  first_next : (i : ℕ) (t : Bool) → i < n → collides f (at i) (take i xs) ≡ t
      → first_collision f (take i xs) (drop i xs) ≡ cond t (Some (i + 1)) (first_collision f (take (i + 1) xs) (drop (i + 1) xs))
  unfolding first_collision next
  first_next i t h e =
      let below : i < length xs = omega (arith, v.count) in
      let here : get_or xs i (at i) ≡ at i = v.there (at i) i h in
      let long : length (take i xs) ≡ i = length-take-le i xs (omega arith) in
      rw (add-one, drop-cons xs i (at i) below, take-suc xs i (at i) below, here, e, long)

  -- one that collides with none of those before it is passed over
  pub record_passed : (i k : ℕ) → i < n → i ≤ k → collides f (at i) (take i xs) ≡ collides f (at i) (drop k (take i xs))
      → first_collision f (take i xs) (drop i xs) ≡ first_collision f (take (i + 1) xs) (drop (i + 1) xs)
  unfolding collides
  record_passed i k h l e =
      let none_left : drop k (take i xs) ≡ [] = drop_of_length-le (take i xs) {i = k} (simp length-take (omega arith)) in
      first_next i false h (e ∙ rw none_left)

  -- one that collides with the one at place k is found
  pub record_found : (i k : ℕ) → k < i → i < n → collides f (at i) (take i xs) ≡ collides f (at i) (drop k (take i xs)) → f (at i) (at k) ≡ true
      → first_collision f (take i xs) (drop i xs) ≡ Some (i + 1)
  record_found i k l h e met = first_next i true h (e ∙ collides_next i k true l h met)

  -- one that collides with none of those before it passes them all
  pub all_passed : (i : ℕ) → i < n → ((k : ℕ) → k < i → f (at i) (at k) ≡ false) → (k : ℕ) → k ≤ i
      → collides f (at i) (take i xs) ≡ collides f (at i) (drop k (take i xs))
  all_passed i h others zero l = refl
  all_passed i h others (suc k) l =
      all_passed i h others k (omega arith) ∙ other_passed i k (omega arith) h (others k (omega arith))
      ∙ ap (λ (m : ℕ). collides f (at i) (drop m (take i xs))) (add-one k)

  -- where no first collision is found, none is found after the first i
  none_after : first_collision f [] xs ≡ None → (i : ℕ) → i ≤ n → first_collision f (take i xs) (drop i xs) ≡ None
  none_after e zero l = e
  none_after e (suc i) l = by (collides f (at i) (take i xs)) refl (none_after e i (omega arith))
    where
      by : (t : Bool) → collides f (at i) (take i xs) ≡ t → first_collision f (take i xs) (drop i xs) ≡ None
          → first_collision f (take (suc i) xs) (drop (suc i) xs) ≡ None
      by true q none_yet = absurd (some-ne-none _ (sym (first_next i true l q) ∙ none_yet))
      by false q none_yet = ap (λ (m : ℕ). first_collision f (take m xs) (drop m xs)) (sym (add-one i)) ∙ sym (first_next i false l q) ∙ none_yet

  -- the one at place i collides with none of those before it from place k on
  none_left : first_collision f [] xs ≡ None → (i k : ℕ) → i < n → k ≤ i → collides f (at i) (drop k (take i xs)) ≡ false
  none_left e i zero h l = by (collides f (at i) (take i xs)) refl
    where
      by : (t : Bool) → collides f (at i) (take i xs) ≡ t → t ≡ false
      by true q = absurd (some-ne-none _ (sym (first_next i true h q) ∙ none_after e i (omega arith)))
      by false q = refl
  none_left e i (suc k) h l = by (f (at i) (at k)) refl (none_left e i k h (omega arith))
    where
      by : (t : Bool) → f (at i) (at k) ≡ t → collides f (at i) (drop k (take i xs)) ≡ false → collides f (at i) (drop (suc k) (take i xs)) ≡ false
      by true q rest = absurd (true≢false (sym (collides_next i k true (omega arith) h q) ∙ rest))
      by false q rest = ap (λ (m : ℕ). collides f (at i) (drop m (take i xs))) (sym (add-one k)) ∙ sym (collides_next i k false (omega arith) h q) ∙ rest

  -- nor with the one at place k
  pub none_with : first_collision f [] xs ≡ None → (i k : ℕ) → i < n → k < i → f (at i) (at k) ≡ false
  none_with e i k h l = by (f (at i) (at k)) refl
    where
      by : (t : Bool) → f (at i) (at k) ≡ t → t ≡ false
      by true q = absurd (true≢false (sym (collides_next i k true l h q) ∙ none_left e i k h (omega arith)))
      by false q = refl

  -- after the last
  pub records_past : (i : ℕ) → n ≤ i → first_collision f (take i xs) (drop i xs) ≡ None
  unfolding first_collision
  records_past i h =
      let none_left : drop i xs ≡ [] = drop_of_length-le xs {i = i} (omega (arith, v.count)) in
      rw none_left

-- ---- steps

-- one step, and those after it
earliest_next : (f : ℕ → Option ℕ) (s n : ℕ) (o : Option ℕ) → f s ≡ o
    → ◌≡◌ {A = Option ℕ} (earliest f s (suc n)) (elim o [ None ↦ earliest f (suc s) n | Some i ↦ Some i ])
unfolding earliest
earliest_next f s n o e = ap (λ (x : Option ℕ). elim x as (λ _. Option ℕ) [ None ↦ earliest f (suc s) n | Some i ↦ Some i ]) e

-- a step at which nothing is found is passed over
pub step_passed : (f : ℕ → Option ℕ) (s n : ℕ) → f s ≡ None → earliest f s (n - s) ≡ earliest f (s + 1) (n - (s + 1))
unfolding earliest
step_passed f s n e = by (n - s) refl
  where
    by : (m : ℕ) → n - s ≡ m → earliest f s m ≡ earliest f (s + 1) (n - (s + 1))
    by zero q = let z : n - (s + 1) ≡ 0 = omega arith in rw z
    by (suc m) q = let z : n - (s + 1) ≡ m = omega arith in rw (z, add-one) (earliest_next f s m None e)

-- what is found at a step is the answer
pub step_found : (f : ℕ → Option ℕ) (s n i : ℕ) → s < n → f s ≡ Some i → earliest f s (n - s) ≡ Some i
unfolding earliest
step_found f s n i h e = let z : n - s ≡ suc (n - (s + 1)) = omega arith in rw z (earliest_next f s (n - (s + 1)) (Some i) e)

-- after the last step
pub steps_over : (f : ℕ → Option ℕ) (s n : ℕ) → n ≤ s → earliest f s (n - s) ≡ None
unfolding earliest
steps_over f s n h = let z : n - s ≡ 0 = omega arith in rw z

-- where nothing is found from a step on, nothing is found there
none_at : (f : ℕ → Option ℕ) (n s : ℕ) → s < n → earliest f s (n - s) ≡ None → f s ≡ None
none_at f n s h e = by (f s) refl
  where
    by : (o : Option ℕ) → f s ≡ o → f s ≡ None
    by None q = q
    by (Some i) q = absurd (some-ne-none _ (sym (step_found f s n i h q) ∙ e))

-- where nothing is found, nothing is found from any step on
none_later : (f : ℕ → Option ℕ) (n : ℕ) → earliest f 0 n ≡ None → (s : ℕ) → s ≤ n → earliest f s (n - s) ≡ None
none_later f n e zero l = let all : n - 0 ≡ n = omega arith in ap (earliest f 0) all ∙ e
none_later f n e (suc s) l =
    let before : earliest f s (n - s) ≡ None = none_later f n e s (omega arith) in
    ap (λ (m : ℕ). earliest f m (n - m)) (sym (add-one s)) ∙ sym (step_passed f s n (none_at f n s l before)) ∙ before

-- ---- what the paths of an array have at a step

-- the cells that n paths have at step t
abbrev pub cells_at : ℕ → ℕ → List ℕ → ℕ → List ℕ
cells_at n w s t = map (at_step t) (paths_in n w s)

-- of each path
image_at : {A : Type 0} (g : List ℕ → A) (n w : ℕ) (s : List ℕ) (d : A) (i : ℕ) → i < n
    → get_or (map g (paths_in n w s)) i d ≡ g (take w (drop (i * w) s))
unfolding paths_in
image_at g zero w s d i h = absurd (omega arith)
image_at g (suc n) w s d zero h = rw zero-mul
image_at g (suc n) w s d (suc i) h =
    let e : w + i * w ≡ suc i * w = omega (arith, suc-mul i w) in
    image_at g n w (drop w s) d i (omega arith) ∙ rw (drop-drop, e)

images_count : {A : Type 0} (g : List ℕ → A) (n w : ℕ) (s : List ℕ) → length (map g (paths_in n w s)) ≡ n
unfolding paths_in
images_count g zero w s = refl
images_count g (suc n) w s = ap suc (images_count g n w (drop w s))

-- the cell of path i at step t
cell_at : (w : ℕ) (s : List ℕ) (i t : ℕ) → t < w → at_step t (take w (drop (i * w) s)) ≡ get_or s (i * w + t) 0
unfolding at_step
cell_at w s i t h = get_or-take w (drop (i * w) s) t 0 h ∙ get_or-drop (i * w) s t 0

-- at most w steps, and w if there is a path
pub steps_most : (n w : ℕ) (s : List ℕ) → steps (paths_in n w s) ≤ w
unfolding steps paths_in
steps_most zero w s = omega arith
steps_most (suc n) w s = simp length-take (omega arith)

pub steps_all : (n w : ℕ) (s : List ℕ) → 0 < n → n * w ≤ length s → steps (paths_in n w s) ≡ w
unfolding steps paths_in
steps_all zero w s h l = absurd (omega arith)
steps_all (suc n) w s h l = length-take-le w s (omega (arith, suc-mul n w))

-- the cells at step t
pub cells_placed : (n w : ℕ) (s : List ℕ) (t : ℕ) → t < w → Placed (cells_at n w s t) n (λ i. get_or s (i * w + t) 0)
cells_placed n w s t h =
    record {
      count = images_count (at_step t) n w s;
      there = λ d i l. image_at (at_step t) n w s d i l ∙ cell_at w s i t h;
    }

-- the moves that n paths make from step t
abbrev pub moves_at : ℕ → ℕ → List ℕ → ℕ → List Move
moves_at n w s t = map (λ (p : List ℕ). record { before = at_step t p; after = at_step (suc t) p }) (paths_in n w s)

-- the moves to step t
pub moves_placed : (n w : ℕ) (s : List ℕ) (t : ℕ) → 1 ≤ t → t < w
    → Placed (moves_at n w s (t - 1)) n (λ i. record { before = get_or s (i * w + t - 1) 0; after = get_or s (i * w + t) 0 })
moves_placed n w s t least h = record { count = images_count move n w s; there = λ d i l. image_at move n w s d i l ∙ here i }
  where
    move : List ℕ → Move
    move p = record { before = at_step (t - 1) p; after = at_step (suc (t - 1)) p }

    here : (i : ℕ) → ◌≡◌ {A = Move} (record { before = at_step (t - 1) (take w (drop (i * w) s)); after = at_step (suc (t - 1)) (take w (drop (i * w) s)) })
        (record { before = get_or s (i * w + t - 1) 0; after = get_or s (i * w + t) 0 })
    here i =
        let one : suc (t - 1) ≡ t = omega arith in
        let before : i * w + (t - 1) ≡ i * w + t - 1 = omega arith in
        rw (one, cell_at w s i (t - 1) (omega arith), cell_at w s i t h, before)

-- two moves between the same cells, each the other way
pub moves_meet : (a b x y : ℕ) → y ≡ a → x ≡ b → exchanged (record { before = a; after = b }) (record { before = x; after = y }) ≡ true
unfolding exchanged
moves_meet a b x y p q = rw (eq-eqb a y (sym p), eq-eqb b x (sym q))

-- any other two
pub moves_pass : (a b x y : ℕ) → (y ≡ a → x ≡ b → ⊥) → exchanged (record { before = a; after = b }) (record { before = x; after = y }) ≡ false
unfolding exchanged
moves_pass a b x y h = both_fail a b y x (λ p q. h (sym p) (sym q))

-- a step is passed over, the steps counted from 1
pub step_to_passed : (f : ℕ → Option ℕ) (s n : ℕ) → 1 ≤ s → f (s - 1) ≡ None
    → earliest f (s - 1) (n - (s - 1)) ≡ earliest f (s + 1 - 1) (n - (s + 1 - 1))
step_to_passed f s n least e =
    let one : s - 1 + 1 ≡ s + 1 - 1 = omega arith in
    step_passed f (s - 1) n e ∙ ap (λ (j : ℕ). earliest f j (n - j)) one

-- no two carts are in one cell at a step
cells_apart : (n w : ℕ) (s : List ℕ) → n * w ≤ length s → first_same_cell (paths_in n w s) ≡ None → (t i k : ℕ) → t < w → i < n → k < i
    → get_or s (i * w + t) 0 ≡ get_or s (k * w + t) 0 → ⊥
unfolding first_same_cell same_cell
cells_apart n w s fits e t i k h l m =
    let all : steps (paths_in n w s) ≡ w = steps_all n w s (omega arith) fits in
    let within : t < steps (paths_in n w s) = omega arith in
    let none_here : same_cell (paths_in n w s) t ≡ None =
    none_at (same_cell (paths_in n w s)) (steps (paths_in n w s)) t within (none_later _ _ e t (omega arith)) in
    eqb-false _ _ (none_with eqb (cells_placed n w s t h) none_here i k l m)

-- so a cart that stays exchanges cells with none of those before it
pub stays_alone : (n w : ℕ) (s : List ℕ) → n * w ≤ length s → first_same_cell (paths_in n w s) ≡ None → (t i : ℕ) → 1 ≤ t → t < w → i < n
    → get_or s (i * w + t - 1) 0 ≡ get_or s (i * w + t) 0
    → collides exchanged (record { before = get_or s (i * w + t - 1) 0; after = get_or s (i * w + t) 0 }) (take i (moves_at n w s (t - 1)))
    ≡ collides exchanged (record { before = get_or s (i * w + t - 1) 0; after = get_or s (i * w + t) 0 }) (drop i (take i (moves_at n w s (t - 1))))
stays_alone n w s fits e t i least h l stays =
    all_passed exchanged (moves_placed n w s t least h) i l
    (λ k m. moves_pass _ _ _ _ (λ p q. cells_apart n w s fits e t i k h l m (sym (p ∙ stays)))) i (omega arith)

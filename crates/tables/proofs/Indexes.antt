-- Roads linked by remainders: the roads passed over on the way through those of one remainder join no two cells of that remainder.
-- Assumes nothing.
use Rattle.std.specs.Prelude.{None, Some, Err, Ok}
use Prim.Native.Nat.{ℕ, zero, suc, ◌+◌, ◌*◌, ◌-◌, ◌%◌, ◌≤◌, ◌<◌}
use native.Mathlib.Nat.{eq-or-lt_of_le, add_comm}
use native.Mathlib.Numerals.{add-one}
use native.Mathlib.Omega.{arith}
use mathlib.Core.Path.{◌≡◌, refl, ap, ap₂, sym, ◌∙◌, subst}
use mathlib.Core.Logic.{◌≢◌, ⊎_elim}
use mathlib.Core.Bool.{Bool, true, false, ◌&&◌, ◌||◌, cond}
use mathlib.Core.List.{List, [], ◌∷◌, flat_map}
use lib.Dec.{eqb}
use lib.ListN.{length, drop, get_or, set, replicate, length-set, length-replicate}
use lib.Seq.{get_or-drop, get_or-set_same, get_or-set_other}
use borrow.Author.Tests.{eq-eqb, eqb-true, eqb-false}
use Rattle.floor.specs.declared.Refusal.{Refusal}
use Rattle.floor.specs.Refusal.{Judged}
use Rattle.floor.specs.Plan.{joins, road_between, joined}
use Rattle.floor.specs.declared.Road.{Road}
use Rattle.floor.specs.Roads.{road}
use Rattle.words.specs.Words.{padded}
use Rattle.tables.specs.Arrays.{road_numbers, roads_in}
use Rattle.tables.specs.Index.{bucket, bucket_at, last_in, Indexed, Linked, Unlinked}
use Rattle.tables.specs.declared.lent.RoadIndex.{RoadIndex}
use Rattle.tables.specs.Reading.{counted, Count}
use Rattle.floor.proofs.Judging.{refused_not_accepted, accepted_same}
use Rattle.tables.proofs.Searches.{either, both_fail}
use Rattle.tables.proofs.Turns.{Turn, refused_ends, all_taken, last_turn}

-- ---- roads

-- a road joins two cells, or one of the others does
joined_cons : (r : Road) (rs : List Road) (a b : ℕ) → joined (r ∷ rs) a b ≡ joins a b r || joined rs a b
unfolding joined road_between
joined_cons r rs a b = by (joins a b r)
  where
    by : (t : Bool) → ◌≡◌ {A = Bool} (elim (cond t (Some r) (road_between rs a b)) [ None ↦ false | Some r ↦ true ]) (t || joined rs a b)
    by true = refl
    by false = refl

-- both tests of a road between x and y
joins_test : ℕ → ℕ → ℕ → ℕ → Bool
joins_test x y a b = (eqb x a && eqb y b) || (eqb x b && eqb y a)

joins_forth : (x y a b : ℕ) → x ≡ a → y ≡ b → joins_test x y a b ≡ true
unfolding joins_test
joins_forth x y a b p q = rw (eq-eqb x a p, eq-eqb y b q)

joins_back : (x y a b : ℕ) → x ≡ b → y ≡ a → joins_test x y a b ≡ true
unfolding joins_test
joins_back x y a b p q = rw (eq-eqb x b p, eq-eqb y a q) (either (eqb x a && eqb y b))

joins_neither : (x y a b : ℕ) → (x ≡ a → y ≡ b → ⊥) → (x ≡ b → y ≡ a → ⊥) → joins_test x y a b ≡ false
unfolding joins_test
joins_neither x y a b h k = rw (both_fail x y a b h, both_fail x y b a k)

-- a road of another remainder joins neither way
joins_other : (x y a b : ℕ) → bucket x y ≢ bucket a b → joins_test x y a b ≡ false
unfolding bucket
joins_other x y a b h =
    joins_neither x y a b (λ p q. h (ap₂ bucket p q)) (λ p q. h (ap₂ bucket p q ∙ ap (λ (m : ℕ). m % 1024) (add_comm b a)))

-- whether the road at place i of an array joins the cells
abbrev test_at : List ℕ → ℕ → ℕ → ℕ → Bool
test_at s i a b = joins_test (get_or s (4 * i) 0) (get_or s (4 * i + 1) 0) a b

-- the last road joins two cells, or one of those before it does
joined_last : (n : ℕ) (s : List ℕ) (a b : ℕ) → joined (roads_in (suc n) s) a b ≡ test_at s n a b || joined (roads_in n s) a b
unfolding roads_in joins joins_test
joined_last zero s a b = joined_cons _ [] a b
joined_last (suc n) s a b =
    let first : Road = record { from = get_or s 0 0; to = get_or s 1 0; length = get_or s 2 0; margin = get_or s 3 0 } in
    let d : List ℕ = drop 4 s in
    let at : 4 + 4 * n ≡ 4 * suc n = omega arith in
    let after : 4 + (4 * n + 1) ≡ 4 * suc n + 1 = omega arith in
    let x : get_or d (4 * n) 0 ≡ get_or s (4 * suc n) 0 = get_or-drop 4 s (4 * n) 0 ∙ ap (λ (i : ℕ). get_or s i 0) at in
    let y : get_or d (4 * n + 1) 0 ≡ get_or s (4 * suc n + 1) 0 = get_or-drop 4 s (4 * n + 1) 0 ∙ ap (λ (i : ℕ). get_or s i 0) after in
    joined_cons first (roads_in (suc n) d) a b
    ∙ ap (λ (t : Bool). joins a b first || t) (joined_last n d a b ∙ ap (λ (t : Bool). t || joined (roads_in n d) a b) (ap₂ (λ (u v : ℕ). joins_test u v a b) x y))
    ∙ swap (joins a b first) (test_at s (suc n) a b) (joined (roads_in n d) a b)
    ∙ ap (λ (t : Bool). test_at s (suc n) a b || t) (sym (joined_cons first (roads_in n d) a b))
  where
    swap : (p q r : Bool) → p || (q || r) ≡ q || (p || r)
    swap true true r = refl
    swap true false r = refl
    swap false q r = refl

-- the last road joins them
last_joins : (n : ℕ) (s : List ℕ) (a b : ℕ) → test_at s n a b ≡ true → joined (roads_in (suc n) s) a b ≡ true
last_joins n s a b e = joined_last n s a b ∙ ap (λ (t : Bool). t || joined (roads_in n s) a b) e

-- or does not
last_passed : (n : ℕ) (s : List ℕ) (a b : ℕ) → test_at s n a b ≡ false → joined (roads_in (suc n) s) a b ≡ joined (roads_in n s) a b
last_passed n s a b e = joined_last n s a b ∙ ap (λ (t : Bool). t || joined (roads_in n s) a b) e

-- ---- the last road of a remainder

-- it is one of them
pub last_most : (s : List ℕ) (b n : ℕ) → last_in s b n ≤ n
unfolding last_in
last_most s b zero = omega arith
last_most s b (suc n) = by (eqb (bucket_at s n) b) (last_most s b n)
  where
    by : (t : Bool) → last_in s b n ≤ n → cond t (suc n) (last_in s b n) ≤ suc n
    by true h = omega arith
    by false h = omega arith

-- it is of that remainder
pub last_there : (s : List ℕ) (b n : ℕ) → 0 < last_in s b n → bucket_at s (last_in s b n - 1) ≡ b
unfolding last_in
last_there s b zero h = absurd (omega arith)
last_there s b (suc n) h = by (eqb (bucket_at s n) b) refl h (last_there s b n)
  where
    by : (t : Bool) → eqb (bucket_at s n) b ≡ t → 0 < cond t (suc n) (last_in s b n) → (0 < last_in s b n → bucket_at s (last_in s b n - 1) ≡ b)
        → bucket_at s (cond t (suc n) (last_in s b n) - 1) ≡ b
    by true e h rest = let here : suc n - 1 ≡ n = omega arith in ap (bucket_at s) here ∙ eqb-true (bucket_at s n) b e
    by false e h rest = rest h

-- those after it do not join two cells of that remainder
last_skip : (s : List ℕ) (a b n : ℕ) → joined (roads_in n s) a b ≡ joined (roads_in (last_in s (bucket a b) n) s) a b
unfolding last_in bucket_at
last_skip s a b zero = refl
last_skip s a b (suc n) = by (eqb (bucket_at s n) (bucket a b)) refl (last_skip s a b n)
  where
    by : (t : Bool) → eqb (bucket_at s n) (bucket a b) ≡ t → joined (roads_in n s) a b ≡ joined (roads_in (last_in s (bucket a b) n) s) a b
        → joined (roads_in (suc n) s) a b ≡ joined (roads_in (cond t (suc n) (last_in s (bucket a b) n)) s) a b
    by true e rest = refl
    by false e rest = last_passed n s a b (joins_other _ _ a b (eqb-false (bucket_at s n) (bucket a b) e)) ∙ rest

-- it is the same where the remainders are
last_same : (s t : List ℕ) (b n : ℕ) → ((i : ℕ) → i < n → bucket_at t i ≡ bucket_at s i) → last_in t b n ≡ last_in s b n
unfolding last_in
last_same s t b zero h = refl
last_same s t b (suc n) h = ap₂ (λ (x y : ℕ). cond (eqb x b) (suc n) y) (h n (omega arith)) (last_same s t b n (λ i l. h i (omega arith)))

-- ---- the way through the roads of a remainder

-- what holds at the road before place p: it is of the cells' remainder, and those from p on do not join the cells
abbrev pub Way : List ℕ → ℕ → ℕ → ℕ → ℕ → Type 0
Way s n a b p = (p ≤ n) × (0 < p → bucket_at s (p - 1) ≡ bucket a b) × (joined (roads_in n s) a b ≡ joined (roads_in p s) a b)

module _ (s heads nexts : List ℕ) (n : ℕ) (k : Indexed n s heads nexts) (a b : ℕ) where
  -- at the last road of the remainder
  pub way_begins : (r : ℕ) → r ≡ bucket a b → r < 1024 → Way s n a b (get_or heads r 0)
  way_begins r e l =
      let first : get_or heads r 0 ≡ last_in s (bucket a b) n = k.heads_are r l ∙ ap (λ (m : ℕ). last_in s m n) e in
      subst (Way s n a b) (sym first) (last_most s (bucket a b) n, last_there s (bucket a b) n, last_skip s a b n)

  module _ (p : ℕ) (w : Way s n a b p) (Some : 0 < p) where
    at_hand : joined (roads_in p s) a b ≡ joined (roads_in (suc (p - 1)) s) a b
    at_hand = let one : p ≡ suc (p - 1) = omega arith in ap (λ (m : ℕ). joined (roads_in m s) a b) one

    -- the road at hand runs from a to b
    pub way_forth : get_or s (4 * (p - 1)) 0 ≡ a → get_or s (4 * (p - 1) + 1) 0 ≡ b → joined (roads_in n s) a b ≡ true
    way_forth x y = w.2 ∙ at_hand ∙ last_joins (p - 1) s a b (joins_forth _ _ a b x y)

    -- or from b to a
    pub way_back : get_or s (4 * (p - 1)) 0 ≡ b → get_or s (4 * (p - 1) + 1) 0 ≡ a → joined (roads_in n s) a b ≡ true
    way_back x y = w.2 ∙ at_hand ∙ last_joins (p - 1) s a b (joins_back _ _ a b x y)

    -- the next is before it
    pub way_less : get_or nexts (p - 1) 0 < p
    way_less = omega (arith, w.0, k.nexts_are (p - 1) (omega (arith, w.0)), last_most s (bucket_at s (p - 1)) (p - 1))

    -- it does not join them: on to the next
    pub way_goes : (get_or s (4 * (p - 1)) 0 ≡ a → get_or s (4 * (p - 1) + 1) 0 ≡ b → ⊥) → (get_or s (4 * (p - 1)) 0 ≡ b → get_or s (4 * (p - 1) + 1) 0 ≡ a → ⊥)
        → Way s n a b (get_or nexts (p - 1) 0)
    way_goes f g =
        let within : p ≤ n = w.0 in
        let next : get_or nexts (p - 1) 0 ≡ last_in s (bucket a b) (p - 1) =
        k.nexts_are (p - 1) (omega arith) ∙ ap (λ (m : ℕ). last_in s m (p - 1)) (w.1 Some) in
        let most : last_in s (bucket a b) (p - 1) ≤ p - 1 = last_most s (bucket a b) (p - 1) in
        subst (Way s n a b) (sym next) (
          omega arith,
          last_there s (bucket a b) (p - 1),
          w.2 ∙ at_hand ∙ last_passed (p - 1) s a b (joins_neither _ _ a b f g) ∙ last_skip s a b (p - 1),
        )

  -- after the first
  pub way_ends : (p : ℕ) → Way s n a b p → p ≤ 0 → joined (roads_in n s) a b ≡ false
  unfolding roads_in joined road_between
  way_ends p w h = let none_left : p ≡ 0 = omega arith in w.2 ∙ ap (λ (m : ℕ). joined (roads_in m s) a b) none_left

-- ---- linking

-- zeros, and nothing behind them
zeros_at : (n i : ℕ) → ◌≡◌ {A = ℕ} (get_or (replicate n 0) i 0) 0
zeros_at zero i = refl
zeros_at (suc n) zero = refl
zeros_at (suc n) (suc i) = zeros_at n i

-- no road is linked yet
pub none_indexed : (n m : ℕ) (s heads nexts : List ℕ) → heads ≡ replicate n 0 → nexts ≡ replicate m 0 → Indexed 0 s heads nexts
unfolding last_in
none_indexed n m s heads nexts e f =
    record {
      heads_are = λ b h. ap (λ (x : List ℕ). get_or x b 0) e ∙ zeros_at n b;
      heads_end = λ b h. ap (λ (x : List ℕ). get_or x b 0) e ∙ zeros_at n b;
      nexts_are = λ j h. absurd (omega arith);
      nexts_end = λ j h. ap (λ (x : List ℕ). get_or x j 0) f ∙ zeros_at m j;
    }

-- in arrays that have room
pub none_linked : (s : List ℕ) (i : RoadIndex) → Unlinked i → Linked 0 s i
none_linked s i (e, f) =
    record {
      heads_long = ap (length {A = ℕ}) e ∙ length-replicate {A = ℕ} 1024 0;
      nexts_long = ap (length {A = ℕ}) f ∙ length-replicate {A = ℕ} 1024 0;
      indexed = none_indexed 1024 1024 s i.heads.now i.nexts.now e f;
    }

-- the index of n roads is that of any array that begins with them
pub same_indexed : (n : ℕ) (s t heads nexts : List ℕ) → ((i : ℕ) → i < n → bucket_at t i ≡ bucket_at s i) → Indexed n s heads nexts → Indexed n t heads nexts
same_indexed n s t heads nexts h k =
    record {
      heads_are = λ b l. k.heads_are b l ∙ sym (last_same s t b n h);
      nexts_are =
          λ j l. k.nexts_are j l ∙ sym (last_same s t (bucket_at s j) j (λ i m. h i (omega arith))) ∙ ap (λ (m : ℕ). last_in t m j) (sym (h j l));
      heads_end = k.heads_end;
      nexts_end = k.nexts_end;
    }

-- one more, after those that are
module _ (s heads nexts : List ℕ) (n : ℕ) (k : Indexed n s heads nexts) (r : ℕ) (here : r ≡ bucket_at s n) where
  -- the last of each remainder
  head_of : r < length heads → (b : ℕ) → b < 1024 → get_or (set heads r (suc n)) b 0 ≡ last_in s b (suc n)
  unfolding last_in
  head_of wide b h = by (eqb (bucket_at s n) b) refl
    where
      by : (t : Bool) → eqb (bucket_at s n) b ≡ t → get_or (set heads r (suc n)) b 0 ≡ cond t (suc n) (last_in s b n)
      by true e =
          let same : b ≡ r = sym (here ∙ eqb-true (bucket_at s n) b e) in
          ap (λ (m : ℕ). get_or (set heads r (suc n)) m 0) same ∙ get_or-set_same heads r (suc n) 0 wide
      by false e =
          let other : b ≢ r = λ q. eqb-false (bucket_at s n) b e (sym (q ∙ here)) in
          get_or-set_other heads r b (suc n) 0 other ∙ k.heads_are b h

  -- the last before each
  next_of : r < 1024 → n < length nexts → (j : ℕ) → j < suc n → get_or (set nexts n (get_or heads r 0)) j 0 ≡ last_in s (bucket_at s j) j
  next_of small room j h = ⊎_elim new old (eq-or-lt_of_le h)
    where
      new : suc j ≡ suc n → get_or (set nexts n (get_or heads r 0)) j 0 ≡ last_in s (bucket_at s j) j
      new e =
          let same : j ≡ n = omega arith in
          ap (λ (x : ℕ). get_or (set nexts n (get_or heads r 0)) x 0) same
          ∙ get_or-set_same nexts n (get_or heads r 0) 0 room
          ∙ k.heads_are r small
          ∙ ap (λ (x : ℕ). last_in s x n) here
          ∙ ap (λ (x : ℕ). last_in s (bucket_at s x) x) (sym same)

      old : suc j < suc n → get_or (set nexts n (get_or heads r 0)) j 0 ≡ last_in s (bucket_at s j) j
      old e =
          let other : j ≢ n = λ q. omega arith in
          get_or-set_other nexts n j (get_or heads r 0) 0 other ∙ k.nexts_are j (omega arith)

  -- both
  pub one_indexed : r < 1024 → r < length heads → n < length nexts → Indexed (n + 1) s (set heads r (n + 1)) (set nexts n (get_or heads r 0))
  one_indexed small wide room =
      subst (λ (m : ℕ). Indexed m s (set heads r m) (set nexts n (get_or heads r 0))) (sym (add-one n))
      (record {
        heads_are = head_of wide;
        heads_end = λ b h. get_or-set_other heads r b (suc n) 0 (λ q. omega arith) ∙ k.heads_end b h;
        nexts_are = next_of small room;
        nexts_end = λ j h. get_or-set_other nexts n j (get_or heads r 0) 0 (λ q. omega arith) ∙ k.nexts_end j (omega arith);
      })

-- ---- a record

-- four numbers stored after n roads
module _ (n : ℕ) (s : List ℕ) (a b l m : ℕ) where
  abbrev pub four_stored : List ℕ
  four_stored = set (set (set (set s (4 * n) a) (4 * n + 1) b) (4 * n + 2) l) (4 * n + 3) m

  -- those before them stay
  before_stored : (i : ℕ) → i < 4 * n → get_or four_stored i 0 ≡ get_or s i 0
  before_stored i h =
      let one : List ℕ = set s (4 * n) a in
      let two : List ℕ = set one (4 * n + 1) b in
      let three : List ℕ = set two (4 * n + 2) l in
      get_or-set_other three (4 * n + 3) i m 0 (λ q. omega arith)
      ∙ get_or-set_other two (4 * n + 2) i l 0 (λ q. omega arith)
      ∙ get_or-set_other one (4 * n + 1) i b 0 (λ q. omega arith)
      ∙ get_or-set_other s (4 * n) i a 0 (λ q. omega arith)

  -- and their index
  pub stored_indexed : (heads nexts : List ℕ) → Indexed n s heads nexts → Indexed n four_stored heads nexts
  unfolding bucket_at
  stored_indexed heads nexts k =
      same_indexed n s four_stored heads nexts (λ i h. ap₂ bucket (before_stored (4 * i) (omega arith)) (before_stored (4 * i + 1) (omega arith))) k

  -- the remainder of the road that is stored
  pub stored_bucket : 4 * n + 4 ≤ length s → bucket_at four_stored n ≡ bucket a b
  unfolding bucket_at
  stored_bucket room = ap₂ bucket first second
    where
      first : get_or four_stored (4 * n) 0 ≡ a
      first =
          let one : List ℕ = set s (4 * n) a in
          let two : List ℕ = set one (4 * n + 1) b in
          let three : List ℕ = set two (4 * n + 2) l in
          get_or-set_other three (4 * n + 3) (4 * n) m 0 (λ q. omega arith)
          ∙ get_or-set_other two (4 * n + 2) (4 * n) l 0 (λ q. omega arith)
          ∙ get_or-set_other one (4 * n + 1) (4 * n) b 0 (λ q. omega arith)
          ∙ get_or-set_same s (4 * n) a 0 (omega arith)

      second : get_or four_stored (4 * n + 1) 0 ≡ b
      second =
          let one : List ℕ = set s (4 * n) a in
          let two : List ℕ = set one (4 * n + 1) b in
          let three : List ℕ = set two (4 * n + 2) l in
          get_or-set_other three (4 * n + 3) (4 * n + 1) m 0 (λ q. omega arith)
          ∙ get_or-set_other two (4 * n + 2) (4 * n + 1) l 0 (λ q. omega arith)
          ∙ get_or-set_same one (4 * n + 1) b 0 (omega (arith, length-set s (4 * n) a))

-- ---- the table

-- the answer, and where the roads are taken, their numbers and their index
abbrev pub RoadsEnd : Judged (List Road) → ℕ → Count → List ℕ → RoadIndex → Type 0
RoadsEnd whole size r s i =
    (r ≡ counted whole)
    × (((ds : List Road) → whole ≡ Ok ds → s ≡ padded size (flat_map road_numbers ds)) × ((ds : List Road) → whole ≡ Ok ds → Linked (length ds) s i))

-- of a table that is refused
pub no_roads : (whole : Judged (List Road)) (size : ℕ) (s : List ℕ) (i : RoadIndex) (r : Refusal) → whole ≡ Err r → RoadsEnd whole size (Err r) s i
no_roads whole size s i r e =
    let (a, b) = refused_ends road road_numbers whole size s r e in
    (a, (b, λ ds f. absurd (refused_not_accepted r ds (sym e ∙ f))))

-- of one whose roads are all taken
pub all_roads : (whole : Judged (List Road)) (left : List (List ℕ)) (size : ℕ) (s : List ℕ) (i : RoadIndex) (n : ℕ) → Turn road road_numbers whole left size s n → left ≡ []
    → Linked n s i → RoadsEnd whole size (Ok n) s i
all_roads whole left size s i n u h k =
    let e : whole ≡ Ok u.before = all_taken road road_numbers whole left size s n u h in
    let (a, b) = last_turn road road_numbers whole left size s n u h in
    (a, (b, λ ds f. subst (λ (m : ℕ). Linked m s i) (sym u.count ∙ ap (length {A = Road}) (accepted_same _ _ (sym e ∙ f))) k))

-- of one that says what another says
pub roads_as : (whole other : Judged (List Road)) (size : ℕ) (r : Count) (s : List ℕ) (i : RoadIndex) → whole ≡ other
    → RoadsEnd other size r s i → RoadsEnd whole size r s i
roads_as whole other size r s i e h = subst (λ (x : Judged (List Road)). RoadsEnd x size r s i) (sym e) h

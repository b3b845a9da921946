-- The roads gone through from the last to the first: what was met last is the first road that joins two cells. Where roads are linked by remainders, those of the
-- cells' remainder give the same, so that no other need be looked at. Assumes nothing.
use Rattle.std.specs.Prelude.{Option, None, Some, List, []}
use Prim.Native.Nat.{ℕ, zero, suc, ◌+◌, ◌*◌, ◌-◌, ◌%◌, ◌≤◌, ◌<◌}
use native.Mathlib.Nat.{add_comm}
use native.Mathlib.Omega.{arith}
use mathlib.Core.Path.{◌≡◌, refl, ap, ap₂, sym, ◌∙◌, subst}
use mathlib.Core.Logic.{◌≢◌}
use mathlib.Core.Bool.{Bool, true, false, cond}
use mathlib.Core.List.{◌∷◌}
use lib.Dec.{eqb}
use lib.ListN.{drop, get_or}
use lib.Seq.{get_or-drop}
use borrow.Author.Tests.{eqb-false}
use Rattle.floor.specs.Plan.{joins, road_between}
use Rattle.floor.specs.declared.Road.{Road}
use Rattle.tables.specs.Arrays.{roads_in}
use Rattle.tables.specs.Index.{bucket, bucket_at, last_in, Indexed}
use Rattle.tables.proofs.Indexes.{last_most, last_there}
use Rattle.tables.proofs.Searches.{both_fail}

-- the cells of a road alone
abbrev pub cells_of : ℕ → ℕ → Road
cells_of from to = record { from = from; to = to; length = 0; margin = 0 }

-- ---- the first road that joins two cells

-- the road at place i of an array
abbrev road_at : List ℕ → ℕ → Road
road_at s i = record { from = get_or s (4 * i) 0; to = get_or s (4 * i + 1) 0; length = get_or s (4 * i + 2) 0; margin = get_or s (4 * i + 3) 0 }

-- without the first road
road_behind : (s : List ℕ) (i : ℕ) → road_at (drop 4 s) i ≡ road_at s (suc i)
road_behind s i =
    let d : List ℕ = drop 4 s in
    let from : 4 + 4 * i ≡ 4 * suc i = omega arith in
    let to : 4 + (4 * i + 1) ≡ 4 * suc i + 1 = omega arith in
    let long : 4 + (4 * i + 2) ≡ 4 * suc i + 2 = omega arith in
    let margin : 4 + (4 * i + 3) ≡ 4 * suc i + 3 = omega arith in
    ap₂ (λ (x y : ℕ). record { from = x; to = y; length = get_or d (4 * i + 2) 0; margin = get_or d (4 * i + 3) 0 })
    (get_or-drop 4 s (4 * i) 0 ∙ ap (λ (m : ℕ). get_or s m 0) from) (get_or-drop 4 s (4 * i + 1) 0 ∙ ap (λ (m : ℕ). get_or s m 0) to)
    ∙ ap₂ (λ (x y : ℕ). record { from = get_or s (4 * suc i) 0; to = get_or s (4 * suc i + 1) 0; length = x; margin = y })
    (get_or-drop 4 s (4 * i + 2) 0 ∙ ap (λ (m : ℕ). get_or s m 0) long) (get_or-drop 4 s (4 * i + 3) 0 ∙ ap (λ (m : ℕ). get_or s m 0) margin)

-- the first of these roads that joins a and b, or else what was met before
pub found_or : List Road → ℕ → ℕ → Option Road → Option Road
found_or [] a b d = d
found_or (r ∷ rs) a b d = cond (joins a b r) (Some r) (found_or rs a b d)

-- it is what is asked for, where nothing was
found_is : (rs : List Road) (a b : ℕ) → found_or rs a b None ≡ road_between rs a b
unfolding found_or road_between
found_is [] a b = refl
found_is (r ∷ rs) a b = by (joins a b r) (found_is rs a b)
  where
    by : (t : Bool) → found_or rs a b None ≡ road_between rs a b
        → cond t (Some r) (found_or rs a b None) ≡ cond t (Some r) (road_between rs a b)
    by true e = refl
    by false e = e

-- it is one of those before the last, or else the last
found_last : (n : ℕ) (s : List ℕ) (a b : ℕ) (d : Option Road)
    → found_or (roads_in (suc n) s) a b d ≡ found_or (roads_in n s) a b (cond (joins a b (road_at s n)) (Some (road_at s n)) d)
unfolding roads_in found_or
found_last zero s a b d = refl
found_last (suc n) s a b d =
    let first : Road = road_at s 0 in
    ap (cond (joins a b first) (Some first))
    (found_last n (drop 4 s) a b d ∙ ap (λ (r : Road). found_or (roads_in n (drop 4 s)) a b (cond (joins a b r) (Some r) d)) (road_behind s n))

-- the last joins the cells
last_here : (n : ℕ) (s : List ℕ) (a b : ℕ) (d : Option Road) → true ≡ joins a b (cells_of (get_or s (4 * n) 0) (get_or s (4 * n + 1) 0))
    → found_or (roads_in (suc n) s) a b d ≡ found_or (roads_in n s) a b (Some (road_at s n))
unfolding joins
last_here n s a b d q =
    found_last n s a b d ∙ ap (λ (t : Bool). found_or (roads_in n s) a b (cond t (Some (road_at s n)) d)) (sym q)

-- or does not
last_passed : (n : ℕ) (s : List ℕ) (a b : ℕ) (d : Option Road) → false ≡ joins a b (cells_of (get_or s (4 * n) 0) (get_or s (4 * n + 1) 0))
    → found_or (roads_in (suc n) s) a b d ≡ found_or (roads_in n s) a b d
unfolding joins
last_passed n s a b d q =
    found_last n s a b d ∙ ap (λ (t : Bool). found_or (roads_in n s) a b (cond t (Some (road_at s n)) d)) (sym q)

-- ---- remainders

-- a road of another remainder joins neither way
joins_other : (x y a b : ℕ) → bucket x y ≢ bucket a b → false ≡ joins a b (cells_of x y)
unfolding joins bucket
joins_other x y a b h =
    let forth : x ≡ a → y ≡ b → ⊥ = λ p q. h (ap₂ bucket p q) in
    let back : x ≡ b → y ≡ a → ⊥ = λ p q. h (ap₂ bucket p q ∙ ap (λ (m : ℕ). m % 1024) (add_comm b a)) in
    rw (both_fail x y a b forth, both_fail x y b a back)

-- so those after the last of the cells' remainder are passed over
found_skip : (s : List ℕ) (a b : ℕ) (d : Option Road) (n : ℕ) → found_or (roads_in n s) a b d ≡ found_or (roads_in (last_in s (bucket a b) n) s) a b d
unfolding last_in bucket_at
found_skip s a b d zero = refl
found_skip s a b d (suc n) = by (eqb (bucket_at s n) (bucket a b)) refl (found_skip s a b d n)
  where
    by : (t : Bool) → eqb (bucket_at s n) (bucket a b) ≡ t → found_or (roads_in n s) a b d ≡ found_or (roads_in (last_in s (bucket a b) n) s) a b d
        → found_or (roads_in (suc n) s) a b d ≡ found_or (roads_in (cond t (suc n) (last_in s (bucket a b) n)) s) a b d
    by true e rest = refl
    by false e rest = last_passed n s a b d (joins_other _ _ a b (eqb-false (bucket_at s n) (bucket a b) e)) ∙ rest

-- ---- the way through the roads

-- with so many roads left: the first that joins the cells is among them, or else it was met last; by the links the last of those left is one of the cells' remainder
pub record Way (n : ℕ) (s : List ℕ) (a b : ℕ) (linked : Bool) (left : ℕ) (found : Option Road) : Type 0 where
  pub few : left ≤ n
  pub is : road_between (roads_in n s) a b ≡ found_or (roads_in left s) a b found
  pub at_one : linked ≡ true → 0 < left → bucket_at s (left - 1) ≡ bucket a b

module _ (n : ℕ) (s : List ℕ) (a b : ℕ) where
  -- all are left
  pub way_begins : Way n s a b false n None
  way_begins = record { few = omega arith; is = sym (found_is (roads_in n s) a b); at_one = λ e. absurd (cc) }

  -- those of the remainder, where so many are left
  way_at : (m : ℕ) (found : Option Road) → m ≤ n → road_between (roads_in n s) a b ≡ found_or (roads_in m s) a b found
      → Way n s a b true (last_in s (bucket a b) m) found
  way_at m found l e = record {
    few = omega (arith, last_most s (bucket a b) m);
    is = e ∙ found_skip s a b found m;
    at_one = λ _. last_there s (bucket a b) m;
  }

  module _ (linked : Bool) (left : ℕ) (found : Option Road) (w : Way n s a b linked left found) (some_left : 0 < left) where
    -- the road at hand is the last of those left
    at_hand : road_between (roads_in n s) a b ≡ found_or (roads_in (suc (left - 1)) s) a b found
    at_hand = let one : left ≡ suc (left - 1) = omega arith in w.is ∙ ap (λ (m : ℕ). found_or (roads_in m s) a b found) one

    -- it joins the cells, and is taken
    pub here : (t : Bool) → t ≡ joins a b (cells_of (get_or s (4 * (left - 1)) 0) (get_or s (4 * (left - 1) + 1) 0)) → t ≡ true
        → road_between (roads_in n s) a b
        ≡ found_or (roads_in (left - 1) s) a b (Some (record { from = get_or s (4 * (left - 1)) 0; to = get_or s (4 * (left - 1) + 1) 0; length = get_or s (4 * (left - 1) + 2) 0; margin = get_or s (4 * (left - 1) + 3) 0 }))
    here t e q = at_hand ∙ last_here (left - 1) s a b found (sym q ∙ e)

    -- or does not
    pub passed : (t : Bool) → t ≡ joins a b (cells_of (get_or s (4 * (left - 1)) 0) (get_or s (4 * (left - 1) + 1) 0)) → t ≡ false
        → road_between (roads_in n s) a b ≡ found_or (roads_in (left - 1) s) a b found
    passed t e q = at_hand ∙ last_passed (left - 1) s a b found (sym q ∙ e)

    -- so on to the one before it
    pub way_down : (x : Option Road) → road_between (roads_in n s) a b ≡ found_or (roads_in (left - 1) s) a b x → Way n s a b false (left - 1) x
    way_down x e = record { few = omega (arith, w.few); is = e; at_one = λ q. absurd (cc) }

  -- none is left
  pub way_ends : (linked : Bool) (left : ℕ) (found : Option Road) → Way n s a b linked left found → left ≤ 0 → found ≡ road_between (roads_in n s) a b
  unfolding roads_in found_or
  way_ends linked left found w h =
      let none_left : left ≡ 0 = omega arith in
      sym (w.is ∙ ap (λ (m : ℕ). found_or (roads_in m s) a b found) none_left)

  module _ (heads nexts : List ℕ) (k : Indexed n s heads nexts) where
    -- at the last road of the remainder
    pub way_linked : (r : ℕ) → r ≡ bucket a b → r < 1024 → Way n s a b true (get_or heads r 0) None
    way_linked r e l =
        let last : get_or heads r 0 ≡ last_in s (bucket a b) n = k.heads_are r l ∙ ap (λ (m : ℕ). last_in s m n) e in
        subst (λ (m : ℕ). Way n s a b true m None) (sym last) (way_at n None (omega arith) (sym (found_is (roads_in n s) a b)))

    module _ (left : ℕ) (found : Option Road) (w : Way n s a b true left found) (some_left : 0 < left) where
      -- the next, of the roads before the one at hand
      next_is : get_or nexts (left - 1) 0 ≡ last_in s (bucket a b) (left - 1)
      next_is = k.nexts_are (left - 1) (omega (arith, w.few)) ∙ ap (λ (m : ℕ). last_in s m (left - 1)) (w.at_one refl some_left)

      -- fewer are left from there on
      pub way_less : get_or nexts (left - 1) 0 < left
      way_less = omega (arith, next_is, last_most s (bucket a b) (left - 1))

      -- on to the next
      pub way_next : (x : Option Road) → road_between (roads_in n s) a b ≡ found_or (roads_in (left - 1) s) a b x → Way n s a b true (get_or nexts (left - 1) 0) x
      way_next x e = subst (λ (m : ℕ). Way n s a b true m x) (sym next_is) (way_at (left - 1) x (omega (arith, w.few)) e)

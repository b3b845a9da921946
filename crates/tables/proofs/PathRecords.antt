-- A record of the table of paths, case by case, as the code meets them. Assumes nothing.
use Rattle.std.specs.Prelude.{None, Some, Err, Ok, option_map}
use Prim.Native.Nat.{ℕ, zero, suc, ◌+◌, ◌*◌, ◌-◌, ◌≤◌, ◌<◌}
use native.Mathlib.Nat.{zero-mul, suc-mul, one-mul}
use native.Mathlib.Omega.{arith}
use mathlib.Core.Path.{◌≡◌, refl, ap, sym, ◌∙◌, subst}
use mathlib.Core.Logic.{◌⊎◌, inl, inr}
use mathlib.Core.Bool.{Bool, true, false, ◌&&◌}
use mathlib.Core.List.{List, [], ◌∷◌, ◌++◌, map, append-nil, append_assoc}
use lib.Dec.{leb, eqb}
use lib.ListN.{length, take, drop, length-drop}
use lib.Seq.{sets, sets-eq, take_all, drop-length, drop-drop, length-take-le}
use borrow.Author.Tests.{lt-leb, le-leb, eq-eqb, ne_eqb}
use borrow.Rule.Slice.PartMut.{put_mid, Post-is}
use Rattle.words.specs.Words.{written}
use Rattle.rfc4180.specs.Records.{fields}
use Rattle.rfc4180.specs.Answers.{counted}
use Rattle.rfc4180.specs.Number.{numbers, leading, greatest, capped}
use Rattle.rfc4180.proofs.Reading.{all_within, greatest_within, leading_all, capped_small, rest_is, answered_numbers, answered_none}
use Rattle.floor.specs.declared.Reason.{Reason}
use Rattle.floor.specs.declared.Reason.TheVariants.{Layout, Range, Limit}
use Rattle.floor.specs.declared.Table.TheVariants.{Paths}
use Rattle.floor.specs.declared.Refusal.{Refusal}
use Rattle.floor.specs.Refusal.{Judged, ◌>>◌, need, next}
use Rattle.floor.specs.Roads.{cell_range}
use Rattle.floor.specs.Paths.{cells_range, same_width, path}
use Rattle.tables.specs.Arrays.{paths_in}
use Rattle.tables.specs.Reading.{path_taken, PathTaken}
use Rattle.floor.proofs.Judging.{pass, stop, got, lacks, refused_not_accepted, accepted_same}
use Rattle.tables.proofs.Turns.{Says, says_need, says_given}

-- ---- the cases of a record

-- every cell is in its range where the greatest is
cells_within : (cs : List ℕ) → cells_range cs ≡ all_within 65534 cs
unfolding cells_range cell_range
cells_within [] = refl
cells_within (c ∷ cs) = ap (λ (b : Bool). leb c 65534 && b) (cells_within cs)

cells_greatest : (cs : List ℕ) → cells_range cs ≡ leb (greatest cs) 65534
cells_greatest cs = cells_within cs ∙ greatest_within 65534 cs

-- the refusal of the record after those before it
abbrev pub after : List (List ℕ) → Reason → Refusal
after before why = record { reason = why; table = Paths; row = next before }

-- the tests after the layout
abbrev path_tests : List (List ℕ) → List ℕ → Judged (List ℕ)
path_tests before cs = do
  need (cells_range cs) Range Paths (next before)
  need (leb (length cs) 1024 && leb (next before * length cs) 8192) Limit Paths (next before)
  Ok cs

module _ (before : List (List ℕ)) (r : List ℕ) where
  -- a field that is no number
  pub path_malformed : numbers (fields r) ≡ None → path before r ≡ Err (after before Layout)
  unfolding path
  path_malformed e = lacks (numbers (fields r)) Layout Paths (next before) _ e

  module _ (cs : List ℕ) (e : numbers (fields r) ≡ Some cs) where
    -- not as many as the first
    pub path_width : same_width before (length cs) ≡ false → path before r ≡ Err (after before Layout)
    unfolding path
    path_width h = got (numbers (fields r)) Layout Paths (next before) _ cs e ∙ stop (same_width before (length cs)) Layout Paths (next before) _ h

    module _ (wide : same_width before (length cs) ≡ true) where
      -- as many
      path_wide : path before r ≡ path_tests before cs
      unfolding path
      path_wide = got (numbers (fields r)) Layout Paths (next before) _ cs e ∙ pass (same_width before (length cs)) Layout Paths (next before) _ wide

      -- a cell out of its range
      pub path_range : 65534 < greatest cs → path before r ≡ Err (after before Range)
      path_range h = path_wide ∙ stop (cells_range cs) Range Paths (next before) _ (cells_greatest cs ∙ lt-leb _ _ h)

      module _ (small : greatest cs ≤ 65534) where
        path_in_range : path before r ≡ (need (leb (length cs) 1024 && leb (next before * length cs) 8192) Limit Paths (next before) >> Ok cs)
        path_in_range = path_wide ∙ pass (cells_range cs) Range Paths (next before) _ (cells_greatest cs ∙ le-leb _ _ small)

        -- too many steps
        pub path_long : 1024 < length cs → path before r ≡ Err (after before Limit)
        path_long h =
            path_in_range ∙ stop _ Limit Paths (next before) _ (ap (λ (b : Bool). b && leb (next before * length cs) 8192) (lt-leb _ _ h))

        module _ (short : length cs ≤ 1024) where
          limits : (b : Bool) → leb (next before * length cs) 8192 ≡ b → (leb (length cs) 1024 && leb (next before * length cs) 8192) ≡ b
          limits b h = ap (λ (x : Bool). x && leb (next before * length cs) 8192) (le-leb _ _ short) ∙ h

          -- too many cells in all
          pub path_over : 8192 < next before * length cs → path before r ≡ Err (after before Limit)
          path_over h = path_in_range ∙ stop _ Limit Paths (next before) _ (limits false (lt-leb _ _ h))

          -- a path
          pub path_kept : next before * length cs ≤ 8192 → path before r ≡ Ok cs
          path_kept h = path_in_range ∙ pass _ Limit Paths (next before) _ (limits true (le-leb _ _ h))

-- a refusal names the paths and the next record
pub path_says : (before : List (List ℕ)) (r : List ℕ) → Says Paths (next before) (path before r)
unfolding path
path_says before r =
    says_given Paths (next before) (numbers (fields r)) Layout _ λ cs.
    says_need Paths (next before) (same_width before (length cs)) Layout _
    (says_need Paths (next before) (cells_range cs) Range _
    (says_need Paths (next before) (leb (length cs) 1024 && leb (next before * length cs) 8192) Limit _ tt))

-- ---- the paths of an array

-- as many as were asked for
pub paths_in_length : (n w : ℕ) (s : List ℕ) → length (paths_in n w s) ≡ n
unfolding paths_in
paths_in_length zero w s = refl
paths_in_length (suc n) w s = ap suc (paths_in_length n w (drop w s))

-- the first has the width asked for
width_in : (n w m : ℕ) (s : List ℕ) → (n ≡ 0 → ⊥) → n * w ≤ length s → same_width (paths_in n w s) m ≡ eqb w m
unfolding paths_in same_width
width_in zero w m s h l = absurd (h refl)
width_in (suc n) w m s h l =
    let fits : w ≤ length s = omega (arith, suc-mul n w, l) in
    ap (λ (k : ℕ). eqb k m) (length-take-le w s fits)

-- another width
pub not_as_wide : (n w m : ℕ) (s : List ℕ) → (n ≡ 0 → ⊥) → (m ≡ w → ⊥) → n * w ≤ length s → same_width (paths_in n w s) m ≡ false
not_as_wide n w m s h k l = width_in n w m s h l ∙ ne_eqb w m (λ e. k (sym e))

-- the first path, or one as wide as the first
pub as_wide : (n w m : ℕ) (s : List ℕ) → (n ≡ 0) ⊎ (m ≡ w) → n * w ≤ length s → same_width (paths_in n w s) m ≡ true
unfolding paths_in same_width
as_wide zero w m s h l = refl
as_wide (suc n) w m s (inl e) l = absurd (omega (arith, e))
as_wide (suc n) w m s (inr e) l = width_in (suc n) w m s (λ z. omega (arith, z)) l ∙ eq-eqb w m (sym e)

-- the cells with one path more
pub cells_more : (n w m : ℕ) (s : List ℕ) → (n ≡ 0) ⊎ (m ≡ w) → next (paths_in n w s) * m ≡ n * w + m
unfolding next
cells_more n w m s (inl e) = ap (λ (k : ℕ). suc k * m) (paths_in_length n w s ∙ e) ∙ one-mul m ∙ omega (arith, ap (λ (k : ℕ). k * w) e, zero-mul w)
cells_more n w m s (inr e) = ap (λ (k : ℕ). suc k * m) (paths_in_length n w s) ∙ suc-mul n m ∙ ap (λ (k : ℕ). n * k + m) e

-- ---- what is answered, and the array

-- of a record that is refused
pub path_left_refused : (at : ℕ) (s s' : List ℕ) (j : Judged (List ℕ)) (r : Refusal) → j ≡ Err r
    → (Err r.reason ≡ path_taken j) × ((cs : List ℕ) → j ≡ Ok cs → at + length cs ≤ length s → s' ≡ sets s at cs)
unfolding path_taken
path_left_refused at s s' j r e = (sym (ap path_taken e), λ cs f room. absurd (refused_not_accepted r cs (sym e ∙ f)))

-- of one that is taken
pub path_left_kept : (at : ℕ) (s s' cs : List ℕ) (j : Judged (List ℕ)) → j ≡ Ok cs → (at + length cs ≤ length s → s' ≡ sets s at cs)
    → (Ok (length cs) ≡ path_taken j) × ((ds : List ℕ) → j ≡ Ok ds → at + length ds ≤ length s → s' ≡ sets s at ds)
unfolding path_taken
path_left_kept at s s' cs j e put = (sym (ap path_taken e), λ ds f room. let same = accepted_same cs ds (sym e ∙ f) in put (omega (arith, room, ap (length {A = ℕ}) same)) ∙ ap (sets s at) same)

-- numbers that a place of four bytes can hold are held
small_capped : (cs : List ℕ) → greatest cs ≤ 65534 → map capped cs ≡ cs
unfolding greatest
small_capped [] h = refl
small_capped (c ∷ cs) h =
    let one : capped c ≡ c = capped_small c (omega (arith, h)) in
    let more : greatest cs ≤ 65534 = omega (arith, h) in
    ap (λ (k : ℕ). k ∷ map capped cs) one ∙ ap (λ (l : List ℕ). c ∷ l) (small_capped cs more)

-- the numbers of a record, read into the places from `base` on
pub path_put : (s : List ℕ) (base : ℕ) (fs : List (List ℕ)) (cs o : List ℕ) → numbers fs ≡ Some cs → greatest cs ≤ 65534 → base + length cs ≤ length s
    → o ≡ written (take (length (take (length s - base) (drop base s))) (map capped (leading fs))) (take (length s - base) (drop base s))
    → put_mid base (length s - base) s o ≡ sets s base cs
unfolding written
path_put s base fs cs o e small room q =
    let part : List ℕ = take (length s - base) (drop base s) in
    let whole : part ≡ drop base s = rest_is s base in
    let fits : length cs ≤ length part = omega (arith, ap (length {A = ℕ}) whole, length-drop base s) in
    let front : take (length part) (map capped (leading fs)) ≡ cs =
    ap (λ (x : List ℕ). take (length part) (map capped x)) (leading_all fs cs e) ∙ ap (take (length part)) (small_capped cs small) ∙ take_all (length part) cs fits in
    let is : o ≡ cs ++ drop (base + length cs) s =
    q ∙ ap (λ (x : List ℕ). x ++ drop (length x) part) front ∙ ap (λ (x : List ℕ). cs ++ drop (length cs) x) whole ∙ ap (λ (x : List ℕ). cs ++ x) (drop-drop (length cs) base s) in
    ap (λ (x : List ℕ). take base s ++ (o ++ x)) (Post-is base (length s) s (omega arith) ∙ drop-length s)
    ∙ ap (λ (x : List ℕ). take base s ++ x) (append-nil o ∙ is)
    ∙ sym (append_assoc (take base s) cs (drop (base + length cs) s))
    ∙ sym (sets-eq cs s base room)

-- ---- a record after the n paths of w cells each in the front of an array

module _ (n w : ℕ) (s r : List ℕ) (fits : n * w ≤ length s) where
  -- the answer, and what the array is then
  abbrev Left : PathTaken → List ℕ → Type 0
  Left a s' = (a ≡ path_taken (path (paths_in n w s) r)) × ((cs : List ℕ) → path (paths_in n w s) r ≡ Ok cs → n * w + length cs ≤ length s → s' ≡ sets s (n * w) cs)

  -- a field that is no number
  pub take_malformed : None ≡ option_map counted (numbers (fields r)) → (s' : List ℕ) → Left (Err Layout) s'
  take_malformed e s' = path_left_refused (n * w) s s' _ _ (path_malformed (paths_in n w s) r (answered_none _ e))

  module _ (m most : ℕ) (e : Some (record { count = m; greatest = most }) ≡ option_map counted (numbers (fields r))) where
    -- not as many as those before
    pub take_other : (n ≡ 0 → ⊥) → (m ≡ w → ⊥) → (s' : List ℕ) → Left (Err Layout) s'
    take_other some' other s' =
        let (cs, is, count, _) = answered_numbers _ m most e in
        path_left_refused (n * w) s s' _ _ (path_width (paths_in n w s) r cs is (not_as_wide n w (length cs) s some' (λ q. other (count ∙ q)) fits))

    module _ (as_many : (n ≡ 0) ⊎ (m ≡ w)) where
      wide : (cs : List ℕ) → m ≡ length cs → same_width (paths_in n w s) (length cs) ≡ true
      wide cs count = subst (λ (k : ℕ). same_width (paths_in n w s) k ≡ true) count (as_wide n w m s as_many fits)

      all_cells : (cs : List ℕ) → m ≡ length cs → next (paths_in n w s) * length cs ≡ n * w + m
      all_cells cs count = subst (λ (k : ℕ). next (paths_in n w s) * k ≡ n * w + m) count (cells_more n w m s as_many)

      -- a cell out of its range
      pub take_range : 65534 < most → (s' : List ℕ) → Left (Err Range) s'
      take_range h s' =
          let (cs, is, count, top) = answered_numbers _ m most e in
          path_left_refused (n * w) s s' _ _ (path_range (paths_in n w s) r cs is (wide cs count) (omega (arith, h, top)))

      module _ (small : most ≤ 65534) where
        -- too many steps
        pub take_long : 1024 < m → (s' : List ℕ) → Left (Err Limit) s'
        take_long h s' =
            let (cs, is, count, top) = answered_numbers _ m most e in
            path_left_refused (n * w) s s' _ _ (path_long (paths_in n w s) r cs is (wide cs count) (omega (arith, small, top)) (omega (arith, h, count)))

        module _ (short : m ≤ 1024) where
          -- too many cells in all
          pub take_over : 8192 < n * w + m → (s' : List ℕ) → Left (Err Limit) s'
          take_over h s' =
              let (cs, is, count, top) = answered_numbers _ m most e in
              path_left_refused (n * w) s s' _ _
              (path_over (paths_in n w s) r cs is (wide cs count) (omega (arith, small, top)) (omega (arith, short, count)) (omega (arith, h, all_cells cs count)))

          -- a path
          pub take_kept : n * w + m ≤ 8192 → (o : List ℕ)
              → o ≡ written (take (length (take (length s - n * w) (drop (n * w) s))) (map capped (leading (fields r)))) (take (length s - n * w) (drop (n * w) s))
              → Left (Ok m) (put_mid (n * w) (length s - n * w) s o)
          take_kept h o q =
              let (cs, is, count, top) = answered_numbers _ m most e in
              let kept : path (paths_in n w s) r ≡ Ok cs =
              path_kept (paths_in n w s) r cs is (wide cs count) (omega (arith, small, top)) (omega (arith, short, count)) (omega (arith, h, all_cells cs count)) in
              let put : n * w + length cs ≤ length s → put_mid (n * w) (length s - n * w) s o ≡ sets s (n * w) cs =
              λ room. path_put s (n * w) (fields r) cs o is (omega (arith, small, top)) room q in
              subst (λ (k : ℕ). Left (Ok k) (put_mid (n * w) (length s - n * w) s o)) (sym count) (path_left_kept (n * w) s _ cs _ kept put)

-- What a reader that goes from left to right has of a table: its first record and the rest, a record's first field and the rest, by place;
-- and what a reader may do with the numbers and answers it is handed. Assumes nothing.
use Rattle.std.specs.Prelude.{Option, None, Some, option_map}
use Rattle.std.specs.List.{position_or_len, position}
use Rattle.std.specs.Option.{unwrap_or}
use Rattle.std.specs.Prelude.{nat_lt}
use Rattle.std.proofs.lemmas.List.{drop_min}
use Rattle.std.proofs.lemmas.List.Sums.{prefix_len-le-length}
use Prim.Native.Nat.{ℕ, suc, ◌+◌, ◌-◌, ◌≤◌, ◌<◌, min, max}
use native.Mathlib.Nat.{not-suc-le-zero}
use native.Mathlib.Numerals.{add-one}
use native.Mathlib.Omega.{arith}
use mathlib.Core.Path.{◌≡◌, refl, ap, sym, ◌∙◌, subst}
use mathlib.Core.Logic.{◌⊎◌, inl, inr}
use mathlib.Core.Bool.{Bool, true, false, ◌&&◌, not, cond, and-false}
use mathlib.Core.List.{List, [], ◌∷◌, ◌++◌}
use lib.Dec.{T, eqb, leb, eqb→eq}
use lib.ListN.{length, take, drop, get_or, drop_of_length-le, length-drop, length-append}
use lib.Seq.{drop-cons, take_all, take-append_seam, drop-append-add, get_or-drop, drop-drop}
use mir.Facts.{and_yes}
use borrow.Author.Tests.{eq-eqb, ne_eqb, le-leb, lt-leb, leb-true, leb-false}
use Rattle.laws.proofs.Options.{none-ne-some, some-injective}
use Rattle.rfc4180.specs.Records.{push, pieces, records, first_record, widen, fields, field_at}
use Rattle.rfc4180.specs.Number.{number, numbers, greatest, leading, capped}
use Rattle.rfc4180.specs.Answers.{counted}
use Rattle.rfc4180.specs.declared.Numbers.{Numbers}
use Rattle.rfc4180.proofs.Records.{Nonempty, no_end, some_piece, pieces_line, pieces_last, records_line, records_last, records_none}

-- a part that runs to the end
pub rest_is : (t : List ℕ) (a : ℕ) → take (length t - a) (drop a t) ≡ drop a t
rest_is t a = take_all (length t - a) (drop a t) (omega (arith, length-drop a t))

-- ---- records

-- what two tests of one byte and the next say of an end there
abbrev pub ends : ℕ → ℕ → Bool
ends b c = eqb b 13 && eqb c 10

-- a byte in front, for the first piece
push_first : (b : ℕ) (p : List ℕ) (ps : List (List ℕ)) → get_or (push b (p ∷ ps)) 0 [] ≡ cond (ends b (get_or p 0 0)) [] (b ∷ p)
unfolding push
push_first b [] ps = rw (and-false (eqb b 13)) refl
push_first b (c ∷ p) ps = by (ends b c)
  where
    by : (t : Bool) → get_or (cond t ([] ∷ p ∷ ps) ((b ∷ c ∷ p) ∷ ps)) 0 [] ≡ cond t [] (b ∷ c ∷ p)
    by true = refl
    by false = refl

-- LF begins the first piece where it begins the text
piece_lf : (b : ℕ) (p : List ℕ) (t : Bool) → ends b (get_or p 0 0) ≡ t → eqb (get_or (cond t [] (b ∷ p)) 0 0) 10 ≡ eqb b 10
piece_lf b p true e = sym (ne_eqb b 10 (λ q. omega (arith, q, eqb→eq b 13 (and_yes (eqb b 13) (eqb (get_or p 0 0) 10) (rw e tt)).0)))
piece_lf b p false e = refl

first_lf : (t : List ℕ) → eqb (get_or (first_record t) 0 0) 10 ≡ eqb (get_or t 0 0) 10
unfolding pieces first_record
first_lf [] = refl
first_lf (b ∷ t) =
    let (p, ps, e) = some_piece t in
    ap (λ (x : List (List ℕ)). eqb (get_or {A = ℕ} (get_or (push b x) 0 []) 0 0) 10) e
    ∙ ap (λ (x : List ℕ). eqb (get_or x 0 0) 10) (push_first b p ps) ∙ piece_lf b p (ends b (get_or p 0 0)) refl

first_pushed : (b : ℕ) (t : List ℕ) → first_record (b ∷ t) ≡ cond (ends b (get_or (first_record t) 0 0)) [] (b ∷ first_record t)
unfolding pieces first_record
first_pushed b t =
    let (p, ps, e) = some_piece t in
    ap (λ (x : List (List ℕ)). get_or (push b x) 0 []) e ∙ push_first b p ps
    ∙ ap (λ (x : List (List ℕ)). cond (ends b (get_or {A = ℕ} (get_or x 0 []) 0 0)) [] (b ∷ get_or x 0 [])) (sym e)

-- the first record ends here, or has this byte
pub first_step : (b : ℕ) (t : List ℕ) → first_record (b ∷ t) ≡ cond (ends b (get_or t 0 0)) [] (b ∷ first_record t)
first_step b t = first_pushed b t ∙ ap (λ (x : Bool). cond (eqb b 13 && x) [] (b ∷ first_record t)) (first_lf t)

-- no bytes, no record
pub first_none : first_record [] ≡ []
unfolding pieces first_record
first_none = refl

-- the same at a place of a table
module _ (s : List ℕ) (i : ℕ) where
  first_here : i < length s → first_record (drop i s) ≡ cond (ends (get_or s i 0) (get_or s (i + 1) 0)) [] (get_or s i 0 ∷ first_record (drop (i + 1) s))
  first_here h =
      let n : get_or (drop (suc i) s) 0 0 ≡ get_or s (i + 1) 0 = get_or-drop (suc i) s 0 0 ∙ ap (λ (j : ℕ). get_or s j 0) (omega arith) in
      ap first_record (drop-cons s i 0 h) ∙ first_step (get_or s i 0) (drop (suc i) s)
      ∙ ap (λ (x : ℕ). cond (ends (get_or s i 0) x) [] (get_or s i 0 ∷ first_record (drop (suc i) s))) n
      ∙ ap (λ (j : ℕ). cond (ends (get_or s i 0) (get_or s (i + 1) 0)) [] (get_or s i 0 ∷ first_record (drop j s))) (sym (add-one i))

  -- a CR LF here ends it
  first_ends : i < length s → get_or s i 0 ≡ 13 → get_or s (i + 1) 0 ≡ 10 → length (first_record (drop i s)) ≡ 0
  first_ends h r l = ap (length {A = ℕ}) (first_here h) ∙ simp (eq-eqb _ _ r, eq-eqb _ _ l)

  -- any other byte belongs to it
  first_goes_on : i < length s → (get_or s i 0 ≡ 13 → get_or s (i + 1) 0 ≡ 10 → ⊥) → length (first_record (drop i s)) ≡ length (first_record (drop (i + 1) s)) + 1
  first_goes_on h n = ap (length {A = ℕ}) (first_here h) ∙ by (ends (get_or s i 0) (get_or s (i + 1) 0)) refl
    where
      by : (t : Bool) → ends (get_or s i 0) (get_or s (i + 1) 0) ≡ t → length (cond t [] (get_or s i 0 ∷ first_record (drop (i + 1) s))) ≡ length (first_record (drop (i + 1) s)) + 1
      by true e =
          let both = and_yes (eqb (get_or s i 0) 13) (eqb (get_or s (i + 1) 0) 10) (rw e tt) in
          absurd (n (eqb→eq _ _ both.0) (eqb→eq _ _ both.1))
      by false e = omega arith

  -- the table's end ends it
  first_over : length s ≤ i → length (first_record (drop i s)) ≡ 0
  first_over h = ap (λ (x : List ℕ). length (first_record x)) (drop_of_length-le s h) ∙ ap (length {A = ℕ}) first_none

  -- there is no byte past the end, so no LF
  no_lf_past : length s ≤ i → get_or s i 0 ≡ 10 → ⊥
  no_lf_past h e =
      let z : get_or s i 0 ≡ 0 = ap (λ (j : ℕ). get_or s j 0) (omega arith) ∙ sym (get_or-drop i s 0 0) ∙ ap (λ (x : List ℕ). get_or x 0 0) (drop_of_length-le s h) in
      omega (arith, e, z)

-- a table has one record without an end, or a first record, its end and a rest
abbrev Whole : List ℕ → Type 0
Whole t = T (no_end t) × (first_record t ≡ t)

abbrev Ended : List ℕ → Type 0
Ended t = (r : List ℕ) × (rest : List ℕ) × T (no_end r) × (t ≡ r ++ (13 ∷ 10 ∷ rest)) × (first_record t ≡ r)

whole : (t : List ℕ) → T (no_end t) → Whole t
unfolding first_record
whole t n = (n, ap (λ (x : List (List ℕ)). get_or x 0 []) (pieces_last t n))

ended : (r rest : List ℕ) → T (no_end r) → Ended (r ++ (13 ∷ 10 ∷ rest))
unfolding first_record
ended r rest n = (r, rest, n, refl, ap (λ (x : List (List ℕ)). get_or x 0 []) (pieces_line r rest n))

-- a byte in front
fronted : (b c : ℕ) (u : List ℕ) (t : Bool) → ends b c ≡ t → Whole (c ∷ u) ⊎ Ended (c ∷ u) → Whole (b ∷ c ∷ u) ⊎ Ended (b ∷ c ∷ u)
fronted b c u true e h =
    let both = and_yes (eqb b 13) (eqb c 10) (rw e tt) in
    inr (subst (λ (x : ℕ). Ended (x ∷ c ∷ u)) (sym (eqb→eq b 13 both.0)) (subst (λ (x : ℕ). Ended (13 ∷ x ∷ u)) (sym (eqb→eq c 10 both.1)) (ended [] u tt)))
fronted b c u false e (inl w) = inl (whole (b ∷ c ∷ u) (rw e w.0))
fronted b c u false e (inr (r, rest, n, q, f)) = inr (subst (λ (x : List ℕ). Ended (b ∷ x)) (sym q) (ended (b ∷ r) rest (longer r n q)))
  where
    longer : (r : List ℕ) → T (no_end r) → c ∷ u ≡ r ++ (13 ∷ 10 ∷ rest) → T (no_end (b ∷ r))
    longer [] n q = tt
    longer (d ∷ r) n q =
        let same : c ≡ d = ap (λ (x : List ℕ). get_or x 0 0) q in
        subst (λ (x : ℕ). T (not (ends b x) && no_end (d ∷ r))) same (rw e n)

first_split : (t : List ℕ) → Whole t ⊎ Ended t
first_split [] = inl (whole [] tt)
first_split (b ∷ []) = inl (whole (b ∷ []) tt)
first_split (b ∷ c ∷ u) = fronted b c u (ends b c) refl (first_split (c ∷ u))

-- the first record is a part of the table
pub first_record_fits : (t : List ℕ) → length (first_record t) ≤ length t
first_record_fits t = by (first_split t)
  where
    by : Whole t ⊎ Ended t → length (first_record t) ≤ length t
    by (inl (n, f)) = omega (arith, ap (length {A = ℕ}) f)
    by (inr (r, rest, n, q, f)) = omega (arith, ap (length {A = ℕ}) f, ap (length {A = ℕ}) q, length-append r (13 ∷ 10 ∷ rest))

-- and begins it
pub first_record_front : (t : List ℕ) → take (length (first_record t)) t ≡ first_record t
first_record_front t = by (first_split t)
  where
    by : Whole t ⊎ Ended t → take (length (first_record t)) t ≡ first_record t
    by (inl (n, f)) = take_all (length (first_record t)) t (omega (arith, ap (length {A = ℕ}) f)) ∙ sym f
    by (inr (r, rest, n, q, f)) =
        ap (λ (x : List ℕ). take (length x) t) f ∙ ap (take (length r)) q ∙ take-append_seam r (13 ∷ 10 ∷ rest) ∙ sym f

-- the first record and those of the rest
pub records_first : (t : List ℕ) → 0 < length t → records t ≡ first_record t ∷ records (drop (length (first_record t) + 2) t)
records_first [] h = absurd (not-suc-le-zero h)
records_first (b ∷ u) h = by (first_split (b ∷ u))
  where
    by : Whole (b ∷ u) ⊎ Ended (b ∷ u) → records (b ∷ u) ≡ first_record (b ∷ u) ∷ records (drop (length (first_record (b ∷ u)) + 2) (b ∷ u))
    by (inl (n, f)) =
        let past : drop (length (b ∷ u) + 2) (b ∷ u) ≡ [] = drop_of_length-le (b ∷ u) {i = length (b ∷ u) + 2} (omega arith) in
        rw f (records_last b u n ∙ ap (λ (x : List (List ℕ)). (b ∷ u) ∷ x) (sym (ap records past ∙ records_none)))
    by (inr (r, rest, n, q, f)) =
        let past : drop (length r + 2) (b ∷ u) ≡ rest = ap (drop (length r + 2)) q ∙ drop-append-add r (13 ∷ 10 ∷ rest) 2 in
        rw f (ap records q ∙ records_line r rest n ∙ ap (λ (x : List ℕ). r ∷ records x) (sym past))

-- the same, seen from the byte before place i
module _ (s : List ℕ) (i : ℕ) (one : 1 ≤ i) where
  here : get_or s (i - 1 + 1) 0 ≡ get_or s i 0
  here = ap (λ (j : ℕ). get_or s j 0) (omega (arith, one))

  -- a CR LF ends the record
  pub first_ends_before : i < length s → get_or s (i - 1) 0 ≡ 13 → get_or s i 0 ≡ 10 → length (first_record (drop (i - 1) s)) ≡ 0
  first_ends_before h r l = first_ends s (i - 1) (omega (arith, h)) r (here ∙ l)

  -- any other byte belongs to it
  pub first_goes_on_before : i < length s → (get_or s (i - 1) 0 ≡ 13 → get_or s i 0 ≡ 10 → ⊥)
      → length (first_record (drop (i - 1) s)) ≡ length (first_record (drop (i + 1 - 1) s)) + 1
  first_goes_on_before h n =
      first_goes_on s (i - 1) (omega (arith, h)) (λ r l. n r (sym here ∙ l))
      ∙ ap (λ (j : ℕ). length (first_record (drop j s)) + 1) (omega (arith, one))

  -- and so does the last byte
  pub first_all : length s ≤ i → (1 ≤ length s → i ≤ length s) → length (first_record s) ≡ i - 1 + length (first_record (drop (i - 1) s)) → length s ≡ length (first_record s)
  first_all past most e = by (leb 1 (length s)) refl
    where
      by : (t : Bool) → leb 1 (length s) ≡ t → length s ≡ length (first_record s)
      by true q =
          let some : 1 ≤ length s = leb-true 1 (length s) q in
          let last = first_goes_on s (i - 1) (omega (arith, some, most some, one)) (λ r l. no_lf_past s (i - 1 + 1) (omega (arith, past, one)) l) in
          omega (arith, e, last, first_over s (i - 1 + 1) (omega (arith, past, one)), past, most some)
      by false q = let none : length s < 1 = leb-false 1 (length s) q in omega (arith, none, first_record_fits s)

-- where there is nothing, there is no record
pub records_over : (t : List ℕ) → length t ≡ 0 → records t ≡ []
records_over [] h = records_none
records_over (b ∷ t) h = absurd (omega (arith, h))

-- the first record, and those behind it: its end is passed over, as far as there is one
pub records_behind : (t r : List ℕ) (k : ℕ) → 0 < length t → r ≡ first_record t → k ≡ min (length r + 2) (length t) → records t ≡ r ∷ records (take (length t - k) (drop k t))
records_behind t r k h e m = rw (rest_is t k, m, drop_min (length r + 2) t, e) (records_first t h)

-- ---- fields

-- there is always a field
pub some_field : (r : List ℕ) → Nonempty (fields r)
unfolding fields widen
some_field [] = ([], [], refl)
some_field (b ∷ r) = by (eqb b 44) (some_field r)
  where
    by : (t : Bool) → Nonempty (fields r) → Nonempty (cond t ([] ∷ fields r) (widen b (fields r)))
    by true (f, fs, e) = ([], fields r, refl)
    by false (f, fs, e) = (b ∷ f, fs, ap (widen b) e)

-- the first field ends at a comma, or has this byte
field_step : (b : ℕ) (r : List ℕ) → field_at (b ∷ r) 0 ≡ cond (eqb b 44) [] (b ∷ field_at r 0)
unfolding fields widen field_at
field_step b r = by (eqb b 44) (some_field r)
  where
    by : (t : Bool) → Nonempty (fields r) → get_or (cond t ([] ∷ fields r) (widen b (fields r))) 0 [] ≡ cond t [] (b ∷ get_or (fields r) 0 [])
    by true h = refl
    by false (f, fs, e) = rw e refl

-- a field is the first of what begins at its place
pub field_of : (r : List ℕ) (i : ℕ) → field_at r i ≡ field_at (drop i r) 0
unfolding field_at
field_of r i = refl

-- past the end it is empty
field_none : field_at [] 0 ≡ []
unfolding fields field_at
field_none = refl

-- the first field is a part of the record
field_length : (r : List ℕ) → length (field_at r 0) ≤ length r
field_length [] = omega (arith, ap (length {A = ℕ}) field_none)
field_length (b ∷ r) = by (eqb b 44) (field_step b r) (field_length r)
  where
    by : (t : Bool) → field_at (b ∷ r) 0 ≡ cond t [] (b ∷ field_at r 0) → length (field_at r 0) ≤ length r → length (field_at (b ∷ r) 0) ≤ suc (length r)
    by true e h = rw e (omega arith)
    by false e h = rw e (omega arith)

-- and begins it
field_front : (r : List ℕ) → take (length (field_at r 0)) r ≡ field_at r 0
field_front [] = rw field_none refl
field_front (b ∷ r) = by (eqb b 44) (field_step b r) (field_front r)
  where
    by : (t : Bool) → field_at (b ∷ r) 0 ≡ cond t [] (b ∷ field_at r 0) → take (length (field_at r 0)) r ≡ field_at r 0 → take (length (field_at (b ∷ r) 0)) (b ∷ r) ≡ field_at (b ∷ r) 0
    by true e h = rw e refl
    by false e h = rw e (ap (λ (x : List ℕ). b ∷ x) h)

-- it ends at the first comma, or with the record
pub field_length_is : (r : List ℕ) → length (field_at r 0) ≡ position_or_len (λ b. eqb b 44) r
field_length_is [] = ap (length {A = ℕ}) field_none
field_length_is (b ∷ r) = ap (length {A = ℕ}) (field_step b r) ∙ by (eqb b 44) (field_length_is r)
  where
    by : (t : Bool) → length (field_at r 0) ≡ position_or_len (λ b. eqb b 44) r
        → length (cond t [] (b ∷ field_at r 0)) ≡ cond (not t) (1 + position_or_len (λ b. eqb b 44) r) 0
    by true e = refl
    by false e = omega (arith, e)

-- the first place that passes, or the length
pub or_length : {X : Type 0} (p : X → Bool) (xs : List X) → unwrap_or (position p xs) (length xs) ≡ position_or_len p xs
or_length p xs = by (nat_lt (position_or_len p xs) (length xs)) refl
  where
    by : (t : Bool) → nat_lt (position_or_len p xs) (length xs) ≡ t → unwrap_or (cond t (Some (position_or_len p xs)) None) (length xs) ≡ position_or_len p xs
    by true e = refl
    by false e = omega (arith, leb-false _ _ e, prefix_len-le-length (λ x. not (p x)) xs)

fields_step : (b : ℕ) (r : List ℕ) → fields (b ∷ r) ≡ cond (eqb b 44) ([] ∷ fields r) (widen b (fields r))
unfolding fields
fields_step b r = refl

widened : (b : ℕ) (f : List ℕ) (fs : List (List ℕ)) → widen b (f ∷ fs) ≡ (b ∷ f) ∷ fs
unfolding widen
widened b f fs = refl

-- a field that ends before the record does has a comma and more fields after it
pub fields_more : (r : List ℕ) → length (field_at r 0) < length r → fields r ≡ field_at r 0 ∷ fields (drop (length (field_at r 0) + 1) r)
fields_more [] h = absurd (not-suc-le-zero h)
fields_more (b ∷ r) h = by (eqb b 44) (field_step b r) (fields_step b r) (fields_more r) h
  where
    by : (t : Bool) → field_at (b ∷ r) 0 ≡ cond t [] (b ∷ field_at r 0) → fields (b ∷ r) ≡ cond t ([] ∷ fields r) (widen b (fields r))
        → (length (field_at r 0) < length r → fields r ≡ field_at r 0 ∷ fields (drop (length (field_at r 0) + 1) r))
        → length (field_at (b ∷ r) 0) < suc (length r) → fields (b ∷ r) ≡ field_at (b ∷ r) 0 ∷ fields (drop (length (field_at (b ∷ r) 0) + 1) (b ∷ r))
    by true e f more h = rw e f
    by false e f more h =
        let k : length (field_at r 0) < length r = omega (arith, ap (length {A = ℕ}) e) in
        let n : length (b ∷ field_at r 0) + 1 ≡ suc (length (field_at r 0) + 1) = omega arith in
        rw e (f ∙ ap (widen b) (more k) ∙ widened b _ _ ∙ ap (λ (j : ℕ). (b ∷ field_at r 0) ∷ fields (drop j (b ∷ r))) (sym n))

-- any other is the last
pub fields_end : (r : List ℕ) → length r ≤ length (field_at r 0) → fields r ≡ field_at r 0 ∷ []
unfolding fields field_at
fields_end [] h = refl
fields_end (b ∷ r) h = by (eqb b 44) (field_step b r) (fields_step b r) (fields_end r) h
  where
    by : (t : Bool) → field_at (b ∷ r) 0 ≡ cond t [] (b ∷ field_at r 0) → fields (b ∷ r) ≡ cond t ([] ∷ fields r) (widen b (fields r))
        → (length r ≤ length (field_at r 0) → fields r ≡ field_at r 0 ∷ [])
        → suc (length r) ≤ length (field_at (b ∷ r) 0) → fields (b ∷ r) ≡ field_at (b ∷ r) 0 ∷ []
    by true e f more h = let z : 1 ≤ 0 = omega (arith, ap (length {A = ℕ}) e) in absurd (not-suc-le-zero z)
    by false e f more h =
        let k : length r ≤ length (field_at r 0) = omega (arith, ap (length {A = ℕ}) e) in
        f ∙ ap (widen b) (more k) ∙ widened b _ _ ∙ ap (λ (x : List ℕ). x ∷ []) (sym e)

-- the same at a place of a record
module _ (r : List ℕ) (i : ℕ) where
  -- the record's end ends it
  pub field_over : length r ≤ i → field_at r i ≡ []
  field_over h = field_of r i ∙ ap (λ (x : List ℕ). field_at x 0) (drop_of_length-le r h) ∙ field_none

  -- it is what stands there
  pub field_part : take (length (field_at r i)) (drop i r) ≡ field_at r i
  field_part = rw (field_of r i) (field_front (drop i r))

  -- it and the fields after its comma
  pub fields_more_at : i + length (field_at r i) < length r → fields (drop i r) ≡ field_at r i ∷ fields (drop (i + length (field_at r i) + 1) r)
  fields_more_at h =
      let e = field_of r i in
      let k : length (field_at (drop i r) 0) < length (drop i r) = omega (arith, ap (length {A = ℕ}) e, length-drop i r) in
      let n : i + (length (field_at (drop i r) 0) + 1) ≡ i + length (field_at r i) + 1 = omega (arith, ap (length {A = ℕ}) e) in
      fields_more (drop i r) k
      ∙ ap (λ (x : List ℕ). field_at (drop i r) 0 ∷ fields x) (drop-drop (length (field_at (drop i r) 0) + 1) i r ∙ ap (λ (j : ℕ). drop j r) n)
      ∙ ap (λ (x : List ℕ). x ∷ fields (drop (i + length (field_at r i) + 1) r)) (sym e)

  -- or it alone
  pub fields_end_at : length r ≤ i + length (field_at r i) → fields (drop i r) ≡ field_at r i ∷ []
  fields_end_at h =
      let e = field_of r i in
      let k : length (drop i r) ≤ length (field_at (drop i r) 0) = omega (arith, ap (length {A = ℕ}) e, length-drop i r) in
      fields_end (drop i r) k ∙ ap (λ (x : List ℕ). x ∷ []) (sym e)

  -- in either case it is the first
  pub fields_begin : (fs : List (List ℕ)) × (fields (drop i r) ≡ field_at r i ∷ fs)
  unfolding field_at
  fields_begin = let (f, fs, e) = some_field (drop i r) in (fs, e ∙ ap (λ (x : List (List ℕ)). get_or x 0 [] ∷ fs) (sym e))

-- ---- numbers

-- whether all are at most k
abbrev pub all_within : ℕ → List ℕ → Bool
all_within k [] = true
all_within k (n ∷ ns) = leb n k && all_within k ns

-- of two numbers both are at most k where the greater is
max_within : (m n k : ℕ) → (leb m k && leb n k) ≡ leb (max m n) k
max_within m n k = by (leb m k) (leb n k) refl refl
  where
    by : (t u : Bool) → leb m k ≡ t → leb n k ≡ u → (t && u) ≡ leb (max m n) k
    by true true e f =
        let h : max m n ≤ k = omega (arith, leb-true m k e, leb-true n k f) in
        sym (le-leb _ _ h)
    by true false e f =
        let h : k < max m n = omega (arith, leb-false n k f) in
        sym (lt-leb _ _ h)
    by false u e f =
        let h : k < max m n = omega (arith, leb-false m k e) in
        sym (lt-leb _ _ h)

-- all are, where the greatest is
pub greatest_within : (k : ℕ) (ns : List ℕ) → all_within k ns ≡ leb (greatest ns) k
unfolding greatest
greatest_within k [] = sym (le-leb 0 k (omega arith))
greatest_within k (n ∷ ns) = ap (λ (t : Bool). leb n k && t) (greatest_within k ns) ∙ max_within n (greatest ns) k

-- where all fields are numbers, those before the first that is none are all
pub leading_all : (fs : List (List ℕ)) (ns : List ℕ) → numbers fs ≡ Some ns → leading fs ≡ ns
unfolding numbers leading
leading_all [] ns e = some-injective _ _ e
leading_all (f ∷ fs) ns e = by (number f) (numbers fs) refl (leading_all fs) e
  where
    by : (o : Option ℕ) (os : Option (List ℕ)) → numbers fs ≡ os → ((ms : List ℕ) → numbers fs ≡ Some ms → leading fs ≡ ms)
        → elim o [ None ↦ None | Some n ↦ elim os [ None ↦ None | Some ms ↦ Some (n ∷ ms) ] ] ≡ Some ns
        → elim o [ None ↦ [] | Some n ↦ n ∷ leading fs ] ≡ ns
    by None os q more e = absurd (none-ne-some _ e)
    by (Some n) None q more e = absurd (none-ne-some _ e)
    by (Some n) (Some ms) q more e = ap (λ (x : List ℕ). n ∷ x) (more ms q) ∙ some-injective _ _ e

-- a number that a place of four bytes can hold is held
pub capped_small : (n : ℕ) → n ≤ 4_294_967_295 → capped n ≡ n
unfolding capped
capped_small n h = omega arith

-- ---- what a record answers

-- a record that says so many numbers has them, and this is their greatest
pub answered_numbers : (o : Option (List ℕ)) (n m : ℕ) → Some (record { count = n; greatest = m }) ≡ option_map counted o
    → (ns : List ℕ) × (o ≡ Some ns) × (n ≡ length ns) × (m ≡ greatest ns)
unfolding counted
answered_numbers None n m e = absurd (none-ne-some _ (sym e))
answered_numbers (Some ns) n m e =
    let q = some-injective _ _ e in
    (ns, refl, ap (λ (x : Numbers). x.count) q, ap (λ (x : Numbers). x.greatest) q)

-- one that says none has a field that is none
pub answered_none : (o : Option (List ℕ)) → None ≡ option_map counted o → o ≡ None
answered_none None e = refl
answered_none (Some ns) e = absurd (none-ne-some _ e)

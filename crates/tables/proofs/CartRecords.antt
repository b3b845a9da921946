-- A record of the table of carts, case by case, as the code meets them. Assumes nothing.
use Rattle.std.specs.Prelude.{unwrap_or, Option, None, Some, Err, Ok}
use Prim.Native.Nat.{ℕ, zero, suc, ◌+◌, ◌*◌, ◌-◌, ◌≤◌, ◌<◌}
use native.Mathlib.Numerals.{add-one}
use native.Mathlib.Omega.{arith}
use mathlib.Core.Path.{◌≡◌, refl, ap, ap₂, sym, ◌∙◌, subst}
use mathlib.Core.Bool.{Bool, true, false, ◌&&◌, not, cond}
use mathlib.Core.List.{List, [], ◌∷◌, ◌++◌, flat_map, Memᴰ}
use mir.Facts.{and_yes}
use lib.Dec.{T, leb, eqb, leb→le}
use lib.ListN.{length, drop, get_or, set, replicate}
use lib.Seq.{sets}
use borrow.Author.Tests.{lt-leb, le-leb, ne_eqb, not-true, not-false}
use Rattle.words.specs.Words.{padded}
use Rattle.rfc4180.specs.Text.{bytes}
use Rattle.rfc4180.specs.Records.{records, fields, field_at}
use Rattle.rfc4180.specs.Number.{number}
use Rattle.rfc4180.proofs.Reading.{some_field, fields_more, fields_end, fields_more_at, fields_end_at}
use Rattle.floor.specs.declared.Reason.{Reason}
use Rattle.floor.specs.declared.Reason.TheVariants.{Layout, Range, Limit, NoCarts}
use Rattle.floor.specs.declared.Table.TheVariants.{Carts}
use Rattle.floor.specs.declared.Refusal.{Refusal}
use Rattle.floor.specs.Refusal.{Judged, ◌>>=◌, ◌>>◌, need, given, within_bytes, after_first_line, next, records_in_order}
use Rattle.floor.specs.declared.Cart.{Cart}
use Rattle.floor.specs.Carts.{number_or_empty, fastest_range, slowest_range, cart, read_carts}
use Rattle.tables.specs.Arrays.{cart_numbers, carts_in}
use Rattle.tables.specs.Reading.{said, counted, speeds, speeds_of, Count, BeginsWith}
use Rattle.floor.proofs.Judging.{pass, stop, goes_on, ends, then_accepted, and_given_accepted, accepted_same}
use Rattle.floor.proofs.Accepted.{SoundCart, cart_sound}
use Rattle.tables.proofs.FirstLine.{at_none, bytes_over, bytes_within, line_other, line_there, counted_read, counted_refused}
use Rattle.tables.proofs.Turns.{Says, says_need, says_given, said_refused, said_taken, accepted_there, flat_length, Turn, Ends, refused_ends, refused_turn, refused_number, taken_turn}

-- ---- the speeds of a record

module _ (r f : List ℕ) (first : f ≡ field_at r 0) where
  -- no comma
  pub speeds_one : length r ≤ length f → None ≡ speeds_of (fields r)
  unfolding speeds_of
  speeds_one h = sym (ap speeds_of (fields_end r (omega (arith, h, ap (length {A = ℕ}) first))))

  module _ (s : List ℕ) (second : s ≡ field_at r (length f + 1)) (more : length f < length r) where
    after_first : fields r ≡ f ∷ fields (drop (length f + 1) r)
    after_first =
        fields_more r (omega (arith, more, ap (length {A = ℕ}) first)) ∙ ap (λ (x : List ℕ). x ∷ fields (drop (length x + 1) r)) (sym first)

    -- a second comma
    pub speeds_many : length f + 1 + length s < length r → None ≡ speeds_of (fields r)
    unfolding speeds_of
    speeds_many h =
        let i : ℕ = length f + 1 in
        let (g, gs, e) = some_field (drop (i + length (field_at r i) + 1) r) in
        let three : fields r ≡ f ∷ field_at r i ∷ g ∷ gs =
        after_first
        ∙ ap (λ (x : List (List ℕ)). f ∷ x) (fields_more_at r i (omega (arith, h, ap (length {A = ℕ}) second)) ∙ ap (λ (x : List (List ℕ)). field_at r i ∷ x) e) in
        sym (ap speeds_of three ∙ ap (λ (b : Bool). cond b (speeds (number f) (number_or_empty (field_at r i))) None) (ne_eqb (suc (suc (suc (length gs)))) 2 (λ q. omega (arith, q))))

    module _ (two : length r ≤ length f + 1 + length s) where
      speeds_two : speeds_of (fields r) ≡ speeds (number f) (number_or_empty s)
      unfolding speeds_of
      speeds_two =
          let i : ℕ = length f + 1 in
          ap speeds_of (after_first ∙ ap (λ (x : List (List ℕ)). f ∷ x) (fields_end_at r i (omega (arith, two, ap (length {A = ℕ}) second)) ∙ ap (λ (x : List ℕ). x ∷ []) (sym second)))

      -- the first is no number
      pub speeds_none : None ≡ number f → None ≡ speeds_of (fields r)
      unfolding speeds
      speeds_none e = sym (speeds_two ∙ ap (λ (o : Option ℕ). speeds o (number_or_empty s)) (sym e))

      module _ (fastest : ℕ) (value : Some fastest ≡ number f) where
        with_first : speeds_of (fields r) ≡ speeds (Some fastest) (number_or_empty s)
        with_first = speeds_two ∙ ap (λ (o : Option ℕ). speeds o (number_or_empty s)) (sym value)

        -- the second is empty
        pub speeds_alone : length s ≡ 0 → Some (record { fastest = fastest; slowest = None }) ≡ speeds_of (fields r)
        unfolding speeds number_or_empty
        speeds_alone h = sym (with_first ∙ by s h)
          where
            by : (x : List ℕ) → length x ≡ 0 → speeds (Some fastest) (number_or_empty x) ≡ Some (record { fastest = fastest; slowest = None })
            by [] h = refl
            by (b ∷ x) h = absurd (omega (arith, h))

        module _ (there : length s ≡ 0 → ⊥) where
          with_second : number_or_empty s ≡ elim (number s) [ None ↦ None | Some n ↦ Some (Some n) ]
          unfolding number_or_empty
          with_second = by s there
            where
              by : (x : List ℕ) → (length x ≡ 0 → ⊥) → number_or_empty x ≡ elim (number x) [ None ↦ None | Some n ↦ Some (Some n) ]
              by [] h = absurd (h refl)
              by (b ∷ x) h = refl

          second_is : (o : Option ℕ) → number s ≡ o → speeds_of (fields r) ≡ speeds (Some fastest) (elim o [ None ↦ None | Some n ↦ Some (Some n) ])
          second_is o e =
              with_first
              ∙ ap (speeds (Some fastest)) (with_second ∙ ap (λ (x : Option ℕ). elim x as (λ _. Option (Option ℕ)) [ None ↦ None | Some n ↦ Some (Some n) ]) e)

          -- the second is no number
          pub speeds_half : None ≡ number s → None ≡ speeds_of (fields r)
          unfolding speeds
          speeds_half e = sym (second_is None (sym e))

          -- two numbers
          pub speeds_both : (slowest : ℕ) → Some slowest ≡ number s → Some (record { fastest = fastest; slowest = Some slowest }) ≡ speeds_of (fields r)
          unfolding speeds
          speeds_both slowest e = sym (second_is (Some slowest) (sym e))

-- ---- a record judged

-- the tests after the layout
abbrev cart_tests : ℕ → Cart → Judged Cart
cart_tests i c =
    need (fastest_range c.fastest && slowest_range c.fastest c.slowest) Range Carts i >> (need (leb i 64) Limit Carts i >> Ok c)

-- what is said of a record with these speeds
abbrev cart_of : ℕ → Option Cart → Judged Cart
cart_of i None = Err (record { reason = Layout; table = Carts; row = i })
cart_of i (Some c) = cart_tests i c

cart_is : (before : List Cart) (r : List ℕ) → cart before r ≡ cart_of (next before) (speeds_of (fields r))
unfolding cart speeds_of speeds need given ◌>>=◌
cart_is before r = by (eqb (length (fields r)) 2) (number (get_or (fields r) 0 [])) (number_or_empty (get_or (fields r) 1 []))
  where
    by : (b : Bool) (f : Option ℕ) (s : Option (Option ℕ))
        → (need b Layout Carts (next before) >>= λ _. (given f Layout Carts (next before) >>= λ x. (given s Layout Carts (next before) >>= λ y. cart_tests (next before) (record { fastest = x; slowest = y }))))
        ≡ cart_of (next before) (cond b (speeds f s) None)
    by false f s = refl
    by true None s = refl
    by true (Some f) None = refl
    by true (Some f) (Some s) = refl

-- as many as were asked for
pub carts_in_length : (n : ℕ) (s : List ℕ) → length (carts_in n s) ≡ n
unfolding carts_in
carts_in_length zero s = refl
carts_in_length (suc n) s = ap suc (carts_in_length n (drop 2 s))

-- a refusal names the carts and the next record
pub cart_says : (before : List Cart) (r : List ℕ) → Says Carts (next before) (cart before r)
unfolding cart
cart_says before r =
    says_need Carts (next before) (eqb (length (fields r)) 2) Layout _
    (says_given Carts (next before) (number (get_or (fields r) 0 [])) Layout _ λ f.
    says_given Carts (next before) (number_or_empty (get_or (fields r) 1 [])) Layout _ λ s.
    says_need Carts (next before) (fastest_range f && slowest_range f s) Range _ (says_need Carts (next before) (leb (next before) 64) Limit _ tt))

-- a cart's numbers are two
pub cart_two_numbers : (c : Cart) → length (cart_numbers c) ≡ 2
unfolding cart_numbers
cart_two_numbers c = refl

-- ---- a record taken or not

-- speeds in their ranges are numbers of four bytes
speeds_small : (c : Cart) → T (fastest_range c.fastest && slowest_range c.fastest c.slowest) → (c.fastest ≤ 20_000_000) × (unwrap_or c.slowest 0 ≤ 20_000_000)
unfolding fastest_range slowest_range
speeds_small c t =
    let both = and_yes (fastest_range c.fastest) (slowest_range c.fastest c.slowest) t in
    let f : c.fastest ≤ 20_000_000 = leb→le c.fastest 20_000_000 (and_yes (leb 1000 c.fastest) (leb c.fastest 20_000_000) both.0).1 in
    (f, by c.slowest both.1 f)
  where
    by : (o : Option ℕ) → T (slowest_range c.fastest o) → c.fastest ≤ 20_000_000 → unwrap_or o 0 ≤ 20_000_000
    by None t f = omega arith
    by (Some s) t f = let l : s ≤ c.fastest = leb→le s c.fastest (and_yes (leb 1000 s) (leb s c.fastest) t).1 in omega arith

-- and those of a cart that is taken are in their ranges
pub cart_small : (before : List Cart) (r : List ℕ) (c : Cart) → Ok c ≡ said (cart before r) → (c.fastest ≤ 20_000_000) × (unwrap_or c.slowest 0 ≤ 20_000_000)
unfolding cart
cart_small before r c e =
    let fs : List (List ℕ) = fields r in
    let (_, e1) = then_accepted (eqb (length fs) 2) Layout Carts _ _ c (accepted_there (cart before r) c (sym e)) in
    let (f, _, e2) = and_given_accepted (number (get_or fs 0 [])) Layout Carts _ _ c e1 in
    let (s, _, e3) = and_given_accepted (number_or_empty (get_or fs 1 [])) Layout Carts _ _ c e2 in
    let (t, e4) = then_accepted (fastest_range f && slowest_range f s) Range Carts _ _ c e3 in
    let (_, e5) = then_accepted (leb (next before) 64) Limit Carts _ _ c e4 in
    subst (λ (x : Cart). (x.fastest ≤ 20_000_000) × (unwrap_or x.slowest 0 ≤ 20_000_000)) (accepted_same _ c e5) (speeds_small (record { fastest = f; slowest = s }) t)

module _ (n : ℕ) (r : List ℕ) (before : List Cart) (count : length before ≡ n) where
  with_speeds : (x : Option Cart) → x ≡ speeds_of (fields r) → cart before r ≡ cart_of (suc n) x
  unfolding next
  with_speeds x e = cart_is before r ∙ ap₂ (λ (k : ℕ) (y : Option Cart). cart_of (suc k) y) count (sym e)

  -- a record whose layout is broken
  pub take_malformed : None ≡ speeds_of (fields r) → Err Layout ≡ said (cart before r)
  take_malformed e = said_refused (cart before r) _ (with_speeds None e)

  module _ (c : Cart) (e : Some c ≡ speeds_of (fields r)) {t : Bool} (tested : t ≡ (fastest_range c.fastest && slowest_range c.fastest c.slowest)) where
    judged : cart before r ≡ cart_tests (suc n) c
    judged = with_speeds (Some c) e

    -- a speed out of its range
    pub take_range : t ≡ false → Err Range ≡ said (cart before r)
    take_range h = said_refused (cart before r) _ (judged ∙ stop _ Range Carts (suc n) _ (sym tested ∙ h))

    module _ (ranges : t ≡ true) where
      counted_one : cart before r ≡ (need (leb (suc n) 64) Limit Carts (suc n) >> Ok c)
      counted_one = judged ∙ pass _ Range Carts (suc n) _ (sym tested ∙ ranges)

      -- one too many
      pub take_over : 64 ≤ n → Err Limit ≡ said (cart before r)
      take_over h = said_refused (cart before r) _ (counted_one ∙ stop _ Limit Carts (suc n) _ (lt-leb (suc n) 64 (omega (arith, h))))

      -- a cart that is kept
      pub take_kept : n < 64 → Ok c ≡ said (cart before r)
      take_kept h = said_taken (cart before r) c (counted_one ∙ pass _ Limit Carts (suc n) _ (le-leb (suc n) 64 (omega (arith, h))))

-- ---- the turns

module _ (whole : Judged (List Cart)) (left : List (List ℕ)) (size : ℕ) (s : List ℕ) (n : ℕ) (u : Turn cart cart_numbers whole left size s n)
    (r : List ℕ) (rs : List (List ℕ)) (then : left ≡ r ∷ rs) where
  -- a record that is not taken ends it
  pub cart_refused : (why : Reason) (s' : List ℕ) → Err why ≡ said (cart u.before r)
      → Ends cart cart_numbers whole size (Err (record { reason = why; table = Carts; row = n + 1 })) s'
  cart_refused why s' e =
      refused_turn cart cart_numbers whole left size s n u r rs then s' _
      (refused_number cart cart_numbers whole left size s n u Carts _ why (cart_says u.before r) (sym e))

  -- one that is taken is at most the 64th
  pub cart_fits : (c : Cart) → Ok c ≡ said (cart u.before r) → n < 64
  cart_fits c e = omega (arith, (cart_sound u.before r c (accepted_there _ c (sym e))).1, u.count)

  -- and its numbers go before the next
  pub cart_kept : (c : Cart) → 128 ≤ size → Ok c ≡ said (cart u.before r)
      → Turn cart cart_numbers whole rs size (set (set s (2 * n) c.fastest) (2 * n + 1) (unwrap_or c.slowest 0)) (n + 1)
  unfolding cart_numbers
  cart_kept c room e =
      let so : length (flat_map cart_numbers u.before) ≡ 2 * n = flat_length cart_numbers 2 cart_two_numbers u.before ∙ ap (λ (k : ℕ). 2 * k) u.count in
      let put : set (set s (2 * n) c.fastest) (2 * n + 1) (unwrap_or c.slowest 0) ≡ sets s (length (flat_map cart_numbers u.before)) (cart_numbers c) =
      ap (λ (i : ℕ). set (set s (2 * n) c.fastest) i (unwrap_or c.slowest 0)) (add-one (2 * n)) ∙ ap (λ (i : ℕ). sets s i (cart_numbers c)) (sym so) in
      taken_turn cart cart_numbers whole left size s n u r rs then _ c (accepted_there _ c (sym e)) (omega (arith, so, cart_two_numbers c, room, cart_fits c e)) put

-- ---- the table

module _ (b : List ℕ) (size : ℕ) (s : List ℕ) where
  -- the answer and the array after the table
  abbrev pub Read : Count → Type 0
  Read x = Ends cart cart_numbers (read_carts b) size x s

  -- too many bytes
  pub read_over : 65536 < length b → Read (Err (at_none Carts Limit))
  unfolding read_carts
  read_over h = refused_ends cart cart_numbers (read_carts b) size s _ (ends (within_bytes Carts b) _ _ (bytes_over Carts b h))

  module _ (few : length b ≤ 65536) (t : Bool) (rows : List (List ℕ)) (line : BeginsWith (bytes "fastest,slowest") (records b) t rows) where
    -- another first line
    pub read_other : not t ≡ true → Read (Err (at_none Carts Layout))
    unfolding read_carts
    read_other k =
        refused_ends cart cart_numbers (read_carts b) size s _
        (goes_on (within_bytes Carts b) _ tt (bytes_within Carts b few)
        ∙ ends (after_first_line (bytes "fastest,slowest") Carts (records b)) _ _ (line_other _ _ rows t line Carts (not-true t k)))

    module _ (k : not t ≡ false) where
      -- the records after the first line
      listed : read_carts b ≡ (records_in_order cart [] rows >>= λ cs. need (leb 1 (length cs)) NoCarts Carts 0 >>= λ _. Ok cs)
      unfolding read_carts
      listed =
          goes_on (within_bytes Carts b) _ tt (bytes_within Carts b few)
          ∙ goes_on (after_first_line (bytes "fastest,slowest") Carts (records b)) _ _ (line_there _ _ rows t line Carts (not-false t k))

      module _ {x : Count} (from : Ends cart cart_numbers (records_in_order cart [] rows) size x s) where
        -- no carts
        pub read_none : (n : ℕ) → x ≡ Ok n → n ≡ 0 → Read (Err (at_none Carts NoCarts))
        read_none n e z =
            let (cs, j, l) = counted_read (records_in_order cart [] rows) n (sym e ∙ from.0) in
            refused_ends cart cart_numbers (read_carts b) size s _
            (listed ∙ goes_on _ _ cs j ∙ stop (leb 1 (length cs)) NoCarts Carts 0 _ (lt-leb 1 (length cs) (omega (arith, l, z))))

        -- some carts
        pub read_some : (n : ℕ) → x ≡ Ok n → (n ≡ 0 → ⊥) → Read (Ok n)
        unfolding counted
        read_some n e z =
            let (cs, j, l) = counted_read (records_in_order cart [] rows) n (sym e ∙ from.0) in
            let some-there : 1 ≤ length cs = omega (arith, l, z) in
            let all : read_carts b ≡ Ok cs = listed ∙ goes_on _ _ cs j ∙ pass (leb 1 (length cs)) NoCarts Carts 0 _ (le-leb 1 (length cs) some-there) in
            (ap Ok (sym l) ∙ sym (ap counted all), λ as' f. from.1 as' (j ∙ sym all ∙ f))

        -- a record that is refused
        pub read_refused : (r : Refusal) → x ≡ Err r → Read x
        read_refused r e =
            let j : read_carts b ≡ Err r = listed ∙ ends _ _ r (counted_refused (records_in_order cart [] rows) r (sym e ∙ from.0)) in
            subst (λ (y : Count). Ends cart cart_numbers (read_carts b) size y s) (sym e) (refused_ends cart cart_numbers (read_carts b) size s r j)

-- ---- carts in an array

-- a slowest speed comes back from its number, where it is not 0
slowest_back : (c : Cart) → SoundCart c → elim (unwrap_or c.slowest 0) [ zero ↦ None | suc v ↦ Some (suc v) ] ≡ c.slowest
slowest_back c s = by c.slowest refl
  where
    at : (v : ℕ) → 1 ≤ v → elim v [ zero ↦ None | suc u ↦ Some (suc u) ] ≡ Some v
    at zero l = absurd (omega arith)
    at (suc v) l = refl

    by : (o : Option ℕ) → c.slowest ≡ o → elim (unwrap_or o 0) [ zero ↦ None | suc v ↦ Some (suc v) ] ≡ o
    by None e = refl
    by (Some v) e = at v (let (least, most) = s.slow v e in omega (arith, least))

-- the carts whose numbers were stored are those that are there
cart_by_cart : (cs : List Cart) (z : List ℕ) → ((c : Cart) → Memᴰ c cs → SoundCart c) → carts_in (length cs) (flat_map cart_numbers cs ++ z) ≡ cs
unfolding carts_in cart_numbers flat_map
cart_by_cart [] z h = refl
cart_by_cart (c ∷ cs) z h =
    ap₂ (λ (o : Option ℕ) (x : List Cart). record { fastest = c.fastest; slowest = o } ∷ x) (slowest_back c (h c (Memᴰ.head refl)))
    (cart_by_cart cs z (λ x m. h x (Memᴰ.tail m)))

pub carts_held : (n : ℕ) (cs : List Cart) → ((c : Cart) → Memᴰ c cs → SoundCart c) → carts_in (length cs) (padded n (flat_map cart_numbers cs)) ≡ cs
unfolding padded
carts_held n cs h = cart_by_cart cs (replicate (n - length (flat_map cart_numbers cs)) 0) h

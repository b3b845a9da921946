-- How a plan slice is laid out: it holds its tables and its log and nothing else exactly where zeros follow the text of each part. Assumes nothing.
use Rattle.std.specs.Prelude.{Option, None, Some, unwrap_or}
use Rattle.std.specs.Bool.{then_some}
use Rattle.std.specs.List.{fold, position, position_or_len}
use Rattle.std.proofs.lemmas.List.Recursion.{is_position_or_len}
use Rattle.std.proofs.Common.{min, max, nat_lt}
use Rattle.std.specs.Simd.{first_chunks}
use Rattle.std.proofs.lemmas.List.Sums.{prefix_len-le-length}
use Prim.Native.Nat.{ℕ, zero, suc, ◌+◌, ◌*◌, ◌-◌, ◌≤◌, ◌<◌}
use native.Mathlib.Nat.{min-le_left}
use native.Mathlib.Omega.{arith}
use mathlib.Core.Path.{◌≡◌, refl, ap, ap₂, sym, ◌∙◌, subst}
use mathlib.Core.Logic.{⊎_elim}
use mathlib.Core.Bool.{Bool, true, false, not, ◌&&◌, cond, and_assoc, and-true}
use mathlib.Core.List.{List, [], ◌∷◌, ◌++◌, append_assoc}
use lib.Dec.{eqb, eqb-zero-suc, eqb-suc-zero, lit<, lit≤}
use lib.ListN.{length, take, drop, get_or, replicate, length-append, length-take, length-drop, length-map, replicate-append-replicate, get_or-eq_default}
use lib.Seq.{take-add, take_all, drop-drop, length-take-le, get_or-take, get_or-drop}
use borrow.Author.Tests.{eq-eqb, ne_eqb, eqb-false, ltb-false}
use Rattle.laws.proofs.Options.{none-ne-some, some-injective}
use Rattle.laws.proofs.Tests.{passes, below_or_not}
use Rattle.words.specs.Words.{little, word, words, padded}
use Rattle.words.proofs.Padding.{padded_length}
use Rattle.words.proofs.Reading.{words_length, word_little}
use Rattle.rfc4180.specs.Text.{same}
use Rattle.rfc4180.proofs.Text.{same_self}
use Rattle.floor.specs.Tables.{Tables}
use Rattle.schedule.specs.Book.{Report}
use Rattle.book.specs.Log.{entries}
use Rattle.slice.specs.declared.Layout.{Layout}
use Rattle.slice.specs.PlanSlice.{plan_slice, until_zero, tables_in, log_in, nothing_else}
use Rattle.slice.specs.Holding.{only_zeros, layout}
use Rattle.slice.specs.Texts.{zeros_follow, text_laid, texts_laid}
use Rattle.slice.proofs.Slice.{carts_of, times_of, in_a_row}

-- every place is a byte
abbrev pub AllBytes : List ℕ → Type 0
AllBytes s = (i : ℕ) → get_or s i 0 < 256

-- ---- n places from place a on

-- the part `&s[i..]` is all from there on
pub rest_is : (s : List ℕ) (i : ℕ) → take (length s - i) (drop i s) ≡ drop i s
rest_is s i = take_all (length s - i) (drop i s) (omega (arith, length-drop i s))

-- as many as the slice has are all from there on
pub rest_of : (s : List ℕ) (a : ℕ) → take (length s) (drop a s) ≡ drop a s
rest_of s a = take_all (length s) (drop a s) (omega (arith, length-drop a s))

-- ---- the bytes before the first zero

-- they are in front
pub text_front : (x : List ℕ) → take (length (until_zero x)) x ≡ until_zero x
unfolding until_zero
text_front [] = refl
text_front (b ∷ x) = by (eqb b 0) (text_front x)
  where
    by : (t : Bool) → take (length (until_zero x)) x ≡ until_zero x
        → take (length {A = ℕ} (elim t as (λ _. List ℕ) [ true ↦ [] | false ↦ b ∷ until_zero x ])) (b ∷ x) ≡ elim t [ true ↦ [] | false ↦ b ∷ until_zero x ]
    by true more = refl
    by false more = ap (λ (l : List ℕ). b ∷ l) more

-- and no more than there are
pub text_short : (x : List ℕ) → length (until_zero x) ≤ length x
unfolding until_zero
text_short [] = omega arith
text_short (b ∷ x) = by (eqb b 0) (text_short x)
  where
    by : (t : Bool) → length (until_zero x) ≤ length x → length {A = ℕ} (elim t as (λ _. List ℕ) [ true ↦ [] | false ↦ b ∷ until_zero x ]) ≤ suc (length x)
    by true more = omega arith
    by false more = omega arith

-- they end at the first zero, so that many bytes pass before one that is zero
pub text_place : (x : List ℕ) → length (until_zero x) ≡ position_or_len (λ b. eqb b 0) x
unfolding until_zero
text_place x = is_position_or_len (λ (l : List ℕ). length (until_zero l)) (λ b. eqb b 0) refl (λ b l. by b l (eqb b 0)) x
  where
    by : (b : ℕ) (l : List ℕ) (t : Bool)
        → length {A = ℕ} (elim t as (λ _. List ℕ) [ true ↦ [] | false ↦ b ∷ until_zero l ]) ≡ cond t 0 (1 + length (until_zero l))
    by b l true = refl
    by b l false = omega arith

-- where what is looked for is found, or behind all
pub found_or : {X : Type 0} (p : X → Bool) (xs : List X) (o : Option ℕ) → o ≡ position p xs → unwrap_or o (length xs) ≡ position_or_len p xs
found_or p xs o e = ap (λ (i : Option ℕ). unwrap_or i (length xs)) e ∙ by (nat_lt (position_or_len p xs) (length xs)) refl
  where
    by : (t : Bool) → nat_lt (position_or_len p xs) (length xs) ≡ t
        → unwrap_or (cond t (Some (position_or_len p xs)) None) (length xs) ≡ position_or_len p xs
    by true k = refl
    by false k = let l : length xs ≤ position_or_len p xs = ltb-false _ _ k in omega (arith, l, prefix_len-le-length (λ x. not (p x)) xs)

-- so for the first zero
pub before_zero : (s : List ℕ) (o : Option ℕ) → o ≡ position (λ b. eqb b 0) s → unwrap_or o (length s) ≡ length (until_zero s)
before_zero s o e = found_or (λ b. eqb b 0) s o e ∙ sym (text_place s)

-- as many bytes more as are none of them zero
pub text_block : (k : ℕ) (s : List ℕ) → k ≤ length s → ((j : ℕ) → j < k → 0 < get_or s j 0)
    → length (until_zero s) ≡ k + length (until_zero (drop k s))
unfolding until_zero
text_block zero s h f = omega arith
text_block (suc k) [] h f = absurd (omega arith)
text_block (suc k) (b ∷ s) h f =
    let some : 0 < b = f 0 (omega arith) in
    let other : eqb b 0 ≡ false = ne_eqb b 0 (λ e. omega arith) in
    ap (λ (t : Bool). length {A = ℕ} (elim t as (λ _. List ℕ) [ true ↦ [] | false ↦ b ∷ until_zero s ])) other
    ∙ ap suc (text_block k s (omega arith) (λ j l. f (suc j) (omega arith))) ∙ omega arith

-- where the least byte is not zero none is
pub least_some : (m : ℕ) (s : List ℕ) (x : ℕ) → x ≡ fold min m s → eqb x 0 ≡ false → (j : ℕ) → j < length s → 0 < get_or s j 0
least_some m s x e q j h =
    let n : x ≡ 0 → ⊥ = eqb-false x 0 q in
    let l : x ≤ get_or s j 0 = (below m s x e).1 j h in omega arith
  where
    below : (m : ℕ) (s : List ℕ) (x : ℕ) → x ≡ fold min m s → (x ≤ m) × ((j : ℕ) → j < length s → x ≤ get_or s j 0)
    below m [] x e = (omega (arith, e), λ j h. absurd (omega arith))
    below m (b ∷ s) x e = let (l, r) = below (min m b) s x e in (omega (arith, l), λ j h. at j h l r)
      where
        at : (j : ℕ) → j < length (b ∷ s) → x ≤ min m b → ((k : ℕ) → k < length s → x ≤ get_or s k 0) → x ≤ get_or (b ∷ s) j 0
        at zero h l r = omega arith
        at (suc k) h l r = r k (omega arith)

-- the blocks before the first that has a zero pass
pub blocks_pass : (k : ℕ) (s : List ℕ) → k * 64 ≤ length s
    → let n = position_or_len (λ (b : List ℕ). eqb (fold min 255 b) 0) (first_chunks 64 k s) in (n ≤ k) × (length (until_zero s) ≡ 64 * n + length (until_zero (drop (64 * n) s)))
blocks_pass zero s h = (omega arith, omega arith)
blocks_pass (suc k) s h = by (blocks_pass k (drop 64 s) (omega (arith, length-drop 64 s))) (eqb (fold min 255 (take 64 s)) 0) refl
  where
    next : ℕ
    next = position_or_len (λ (b : List ℕ). eqb (fold min 255 b) 0) (first_chunks 64 k (drop 64 s))

    by : (next ≤ k) × (length (until_zero (drop 64 s)) ≡ 64 * next + length (until_zero (drop (64 * next) (drop 64 s)))) → (t : Bool) → eqb (fold min 255 (take 64 s)) 0 ≡ t
        → let n = cond (not t) (1 + next) 0 in (n ≤ suc k) × (length (until_zero s) ≡ 64 * n + length (until_zero (drop (64 * n) s)))
    by (few, rest) true e = (omega arith, omega arith)
    by (few, rest) false e =
        let long : 64 ≤ length s = omega arith in
        let all : length (take 64 s) ≡ 64 = simp length-take (omega arith) in
        let first : length (until_zero s) ≡ 64 + length (until_zero (drop 64 s)) =
        text_block 64 s long (λ j l. subst (λ (n : ℕ). 0 < n) (get_or-take 64 s j 0 l) (least_some 255 (take 64 s) _ refl e j (omega (arith, all)))) in
        let same : 64 + 64 * next ≡ 64 * (1 + next) = omega arith in
        let behind : drop (64 * next) (drop 64 s) ≡ drop (64 * (1 + next)) s = drop-drop (64 * next) 64 s ∙ ap (λ (m : ℕ). drop m s) same in
        (omega arith, omega (arith, first, rest, ap (λ (x : List ℕ). length (until_zero x)) behind))

-- ---- nothing but zeros

-- where the greatest byte is zero, and nowhere else
pub greatest_none : (m : ℕ) (s : List ℕ) → eqb (fold max m s) 0 ≡ (eqb m 0 && only_zeros s)
unfolding only_zeros
greatest_none m [] = sym (and-true (eqb m 0))
greatest_none m (b ∷ s) = greatest_none (max m b) s ∙ ap (λ (t : Bool). t && only_zeros s) (both m b) ∙ and_assoc (eqb m 0) (eqb b 0) (only_zeros s)
  where
    both : (m b : ℕ) → eqb (max m b) 0 ≡ (eqb m 0 && eqb b 0)
    both zero zero = refl
    both zero (suc b) = let e : max 0 (suc b) ≡ suc b = omega arith in ap (λ (n : ℕ). eqb n 0) e
    both (suc m) b = ne_eqb (max (suc m) b) 0 (λ e. omega arith) ∙ sym (ap (λ (t : Bool). t && eqb b 0) (ne_eqb (suc m) 0 (λ e. omega arith)))

-- a part is no longer than its size
pub part_most : (m : ℕ) (l : List ℕ) → length (take m l) ≤ m
part_most m l = omega (arith, length-take m l, min-le_left m (length l))

-- so the bytes before its first zero are no more than that
pub part_short : (m : ℕ) (l : List ℕ) → length (until_zero (take m l)) ≤ m
part_short m l = omega (arith, text_short (take m l), part_most m l)

-- ---- tests byte by byte

-- zeros
zeros_same : (x : List ℕ) → same (replicate (length x) 0) x ≡ only_zeros x
unfolding same only_zeros
zeros_same [] = refl
zeros_same (zero ∷ x) = ap (λ (t : Bool). eqb 0 0 && t) (zeros_same x)
zeros_same (suc b ∷ x) = ap₂ {C = Bool} ◌&&◌ (eqb-zero-suc b ∙ sym (eqb-suc-zero b)) (zeros_same x)

-- one part after the other
same_parts : (a b s : List ℕ) → same (a ++ b) s ≡ (same a (take (length a) s) && same b (drop (length a) s))
unfolding same
same_parts [] b s = refl
same_parts (x ∷ a) b [] = refl
same_parts (x ∷ a) b (y ∷ s) =
    ap (λ (t : Bool). eqb x y && t) (same_parts a b s) ∙ sym (and_assoc (eqb x y) (same a (take (length a) s)) (same b (drop (length a) s)))

-- the text of a part, padded, is the part where zeros follow it
text_same : (x : List ℕ) → same (padded (length x) (until_zero x)) x ≡ zeros_follow x
unfolding until_zero padded same only_zeros zeros_follow
text_same [] = refl
text_same (b ∷ x) = by (eqb b 0) (text_same x)
  where
    by : (t : Bool) → same (until_zero x ++ replicate (length x - length (until_zero x)) 0) x ≡ only_zeros (drop (length (until_zero x)) x)
        → same (elim t as (λ _. List ℕ) [ true ↦ [] | false ↦ b ∷ until_zero x ] ++ replicate (suc (length x) - length {A = ℕ} (elim t as (λ _. List ℕ) [ true ↦ [] | false ↦ b ∷ until_zero x ])) 0) (b ∷ x)
        ≡ only_zeros (drop (length {A = ℕ} (elim t as (λ _. List ℕ) [ true ↦ [] | false ↦ b ∷ until_zero x ])) (b ∷ x))
    by true more =
        let e : suc (length x) - 0 ≡ suc (length x) = omega arith in
        ap (λ (n : ℕ). same (replicate n 0) (b ∷ x)) e ∙ zeros_same (b ∷ x)
    by false more =
        let e : suc (length x) - suc (length (until_zero x)) ≡ length x - length (until_zero x) = omega arith in
        ap (λ (n : ℕ). eqb b b && same (until_zero x ++ replicate n 0) x) e
        ∙ ap (λ (t : Bool). t && same (until_zero x ++ replicate (length x - length (until_zero x)) 0) x) (eq-eqb b b refl) ∙ more

-- a part of m places in front of a slice
part_same : (m : ℕ) (rest l : List ℕ) → m ≤ length l
    → same (padded m (until_zero (take m l)) ++ rest) l ≡ (zeros_follow (take m l) && same rest (drop m l))
part_same m rest l h =
    let x : List ℕ = take m l in
    let size : length x ≡ m = length-take-le m l h in
    let long : length (padded m (until_zero x)) ≡ m = padded_length m (until_zero x) (part_short m l) in
    same_parts (padded m (until_zero x)) rest l
    ∙ ap (λ (i : ℕ). same (padded m (until_zero x)) (take i l) && same rest (drop i l)) long
    ∙ ap (λ (t : Bool). t && same rest (drop m l)) (ap (λ (i : ℕ). same (padded i (until_zero x)) x) (sym size) ∙ text_same x)

-- ---- the log

-- the first bytes are bytes
bytes_taken : (k : ℕ) (s : List ℕ) → AllBytes s → AllBytes (take k s)
bytes_taken k s h i =
    ⊎_elim (λ l. subst (λ (x : ℕ). x < 256) (sym (get_or-take k s i 0 l)) (h i))
    (λ l. subst (λ (x : ℕ). x < 256) (sym (get_or-eq_default (take k s) 0 {n = i} (omega (arith, part_most k s)))) (lit< tt)) (below_or_not i k)

-- and so are the others
pub bytes_after : (k : ℕ) (s : List ℕ) → AllBytes s → AllBytes (drop k s)
bytes_after k s h i = subst (λ (x : ℕ). x < 256) (sym (get_or-drop k s i 0)) (h (k + i))

-- the carts of entries are those that they were made from
entries_carts : (cs s : List ℕ) → carts_of (entries cs s) ≡ cs
unfolding entries
entries_carts [] s = refl
entries_carts (c ∷ cs) s = ap (λ (l : List ℕ). c ∷ l) (entries_carts cs (drop 8 s))

-- one entry for each
pub entries_count : (cs s : List ℕ) → length (entries cs s) ≡ length cs
unfolding entries
entries_count [] s = refl
entries_count (c ∷ cs) s = ap suc (entries_count cs (drop 8 s))

-- and the bytes of their times are those that they were read from
entries_times : (cs s : List ℕ) → 8 * length cs ≤ length s → AllBytes s → words 8 (times_of (entries cs s)) ≡ take (8 * length cs) s
unfolding entries words
entries_times [] s h a = refl
entries_times (c ∷ cs) s h a =
    let more : 8 * suc (length cs) ≡ 8 + 8 * length cs = omega arith in
    let eight : length (take 8 s) ≡ 8 = length-take-le 8 s (omega arith) in
    let one : word 8 (little (take 8 s)) ≡ take 8 s =
    ap (λ (k : ℕ). word k (little (take 8 s))) (sym eight) ∙ word_little (take 8 s) (bytes_taken 8 s a) in
    ap₂ {C = List ℕ} ◌++◌ one (entries_times cs (drop 8 s) (omega (arith, length-drop 8 s)) (bytes_after 8 s a))
    ∙ sym (ap (λ (k : ℕ). take k s) more ∙ take-add 8 (8 * length cs) s)

-- bytes as they are, and zeros to the end
rest_same : (t l : List ℕ) (i j : ℕ) → t ≡ take i l → i ≤ length l → j ≡ length l - i → same (t ++ replicate j 0) l ≡ only_zeros (drop i l)
rest_same t l i j e h q =
    let size : length t ≡ i = ap (length {A = ℕ}) e ∙ length-take-le i l h in
    let first : same t (take i l) ≡ true = ap (same t) (sym e) ∙ passes (same t t) (same_self t) in
    let left : j ≡ length (drop i l) = q ∙ sym (length-drop i l) in
    same_parts t (replicate j 0) l
    ∙ ap (λ (n : ℕ). same t (take n l) && same (replicate j 0) (drop n l)) size
    ∙ ap (λ (b : Bool). b && same (replicate j 0) (drop i l)) first
    ∙ ap (λ (n : ℕ). same (replicate n 0) (drop i l)) left
    ∙ zeros_same (drop i l)

-- the times of a log, padded to w places, and zeros behind them
times_same : (k w : ℕ) (cs l : List ℕ) (j : ℕ) → length cs ≤ k → 8 * k ≤ w → w + j ≡ length l → AllBytes l
    → same (padded w (words 8 (times_of (entries cs l))) ++ replicate j 0) l ≡ only_zeros (drop (8 * length cs) l)
unfolding padded
times_same k w cs l j h f g a =
    let t : List ℕ = words 8 (times_of (entries cs l)) in
    let e : t ≡ take (8 * length cs) l = entries_times cs l (omega arith) a in
    let size : length t ≡ 8 * length cs = ap (length {A = ℕ}) e ∙ length-take-le (8 * length cs) l (omega arith) in
    ap (λ (x : List ℕ). same x l) (append_assoc t (replicate (w - length t) 0) (replicate j 0)
    ∙ ap (λ (x : List ℕ). t ++ x) (replicate-append-replicate (w - length t) j 0))
    ∙ rest_same t l (8 * length cs) (w - length t + j) e (omega arith) (omega arith)

-- ---- five parts

-- whether zeros follow the text of the part of m places from place i on
abbrev zeros_in : ℕ → ℕ → List ℕ → Bool
zeros_in i m s = zeros_follow (take m (drop i s))

module _ (m k w : ℕ) (s : List ℕ) (long : m + (m + (m + (k + w))) ≤ length s) (room : 8 * k ≤ w) (bytes : AllBytes s) where
  -- the carts of the log
  abbrev log_carts : List ℕ
  log_carts = until_zero (take k (drop (m + (m + m)) s))

  -- what follows the four texts
  abbrev behind : List ℕ
  behind = drop (m + (m + (m + k))) s

  abbrev log : List Report
  log = entries log_carts behind

  -- the texts of the tables
  abbrev text_1 : List ℕ
  text_1 = until_zero (take m s)

  abbrev text_2 : List ℕ
  text_2 = until_zero (take m (drop m s))

  abbrev text_3 : List ℕ
  text_3 = until_zero (take m (drop (m + m) s))

  -- the times
  abbrev times : List ℕ
  times = words 8 (times_of log)

  -- and the zeros behind all parts
  abbrev zeros_behind : List ℕ
  zeros_behind = replicate (length s - length (padded m text_1 ++ (padded m text_2 ++ (padded m text_3 ++ (padded k log_carts ++ padded w times))))) 0

  -- a part in the middle
  middle : (i size j : ℕ) (rest : List ℕ) → i + size ≡ j → j ≤ length s
      → same (padded size (until_zero (take size (drop i s))) ++ rest) (drop i s) ≡ (zeros_in i size s && same rest (drop j s))
  middle i size j rest e h =
      part_same size rest (drop i s) (omega (arith, length-drop i s))
      ∙ ap (λ (x : List ℕ). zeros_in i size s && same rest x) (drop-drop size i s ∙ ap (λ (x : ℕ). drop x s) e)

  -- the times are no longer than their part
  times_fit : length times ≤ w
  times_fit = omega (arith, words_length 8 (times_of log), length-map log (λ (r : Report). r.time), entries_count log_carts behind, part_short k (drop (m + (m + m)) s))

  -- the last of them
  last : same (padded w times ++ zeros_behind) behind ≡ only_zeros (drop (8 * length log_carts) behind)
  last =
      let l3 : List ℕ = padded k log_carts ++ padded w times in
      let l2 : List ℕ = padded m text_3 ++ l3 in
      let l1 : List ℕ = padded m text_2 ++ l2 in
      times_same k w log_carts behind (length s - length (padded m text_1 ++ l1)) (part_short k (drop (m + (m + m)) s)) room
      (omega (
        arith,
        length-drop (m + (m + (m + k))) s,
        length-append (padded m text_1) l1,
        length-append (padded m text_2) l2,
        length-append (padded m text_3) l3,
        length-append (padded k log_carts) (padded w times),
        padded_length m text_1 (part_short m s),
        padded_length m text_2 (part_short m (drop m s)),
        padded_length m text_3 (part_short m (drop (m + m) s)),
        padded_length k log_carts (part_short k (drop (m + (m + m)) s)),
        padded_length w times times_fit,
      ))
      (bytes_after (m + (m + (m + k))) s bytes)

  -- the whole is one part after the other
  parts_same : same (padded (length s) (padded m text_1 ++ (padded m text_2 ++ (padded m text_3 ++ (padded k (carts_of log) ++ padded w times))))) s
      ≡ (zeros_in 0 m s && (zeros_in m m s && (zeros_in (m + m) m s && (zeros_in (m + (m + m)) k s && only_zeros (drop (8 * length log_carts) behind)))))
  parts_same =
      let l4 : List ℕ = padded w times ++ zeros_behind in
      let l3 : List ℕ = padded k log_carts ++ l4 in
      let l2 : List ℕ = padded m text_3 ++ l3 in
      ap (λ (x : List ℕ). same (padded (length s) (padded m text_1 ++ (padded m text_2 ++ (padded m text_3 ++ (padded k x ++ padded w times))))) s) (entries_carts log_carts behind)
      ∙ ap (λ (x : List ℕ). same x s) (in_a_row m k w (length s) text_1 text_2 text_3 log_carts times
      (part_short m s) (part_short m (drop m s)) (part_short m (drop (m + m) s)) (part_short k (drop (m + (m + m)) s)))
      ∙ middle 0 m m (padded m text_2 ++ l2) (omega arith) (omega arith)
      ∙ ap (λ (t : Bool). zeros_in 0 m s && t) (middle m m (m + m) l2 refl (omega arith))
      ∙ ap (λ (t : Bool). zeros_in 0 m s && (zeros_in m m s && t)) (middle (m + m) m (m + (m + m)) l3 (omega arith) (omega arith))
      ∙ ap (λ (t : Bool). zeros_in 0 m s && (zeros_in m m s && (zeros_in (m + m) m s && t))) (middle (m + (m + m)) k (m + (m + (m + k))) l4 (omega arith) (omega arith))
      ∙ ap (λ (t : Bool). zeros_in 0 m s && (zeros_in m m s && (zeros_in (m + m) m s && (zeros_in (m + (m + m)) k s && t)))) last

-- ---- the plan slice

module _ (s : List ℕ) (long : 233_472 ≤ length s) (bytes : AllBytes s) where
  -- the log's carts
  abbrev carts_in_log : List ℕ
  carts_in_log = until_zero (take 4096 (drop 196_608 s))

  -- there is nothing else exactly where zeros follow each text and the times
  nothing_else_is : nothing_else s (tables_in s) (log_in s)
      ≡ (zeros_in 0 65_536 s && (zeros_in 65_536 65_536 s && (zeros_in 131_072 65_536 s && (zeros_in 196_608 4096 s && only_zeros (drop (8 * length carts_in_log) (drop 200_704 s))))))
  unfolding nothing_else tables_in log_in plan_slice
  nothing_else_is = parts_same 65_536 4096 32_768 s (omega arith) (lit≤ tt) bytes

  -- so a slice is laid out as its parts are
  layout_is : texts_laid (take 65_536 s) (take 65_536 (drop 65_536 s)) (take 65_536 (drop 131_072 s)) (take 4096 (drop 196_608 s)) (drop 200_704 s) ≡ layout s
  unfolding layout texts_laid tables_in log_in
  layout_is =
      let ts : Tables = tables_in s in
      ap₂ {C = Option Layout} (λ (b : Bool) (n : ℕ). cond b (Some (record { roads = length ts.roads; carts = length ts.carts; paths = length ts.paths; reports = n })) None)
      (sym nothing_else_is) (sym (entries_count carts_in_log (drop 200_704 s)))

  -- as the code finds it, part by part
  pub layout_found : (carts paths log times : List ℕ) → carts ≡ take 65_536 (drop 65_536 s) → paths ≡ take 65_536 (drop 131_072 s)
      → log ≡ take 4096 (drop 196_608 s) → times ≡ drop 200_704 s
      → (x : Option Layout) → x ≡ texts_laid (take 65_536 s) carts paths log times → x ≡ layout s
  layout_found carts paths log times ec ep el et x e =
      e ∙ ap₂ {C = Option Layout} (λ (l m : List ℕ). texts_laid (take 65_536 s) l m log times) ec ep
      ∙ ap₂ {C = Option Layout} (texts_laid (take 65_536 s) (take 65_536 (drop 65_536 s)) (take 65_536 (drop 131_072 s))) el et ∙ layout_is

-- ---- what the code finds of the texts

-- one, and whether zeros follow it
pub text_found : (x : List ℕ) (n : ℕ) (b : Bool) → n ≡ length (until_zero x) → b ≡ only_zeros (drop n x) → then_some b n ≡ text_laid x
unfolding text_laid zeros_follow
text_found x n b e q =
    let same : b ≡ only_zeros (drop (length (until_zero x)) x) = q ∙ ap (λ (j : ℕ). only_zeros (drop j x)) e in
    by b ∙ ap₂ {C = Option ℕ} (λ (t : Bool) (m : ℕ). cond t (Some m) None) same e
  where
    by : (t : Bool) → then_some t n ≡ cond t (Some n) None
    by true = refl
    by false = refl

-- they do not
pub text_broken : (x : List ℕ) → None ≡ text_laid x → zeros_follow x ≡ false
unfolding text_laid
text_broken x e = by (zeros_follow x) refl e
  where
    by : (t : Bool) → zeros_follow x ≡ t → None ≡ cond t (Some (length (until_zero x))) None → zeros_follow x ≡ false
    by true k z = absurd (none-ne-some _ z)
    by false k z = k

-- they do
pub text_ended : (x : List ℕ) (n : ℕ) → Some n ≡ text_laid x → (zeros_follow x ≡ true) × (length (until_zero x) ≡ n)
unfolding text_laid
text_ended x n e = by (zeros_follow x) refl e
  where
    by : (t : Bool) → zeros_follow x ≡ t → Some n ≡ cond t (Some (length (until_zero x))) None → (zeros_follow x ≡ true) × (length (until_zero x) ≡ n)
    by true k z = (k, some-injective _ _ (sym z))
    by false k z = absurd (none-ne-some _ (sym z))

-- they follow all four, and the times or not
pub texts_found : (roads carts paths log times : List ℕ) (r c p n : ℕ)
    → Some r ≡ text_laid roads → Some c ≡ text_laid carts → Some p ≡ text_laid paths → Some n ≡ text_laid log
    → (b : Bool) → b ≡ only_zeros (drop (8 * n) times)
    → then_some {T = Layout} b (record { roads = r; carts = c; paths = p; reports = n }) ≡ texts_laid roads carts paths log times
unfolding texts_laid
texts_found roads carts paths log times r c p n er ec ep en b q =
    let (zr, lr) = text_ended roads r er in
    let (zc, lc) = text_ended carts c ec in
    let (zp, lp) = text_ended paths p ep in
    let (zn, ln) = text_ended log n en in
    let e : b ≡ only_zeros (drop (8 * length (until_zero log)) times) = q ∙ ap (λ (i : ℕ). only_zeros (drop (8 * i) times)) (sym ln) in
    rw (zr, zc, zp, zn, ← e, lr, lc, lp, ln) (by b)
  where
    by : (t : Bool) → then_some {T = Layout} t (record { roads = r; carts = c; paths = p; reports = n }) ≡ cond t (Some (record { roads = r; carts = c; paths = p; reports = n })) None
    by true = refl
    by false = refl

-- A number stored and read byte by byte, one turn of a loop after the other; and numbers written one behind the other. Assumes nothing.
use Rattle.std.proofs.lemmas.Bool.Decides.{nat_tests}
use Prim.Native.Nat.{ℕ, zero, suc, ◌+◌, ◌-◌, ◌*◌, ◌/◌, ◌%◌, ◌^◌, ◌≤◌, ◌<◌}
use native.Mathlib.Nat.{pow-suc, pow-le-pow_right, le-div_iff_mul-le, div-lt_iff_lt-mul, mul_comm, mul-suc}
use native.Mathlib.Omega.{arith}
use mathlib.Core.Path.{◌≡◌, refl, ap, sym, ◌∙◌}
use mathlib.Core.Bool.{Bool, true, cond}
use mathlib.Core.List.{List, [], ◌∷◌, ◌++◌, append_assoc, append-nil}
use lib.Dec.{leb}
use lib.ListN.{length, take, drop, get_or, set, length-append, length-drop, drop_of_length-le}
use lib.Seq.{sets, sets-eq, drop-cons, drop-drop, drop-length, get_or-take, get_or-drop, length-take-le, take_at, drop_at, take_all, take-nil}
use borrow.Author.Tests.{le-leb}
use Rattle.words.specs.Words.{little, word, words, word_at, with_word, written}
use Rattle.words.proofs.Reading.{word_length, words_length}

-- ---- storing

-- one byte is stored, and the rest is to come
pub put_turn : (s : List ℕ) (at k i x : ℕ) → i < k
    → sets (set s (at + i) (x % 256)) (at + (i + 1)) (word (k - (i + 1)) (x / 256)) ≡ sets s (at + i) (word (k - i) x)
unfolding word
put_turn s at k i x h =
    let e : k - i ≡ suc (k - (i + 1)) = omega arith in
    let f : at + (i + 1) ≡ suc (at + i) = omega arith in
    ap (λ (j : ℕ). sets (set s (at + i) (x % 256)) j (word (k - (i + 1)) (x / 256))) f ∙ sym (ap (λ (j : ℕ). sets s (at + i) (word j x)) e)

-- nothing is left to store
pub put_done : (s : List ℕ) (at k i x : ℕ) → k ≤ i → sets s (at + i) (word (k - i) x) ≡ s
unfolding word
put_done s at k i x h = let e : k - i ≡ 0 = omega arith in ap (λ (j : ℕ). sets s (at + i) (word j x)) e

-- a place that is there is stored to
pub word_stored : (k : ℕ) (s s' : List ℕ) (i v : ℕ) → 0 < k → i < length s / k → s' ≡ sets s (k * i) (word k v) → s' ≡ with_word k s i v
unfolding with_word
word_stored k s s' i v p h e =
    let room : suc i * k ≤ length s = (le-div_iff_mul-le {k = k} {x = suc i} {y = length s} p).0 h in
    let there : leb (k * suc i) (length s) ≡ true = le-leb (k * suc i) (length s) (omega (arith, mul_comm (suc i) k)) in
    e ∙ sym (ap (λ (b : Bool). cond b (sets s (k * i) (word k v)) s) there)

-- one that is not is not
pub word_kept : (k : ℕ) (s : List ℕ) (i v : ℕ) → 0 < k → length s / k ≤ i → s ≡ with_word k s i v
unfolding with_word
word_kept k s i v p h = grind (arith, nat_tests)

-- numbers of no bytes are not stored
pub word_of_none : (k : ℕ) (s : List ℕ) (i v : ℕ) → ¬ (0 < k) → s ≡ with_word k s i v
unfolding with_word word
word_of_none zero s i v h =
    let there : leb (0 * suc i) (length s) ≡ true = le-leb (0 * suc i) (length s) (omega arith) in
    sym (ap (λ (b : Bool). cond b (sets s (0 * i) []) s) there)
word_of_none (suc k) s i v h = absurd (h (omega arith))

-- ---- reading

-- a byte more fits one more byte
byte_more : (x b k left : ℕ) → x < 256 ^ (k - left) → b < 256 → 0 < left → left ≤ k → 256 * x + b < 256 ^ (k - (left - 1))
byte_more x b k left h g p q =
    let e : k - (left - 1) ≡ suc (k - left) = omega arith in
    rw (e, pow-suc) (omega arith)

-- and eight bytes fit a u64
pub bytes_fit : (x b k left : ℕ) → x < 256 ^ (k - left) → b < 256 → 0 < left → left ≤ k → k ≤ 8 → 256 * x + b < 2 ^ 64
bytes_fit x b k left h g p q w =
    let z : 0 < 256 = omega arith in
    let n : k - (left - 1) ≤ 8 = omega arith in
    let e : 256 ^ 8 ≡ 2 ^ 64 = refl in
    omega (arith, byte_more x b k left h g p q, pow-le-pow_right z n)

-- what the bytes from the left-th on of k say
pub record Said (s : List ℕ) (at k left x : ℕ) : Type 0 where
  pub within : left ≤ k
  pub small : x < 256 ^ (k - left)
  pub says : x ≡ little (drop left (take k (drop at s)))

-- none is read yet
pub said_none : (s : List ℕ) (at k : ℕ) → at + k ≤ length s → Said s at k k 0
unfolding little
said_none s at k h =
    let e : k - k ≡ 0 = omega arith in
    let l : length (take k (drop at s)) ≡ k = length-take-le k (drop at s) (omega (arith, length-drop at s)) in
    let d : drop k (take k (drop at s)) ≡ [] = ap (λ (n : ℕ). drop n (take k (drop at s))) (sym l) ∙ drop-length (take k (drop at s)) in
    record { within = omega arith; small = rw e (omega arith); says = rw d }

-- the byte before those that are read is one more
pub said_more : (s : List ℕ) (at k left x : ℕ) → at + k ≤ length s → 0 < left → get_or s (at + (left - 1)) 0 < 256 → Said s at k left x
    → Said s at k (left - 1) (256 * x + get_or s (at + (left - 1)) 0)
unfolding little
said_more s at k left x w p g r =
    let m : left ≡ suc (left - 1) = omega arith in
    let within : left ≤ k = r.within in
    let l : length (take k (drop at s)) ≡ k = length-take-le k (drop at s) (omega (arith, length-drop at s)) in
    let b : ℕ = get_or s (at + (left - 1)) 0 in
    let v : get_or (take k (drop at s)) (left - 1) 0 ≡ b = get_or-take k (drop at s) (left - 1) 0 (omega arith) ∙ get_or-drop at s (left - 1) 0 in
    let d : little (drop (suc (left - 1)) (take k (drop at s))) ≡ x = ap (λ (n : ℕ). little (drop n (take k (drop at s)))) (sym m) ∙ sym r.says in
    record {
      within = omega arith;
      small = byte_more x b k left r.small g p within;
      says = rw (drop-cons (take k (drop at s)) (left - 1) 0 (omega arith), v, d) (omega arith);
    }

-- a place past the end
pub word_past : (k : ℕ) (s : List ℕ) (i : ℕ) → 0 < k → length s / k < i → 0 ≡ word_at k s i
unfolding word_at little
word_past k s i p h =
    let far : length s < i * k = (div-lt_iff_lt-mul {k = k} {x = length s} {y = i} p).0 h in
    let none_left : drop (k * i) s ≡ [] = drop_of_length-le s {i = k * i} (omega (arith, mul_comm i k)) in
    let none-taken : take k [] ≡ [] = take-nil k in
    sym (ap (λ (l : List ℕ). little (take k l)) none_left ∙ ap little none-taken)

-- a place that is cut off at the end: the bytes that are there
pub word_cut : (k : ℕ) (s : List ℕ) (i r : ℕ) → r ≡ length s - k * i → r < k → (x : ℕ) → x ≡ little (take r (drop (k * i) s)) → x ≡ word_at k s i
unfolding word_at
word_cut k s i r e h x q =
    let l : length (drop (k * i) s) ≡ r = length-drop (k * i) s ∙ sym e in
    q ∙ ap little (take_all r (drop (k * i) s) (omega arith) ∙ sym (take_all k (drop (k * i) s) (omega arith)))

-- ---- one behind the other

-- numbers written behind what is written
pub written_more : (a vs s : List ℕ) → length a + length vs ≤ length s → sets (written a s) (length a) vs ≡ written (a ++ vs) s
unfolding written
written_more a vs s h =
    let z : List ℕ = drop (length a) s in
    let long : length a + length vs ≤ length (a ++ z) = omega (arith, length-append a z, length-drop (length a) s) in
    let back : drop (length a + length vs) (a ++ z) ≡ drop (length (a ++ vs)) s =
    sym (drop-drop (length vs) (length a) (a ++ z)) ∙ ap (drop (length vs)) (drop_at a z (length a) refl) ∙ drop-drop (length vs) (length a) s
    ∙ ap (λ (k : ℕ). drop k s) (sym (length-append a vs)) in
    sets-eq vs (a ++ z) (length a) long
    ∙ ap (λ (x : List ℕ). x ++ vs ++ drop (length a + length vs) (a ++ z)) (take_at a z (length a) refl)
    ∙ ap (λ (x : List ℕ). a ++ vs ++ x) back

-- one number more at the end
pub words_behind : (k : ℕ) (ns : List ℕ) (v : ℕ) → words k (ns ++ (v ∷ [])) ≡ words k ns ++ word k v
unfolding words
words_behind k [] v = append-nil (word k v)
words_behind k (n ∷ ns) v = ap (λ (x : List ℕ). word k n ++ x) (words_behind k ns v) ∙ sym (append_assoc (word k n) (words k ns) (word k v))

-- a number written behind those that are written
pub word_behind : (k : ℕ) (ns s : List ℕ) (v : ℕ) → k * suc (length ns) ≤ length s
    → with_word k (written (words k ns) s) (length ns) v ≡ written (words k (ns ++ (v ∷ []))) s
unfolding with_word written
word_behind k ns s v h =
    let front : length (words k ns) ≡ k * length ns = words_length k ns in
    let long : length (written (words k ns) s) ≡ length s = omega (arith, length-append (words k ns) (drop (length (words k ns)) s), length-drop (length (words k ns)) s, mul-suc k (length ns)) in
    let there : leb (k * suc (length ns)) (length (written (words k ns) s)) ≡ true = le-leb (k * suc (length ns)) (length (written (words k ns) s)) (omega arith) in
    ap (λ (b : Bool). cond b (sets (written (words k ns) s) (k * length ns) (word k v)) (written (words k ns) s)) there
    ∙ ap (λ (j : ℕ). sets (written (words k ns) s) j (word k v)) (sym front)
    ∙ written_more (words k ns) (word k v) s (omega (arith, word_length k v, mul-suc k (length ns)))
    ∙ ap (λ (x : List ℕ). written x s) (sym (words_behind k ns v))

-- A number read from where it was written is that number, and what is written over a slice's front stands there. Assumes nothing.
use Prim.Native.Nat.{ℕ, zero, suc, ◌+◌, ◌*◌, ◌/◌, ◌%◌, ◌^◌, ◌<◌}
use native.Mathlib.Nat.{pow-succ', mod-add-div, mod-eq_of_lt, div-eq_of_lt, add-mul-mod_self_left, add-mul-div_left, div-lt_iff_lt-mul, mul_comm, mul-zero, mul-suc, not-suc-le-zero, le_of_suc-le-suc}
use native.Mathlib.Omega.{arith}
use mathlib.Core.Path.{◌≡◌, refl, ap, ap₂, sym, ◌∙◌, subst}
use mathlib.Core.List.{List, [], ◌∷◌, ◌++◌, append_assoc}
use lib.Dec.{lit<}
use lib.ListN.{length, take, drop, get_or, length-append}
use lib.Seq.{take-append_seam, take_at, drop-append-add}
use Rattle.words.specs.Words.{little, word, words, word_at, written}

-- a word has its count of bytes
pub word_length : (k n : ℕ) → length (word k n) ≡ k
unfolding word
word_length zero n = refl
word_length (suc k) n = ap suc (word_length k (n / 256))

-- and so have several
pub words_length : (k : ℕ) (ns : List ℕ) → length (words k ns) ≡ k * length ns
unfolding words
words_length k [] = sym (mul-zero k)
words_length k (n ∷ ns) = omega (arith, length-append (word k n) (words k ns), word_length k n, words_length k ns, mul-suc k (length ns))

-- the bytes of a number below 256 ^ k say it
pub little_word : (k n : ℕ) → n < 256 ^ k → little (word k n) ≡ n
unfolding little word
little_word zero n h = omega arith
little_word (suc k) n h =
    let less : n / 256 < 256 ^ k = (div-lt_iff_lt-mul {k = 256} {x = n} {y = 256 ^ k} (lit< tt)).1 (subst (λ (x : ℕ). n < x) (pow-succ' 256 k ∙ mul_comm 256 (256 ^ k)) h) in
    ap (λ (x : ℕ). n % 256 + 256 * x) (little_word k (n / 256) less) ∙ mod-add-div n 256

-- and the number that some bytes say has these bytes
pub word_little : (bs : List ℕ) → ((i : ℕ) → get_or bs i 0 < 256) → word (length bs) (little bs) ≡ bs
unfolding little word
word_little [] h = refl
word_little (b ∷ bs) h =
    let less : b < 256 = h 0 in
    let high : b / 256 + little bs ≡ little bs = omega (arith, div-eq_of_lt less) in
    ap₂ {C = List ℕ} ◌∷◌ (add-mul-mod_self_left b 256 (little bs) ∙ mod-eq_of_lt less)
    (ap (word (length bs)) (add-mul-div_left b (little bs) (lit< tt) ∙ high) ∙ word_little bs (λ i. h (suc i)))

-- one word further on, past the first
past_word : (k n : ℕ) (ns rest : List ℕ) (i : ℕ) → drop (k * suc i) (words k (n ∷ ns) ++ rest) ≡ drop (k * i) (words k ns ++ rest)
unfolding words
past_word k n ns rest i =
    let far : k * suc i ≡ length (word k n) + k * i = omega (arith, word_length k n, mul-suc k i) in
    ap (λ (x : ℕ). drop x ((word k n ++ words k ns) ++ rest)) far
    ∙ ap (drop (length (word k n) + k * i)) (append_assoc (word k n) (words k ns) rest)
    ∙ drop-append-add (word k n) (words k ns ++ rest) (k * i)

-- the first word is in front
first_word : (k n : ℕ) (ns rest : List ℕ) → take k (drop (k * 0) (words k (n ∷ ns) ++ rest)) ≡ word k n
unfolding words
first_word k n ns rest =
    ap (λ (x : ℕ). take k (drop x ((word k n ++ words k ns) ++ rest))) (mul-zero k)
    ∙ ap (take k) (append_assoc (word k n) (words k ns) rest)
    ∙ take_at (word k n) (words k ns ++ rest) k (word_length k n)

-- the number at a place is the one that was written there
pub word_at_words : (k : ℕ) (ns rest : List ℕ) (i : ℕ) → i < length ns → get_or ns i 0 < 256 ^ k → word_at k (words k ns ++ rest) i ≡ get_or ns i 0
unfolding word_at
word_at_words k [] rest i l h = absurd (not-suc-le-zero l)
word_at_words k (n ∷ ns) rest zero l h = ap little (first_word k n ns rest) ∙ little_word k n h
word_at_words k (n ∷ ns) rest (suc i) l h =
    ap (λ (x : List ℕ). little (take k x)) (past_word k n ns rest i) ∙ word_at_words k ns rest i (le_of_suc-le-suc l) h

-- what is written over the front of a slice stands there
pub written_front : (front s : List ℕ) → take (length front) (written front s) ≡ front
unfolding written
written_front front s = take-append_seam front (drop (length front) s)

-- Numbers in lent memory: a fixed count of bytes each, least byte first (docs/DECISIONS.md, "Bytes at the C boundary").
-- Assumes nothing.
use Rattle.std.specs.Prelude.{ℕ, zero, suc, ◌+◌, ◌*◌, ◌-◌, ◌/◌, ◌%◌, List, [], ◌∷◌, ◌++◌, cond, leb, length, take, drop, replicate}
use Rattle.std.proofs.lemmas.List.Edits.{sets}

-- the number that some bytes say
unfoldable pub little : List ℕ → ℕ
little [] = 0
little (b ∷ bs) = b + 256 * little bs

-- the k bytes of a number
unfoldable pub word : ℕ → ℕ → List ℕ
word zero n = []
word (suc k) n = n % 256 ∷ word k (n / 256)

-- numbers of k bytes each, one after the other
unfoldable pub words : ℕ → List ℕ → List ℕ
words k [] = []
words k (n ∷ ns) = word k n ++ words k ns

-- the number at place i, of k bytes each
unfoldable pub word_at : ℕ → List ℕ → ℕ → ℕ
word_at k s i = little (take k (drop (k * i) s))

-- a number written at place i, of k bytes; a slice without that place stays as it came
unfoldable pub with_word : ℕ → List ℕ → ℕ → ℕ → List ℕ
with_word k s i n = cond (leb (k * suc i) (length s)) (sets s (k * i) (word k n)) s

-- a slice whose front is written over: its other places stay as they came
unfoldable pub written : List ℕ → List ℕ → List ℕ
written front s = front ++ drop (length front) s

-- "unused places are zero": n places that begin with these
unfoldable pub padded : ℕ → List ℕ → List ℕ
padded n l = l ++ replicate (n - length l) 0

-- Names every definition of this module, for a proof that computes with them all.
unfoldable pub open_words : Unit {0}
unfolding little word words word_at with_word written padded
open_words = tt

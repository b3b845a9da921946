-- Some numbers and their bytes. Assumes nothing.
use mathlib.Core.Path.{◌≡◌, refl}
use mathlib.Core.List.{[], ◌∷◌}
use Rattle.words.specs.Words.{open_words, little, word, words, word_at, written, padded}

bytes_follow : word 2 10_002 ∷ word 8 1_000_000_000_000 ∷ words 2 (1 ∷ 258 ∷ []) ∷ []
    ≡ (18 ∷ 39 ∷ []) ∷ (0 ∷ 16 ∷ 165 ∷ 212 ∷ 232 ∷ 0 ∷ 0 ∷ 0 ∷ []) ∷ (1 ∷ 0 ∷ 2 ∷ 1 ∷ []) ∷ []
unfolding open_words
bytes_follow = refl

numbers_follow : little (0 ∷ 16 ∷ 165 ∷ 212 ∷ 232 ∷ 0 ∷ 0 ∷ 0 ∷ []) ∷ word_at 2 (1 ∷ 0 ∷ 2 ∷ 1 ∷ []) 0 ∷ word_at 2 (1 ∷ 0 ∷ 2 ∷ 1 ∷ []) 1 ∷ word_at 2 (1 ∷ 0 ∷ []) 1 ∷ []
    ≡ 1_000_000_000_000 ∷ 1 ∷ 258 ∷ 0 ∷ []
unfolding open_words
numbers_follow = refl

written_follows : written (1 ∷ 2 ∷ []) (7 ∷ 8 ∷ 9 ∷ []) ≡ 1 ∷ 2 ∷ 9 ∷ []
unfolding open_words
written_follows = refl

padded_follows : padded 4 (1 ∷ 2 ∷ []) ∷ padded 1 (1 ∷ 2 ∷ []) ∷ [] ≡ (1 ∷ 2 ∷ 0 ∷ 0 ∷ []) ∷ (1 ∷ 2 ∷ []) ∷ []
unfolding open_words
padded_follows = refl

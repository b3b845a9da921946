-- Bytes of a text, as the document writes them.
-- Assumes nothing.
use Rattle.std.specs.Prelude.{ℕ, Bool, true, false, ◌&&◌, List, [], ◌∷◌, eqb}
use Prim.Native.String as String
use Prim.Native.Char.{code}

-- "the first line is the bytes …": the bytes that a text of ASCII stands for
unfoldable pub bytes : String.String → List ℕ
bytes String.[] = []
bytes (String.◌∷◌ c s) = code c ∷ bytes s

-- two byte strings are the same
unfoldable pub same : List ℕ → List ℕ → Bool
same [] [] = true
same [] (b ∷ bs) = false
same (a ∷ as') [] = false
same (a ∷ as') (b ∷ bs) = eqb a b && same as' bs

-- Names every definition of this module, for a proof that computes with them all.
unfoldable pub open_text : Unit {0}
unfolding bytes same
open_text = tt

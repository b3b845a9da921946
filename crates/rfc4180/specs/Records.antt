-- The records of a table and the fields of a record (document 01, "The three tables"; RFC 4180 without quoted fields).
-- `proofs.Records` has the laws by which a reader that goes from left to right meets them.
-- Assumes nothing.
use Rattle.std.specs.Prelude.{ℕ, ◌&&◌, cond, List, [], ◌∷◌, eqb, drop, get_or}

-- a byte in front of what follows it: CR in front of LF ends a record there
unfoldable pub push : ℕ → List (List ℕ) → List (List ℕ)
push b [] = (b ∷ []) ∷ []
push b ([] ∷ ps) = (b ∷ []) ∷ ps
push b ((c ∷ p) ∷ ps) = cond (eqb b 13 && eqb c 10) ([] ∷ p ∷ ps) ((b ∷ c ∷ p) ∷ ps)

-- "Records end in CR LF": what stands before, between and after the CR LFs
unfoldable pub pieces : List ℕ → List (List ℕ)
pieces [] = [] ∷ []
pieces (b ∷ bs) = push b (pieces bs)

-- "the last may end without it. Zero bytes hold no record": nothing after the last CR LF is no record
unfoldable pub unended : List (List ℕ) → List (List ℕ)
unended [] = []
unended ([] ∷ []) = []
unended ([] ∷ p ∷ ps) = [] ∷ unended (p ∷ ps)
unended ((b ∷ bs) ∷ ps) = (b ∷ bs) ∷ unended ps

-- the records of a table, its first line included
unfoldable pub records : List ℕ → List (List ℕ)
records t = unended (pieces t)

-- the first record of the rest of a table: what stands before its first CR LF, or all where there is none
unfoldable pub first_record : List ℕ → List ℕ
first_record t = get_or (pieces t) 0 []

-- a byte in front of the first field
unfoldable pub widen : ℕ → List (List ℕ) → List (List ℕ)
widen b [] = (b ∷ []) ∷ []
widen b (f ∷ fs) = (b ∷ f) ∷ fs

-- the fields of a record stand between its commas; "A field is handed on as the part of the table that holds it."
unfoldable pub fields : List ℕ → List (List ℕ)
fields [] = [] ∷ []
fields (b ∷ bs) = cond (eqb b 44) ([] ∷ fields bs) (widen b (fields bs))

-- the field that begins at place i of a record; past its end, an empty one
unfoldable pub field_at : List ℕ → ℕ → List ℕ
field_at r i = get_or (fields (drop i r)) 0 []

-- Names every definition of this module, for a proof that computes with them all.
unfoldable pub open_records : Unit {0}
unfolding push pieces unended records first_record widen fields field_at
open_records = tt

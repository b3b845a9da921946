-- How a reader that goes from left to right meets the records and fields of `specs.Records`: one record, or field, and the rest.
-- Assumes nothing.
use Prim.Native.Nat.{ℕ}
use mathlib.Core.Path.{◌≡◌, refl, ap, sym, ◌∙◌}
use mathlib.Core.Bool.{Bool, true, false, ◌&&◌, not, cond}
use mathlib.Core.List.{List, [], ◌∷◌, ◌++◌}
use lib.Dec.{T, eqb}
use mir.Facts.{and_yes}
use Rattle.rfc4180.specs.Records.{push, pieces, unended, records, widen, fields}

-- no CR LF inside
abbrev pub no_end : List ℕ → Bool
no_end [] = true
no_end (b ∷ []) = true
no_end (b ∷ c ∷ bs) = not (eqb b 13 && eqb c 10) && no_end (c ∷ bs)

-- no comma inside
abbrev pub no_comma : List ℕ → Bool
no_comma [] = true
no_comma (b ∷ bs) = not (eqb b 44) && no_comma bs

-- a test that fails picks the second
cond_not : {A : Type 0} (b : Bool) (x y : A) → T (not b) → cond b x y ≡ y
cond_not true x y t = absurd t
cond_not false x y t = refl

-- the pieces are one and others
abbrev pub Nonempty : List (List ℕ) → Type 0
Nonempty t = (p : List ℕ) × (ps : List (List ℕ)) × (t ≡ p ∷ ps)

pushed : (b : ℕ) (p : List ℕ) (ps : List (List ℕ)) → Nonempty (push b (p ∷ ps))
unfolding push
pushed b [] ps = (b ∷ [], ps, refl)
pushed b (c ∷ p) ps = by (eqb b 13 && eqb c 10)
  where
    by : (t : Bool) → Nonempty (cond t ([] ∷ p ∷ ps) ((b ∷ c ∷ p) ∷ ps))
    by true = ([], p ∷ ps, refl)
    by false = (b ∷ c ∷ p, ps, refl)

-- there is always a piece
pub some_piece : (t : List ℕ) → Nonempty (pieces t)
unfolding pieces
some_piece [] = ([], [], refl)
some_piece (b ∷ bs) = let (p, ps, e) = some_piece bs in let (q, qs, f) = pushed b p ps in (q, qs, ap (push b) e ∙ f)

-- CR LF in front of a piece ends an empty one
end_piece : (p : List ℕ) (ps : List (List ℕ)) → push 13 (push 10 (p ∷ ps)) ≡ [] ∷ p ∷ ps
unfolding push
end_piece [] ps = refl
end_piece (c ∷ p) ps = refl

-- a byte in front of a piece, where no CR LF arises
push_on : (b : ℕ) (r : List ℕ) (ps : List (List ℕ)) → T (no_end (b ∷ r)) → push b (r ∷ ps) ≡ (b ∷ r) ∷ ps
unfolding push
push_on b [] ps t = refl
push_on b (c ∷ r) ps t = cond_not (eqb b 13 && eqb c 10) _ _ (and_yes (not (eqb b 13 && eqb c 10)) (no_end (c ∷ r)) t).0

no_end_tail : (b : ℕ) (r : List ℕ) → T (no_end (b ∷ r)) → T (no_end r)
no_end_tail b [] t = tt
no_end_tail b (c ∷ r) t = (and_yes (not (eqb b 13 && eqb c 10)) (no_end (c ∷ r)) t).1

-- a piece and the rest
pub pieces_line : (r rest : List ℕ) → T (no_end r) → pieces (r ++ (13 ∷ 10 ∷ rest)) ≡ r ∷ pieces rest
unfolding pieces
pieces_line [] rest t = let (p, ps, e) = some_piece rest in ap (λ (x : List (List ℕ)). push 13 (push 10 x)) e ∙ end_piece p ps ∙ ap (λ (x : List (List ℕ)). [] ∷ x) (sym e)
pieces_line (b ∷ r) rest t = ap (push b) (pieces_line r rest (no_end_tail b r t)) ∙ push_on b r (pieces rest) t

-- the last piece
pub pieces_last : (r : List ℕ) → T (no_end r) → pieces r ≡ r ∷ []
unfolding pieces
pieces_last [] t = refl
pieces_last (b ∷ r) t = ap (push b) (pieces_last r (no_end_tail b r t)) ∙ push_on b r [] t

unended_on : (r p : List ℕ) (ps : List (List ℕ)) → unended (r ∷ p ∷ ps) ≡ r ∷ unended (p ∷ ps)
unfolding unended
unended_on [] p ps = refl
unended_on (b ∷ r) p ps = refl

-- "Records end in CR LF": a record and the rest
pub records_line : (r rest : List ℕ) → T (no_end r) → records (r ++ (13 ∷ 10 ∷ rest)) ≡ r ∷ records rest
unfolding records
records_line r rest t =
    let (p, ps, e) = some_piece rest in
    ap unended (pieces_line r rest t ∙ ap (λ (x : List (List ℕ)). r ∷ x) e) ∙ unended_on r p ps ∙ ap (λ (x : List (List ℕ)). r ∷ unended x) (sym e)

-- "the last may end without it"
pub records_last : (b : ℕ) (r : List ℕ) → T (no_end (b ∷ r)) → records (b ∷ r) ≡ (b ∷ r) ∷ []
unfolding unended records
records_last b r t = ap unended (pieces_last (b ∷ r) t)

-- "Zero bytes hold no record."
pub records_none : records [] ≡ []
unfolding pieces unended records
records_none = refl

-- a field and the rest
pub fields_comma : (f rest : List ℕ) → T (no_comma f) → fields (f ++ (44 ∷ rest)) ≡ f ∷ fields rest
unfolding fields widen
fields_comma [] rest t = refl
fields_comma (b ∷ f) rest t =
    cond_not (eqb b 44) _ _ (and_yes (not (eqb b 44)) (no_comma f) t).0
    ∙ ap (widen b) (fields_comma f rest (and_yes (not (eqb b 44)) (no_comma f) t).1)

-- the last field
pub fields_last : (f : List ℕ) → T (no_comma f) → fields f ≡ f ∷ []
unfolding fields widen
fields_last [] t = refl
fields_last (b ∷ f) t =
    cond_not (eqb b 44) _ _ (and_yes (not (eqb b 44)) (no_comma f) t).0
    ∙ ap (widen b) (fields_last f (and_yes (not (eqb b 44)) (no_comma f) t).1)

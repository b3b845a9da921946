-- A table's bytes, its first line and the records after it, and what a count says of the table. Assumes nothing.
use Rattle.std.specs.Prelude.{Option, None, Some, Err, Ok}
use Rattle.std.specs.Option.{MatchOption}
use Rattle.std.proofs.Common.{Bor}
use Prim.Native.Nat.{ℕ, ◌≤◌, ◌<◌}
use mathlib.Core.Path.{◌≡◌, refl, ap, sym, ◌∙◌, subst}
use mathlib.Core.Bool.{Bool, true, false, cond}
use mathlib.Core.List.{List, [], ◌∷◌}
use lib.Dec.{T}
use lib.ListN.{length}
use borrow.Author.Tests.{le-leb, lt-leb}
use Rattle.rfc4180.specs.Text.{same}
use Rattle.floor.specs.declared.Reason.{Reason}
use Rattle.floor.specs.declared.Table.{Table}
use Rattle.floor.specs.declared.Refusal.{Refusal}
use Rattle.floor.specs.Refusal.{Judged, ◌>>=◌, need, within_bytes, after_first_line}
use Rattle.tables.specs.Reading.{counted, Count, BeginsWith}

-- a refusal at record 0
abbrev pub at_none : Table → Reason → Refusal
at_none t why = record { reason = why; table = t; row = 0 }

-- "At most 65,536 bytes a table": too many
pub bytes_over : (t : Table) (b : List ℕ) → 65536 < length b → within_bytes t b ≡ Err (at_none t Reason.Limit)
unfolding within_bytes need
bytes_over t b h = ap (λ (x : Bool). need x Reason.Limit t 0) (lt-leb (length b) 65536 h)

-- and not too many
pub bytes_within : (t : Table) (b : List ℕ) → length b ≤ 65536 → within_bytes t b ≡ Ok tt
unfolding within_bytes need
bytes_within t b h = ap (λ (x : Bool). need x Reason.Limit t 0) (le-leb (length b) 65536 h)

module _ (line : List ℕ) (rows left : List (List ℕ)) (there : Bool) (begins : BeginsWith line rows there left) (t : Table) where
  -- a table that begins with another line
  pub line_other : there ≡ false → after_first_line line t rows ≡ Err (at_none t Reason.Layout)
  line_other e = begins t ∙ ap (λ (x : Bool). cond x (Ok left) (Err (at_none t Reason.Layout))) e

  -- one that begins with the line: the records after it
  pub line_there : there ≡ true → after_first_line line t rows ≡ Ok left
  line_there e = begins t ∙ ap (λ (x : Bool). cond x (Ok left) (Err (at_none t Reason.Layout))) e

-- a table without a record has no first line
line_none : (line : List ℕ) (left : List (List ℕ)) → BeginsWith line [] false left
unfolding after_first_line
line_none line left t = refl

-- one with a record has that one
line_first : (line r : List ℕ) (rs : List (List ℕ)) → BeginsWith line (r ∷ rs) (same line r) rs
unfolding after_first_line need ◌>>=◌
line_first line r rs t = by (same line r)
  where
    by : (b : Bool) → (need b Reason.Layout t 0 >>= λ _. Ok rs) ≡ cond b (Ok rs) (Err (at_none t Reason.Layout))
    by true = refl
    by false = refl

-- what is told of the first record, if there is one, is told of the table
pub line_begins : (line : List ℕ) (first : Option (Bor (List ℕ))) (rows left : List (List ℕ)) (there : Bool)
    → MatchOption first ((rows ≡ []) × (left ≡ [])) (λ r. rows ≡ r.now ∷ left)
    → (first ≡ None → there ≡ false) → ((r : Bor (List ℕ)) → first ≡ Some r → there ≡ same line r.now) → BeginsWith line rows there left
line_begins line None rows left there m none some = rw (m.0, none refl) (line_none line left)
line_begins line (Some r) rows left there m none some = rw (m, some r refl) (line_first line r.now left)

-- how many a count says there are, or its refusal
count_of : Count → ℕ
count_of (Ok n) = n
count_of (Err r) = 0

refusal_of : Refusal → Count → Refusal
refusal_of d (Ok n) = d
refusal_of d (Err r) = r

reads : Count → Bool
reads (Ok n) = true
reads (Err r) = false

-- a table that is counted is accepted, as so many
pub counted_read : {A : Type 0} (j : Judged (List A)) (n : ℕ) → Ok n ≡ counted j → (as' : List A) × (j ≡ Ok as') × (length as' ≡ n)
unfolding counted count_of reads
counted_read (Err r) n e = absurd (subst T (ap reads e) tt)
counted_read (Ok as') n e = (as', refl, sym (ap count_of e))

-- one that is not is refused so
pub counted_refused : {A : Type 0} (j : Judged (List A)) (r : Refusal) → Err r ≡ counted j → j ≡ Err r
unfolding counted refusal_of reads
counted_refused (Err q) r e = ap Err (sym (ap (refusal_of r) e))
counted_refused (Ok as') r e = absurd (subst T (sym (ap reads e)) tt)

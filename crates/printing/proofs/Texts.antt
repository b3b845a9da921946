-- The text of a refusal piece by piece is that of `specs.Text`. Assumes nothing.
use Prim.Native.Nat.{ℕ, zero, suc, ◌<◌}
use native.Mathlib.Omega.{arith}
use mathlib.Core.Path.{◌≡◌}
use mathlib.Core.List.{◌++◌, append_assoc}
use Rattle.rfc4180.specs.Text.{bytes}
use Rattle.floor.specs.declared.Table.{Table}
use Rattle.floor.specs.Refusal.{table_number}
use Rattle.printing.specs.Text.{place_shown, refusal_text}
use Rattle.printing.specs.Lines.{field, ending}

-- where there is a table
refusal_pieces : (why table row : ℕ) → 0 < table → bytes "refusal,table,record\r\n" ++ (field why ++ (field table ++ ending row)) ≡ refusal_text why table row
unfolding refusal_text place_shown field ending
refusal_pieces why zero row h = absurd (omega arith)
refusal_pieces why (suc t) row h = simp append_assoc

-- a table has a number
some_table : (t : Table) → 0 < table_number t
unfolding table_number
some_table Table.Roads = omega arith
some_table Table.Carts = omega arith
some_table Table.Paths = omega arith

pub refusal_whole : (why : ℕ) (t : Table) (row : ℕ) → bytes "refusal,table,record\r\n" ++ (field why ++ (field (table_number t) ++ ending row)) ≡ refusal_text why (table_number t) row
refusal_whole why t row = refusal_pieces why (table_number t) row (some_table t)

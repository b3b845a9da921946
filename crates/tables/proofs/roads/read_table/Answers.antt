-- `tables::roads::read_table` meets its contract. Assumes nothing.
use Rattle.std.specs.Prelude.{Err}
use Prim.Native.Nat.{ℕ, ◌≤◌, ◌<◌}
use mathlib.Core.Path.{◌≡◌, ap, ◌∙◌}
use mathlib.Core.Bool.{Bool, true, false}
use mathlib.Core.List.{List, []}
use lib.ListN.{length}
use Rattle.rfc4180.specs.Text.{bytes}
use Rattle.rfc4180.specs.Records.{records}
use Rattle.floor.specs.declared.Reason.TheVariants.{Layout, Limit}
use Rattle.floor.specs.declared.Table.TheVariants.{Roads}
use Rattle.floor.specs.Refusal.{within_bytes, after_first_line, records_in_order}
use Rattle.floor.specs.Roads.{road, read_roads}
use Rattle.floor.proofs.Judging.{goes_on, ends}
use Rattle.tables.specs.Reading.{BeginsWith}
use Rattle.tables.proofs.FirstLine.{at_none, bytes_over, bytes_within, line_other, line_there}
use Rattle.tables.proofs.Indexes.{no_roads, roads_as}
use Rattle.tables.proofs.roads.read_table.Goals as goal

abbrev line : List ℕ
line = bytes "from,to,length,margin"

-- too many bytes
over : (b : List ℕ) → 65536 < length b → read_roads b ≡ Err (at_none Roads Limit)
unfolding read_roads
over b h = ends (within_bytes Roads b) _ _ (bytes_over Roads b h)

module _ (b : List ℕ) (few : length b ≤ 65536) (t : Bool) (rows : List (List ℕ)) (begins : BeginsWith line (records b) t rows) where
  -- another first line
  other : t ≡ false → read_roads b ≡ Err (at_none Roads Layout)
  unfolding read_roads
  other e = goes_on (within_bytes Roads b) _ tt (bytes_within Roads b few) ∙ ends (after_first_line line Roads (records b)) _ _ (line_other _ _ rows t begins Roads e)

  -- the records after it
  after : t ≡ true → read_roads b ≡ records_in_order road [] rows
  unfolding read_roads
  after e = goes_on (within_bytes Roads b) _ tt (bytes_within Roads b few) ∙ goes_on (after_first_line line Roads (records b)) _ _ (line_there _ _ rows t begins Roads e)

pub returns-then-table-gt65536 : goal.returns-then-table-gt65536
returns-then-table-gt65536 c =
    let a = c.args in
    let (the-answer, (the-left, the-index)) = no_roads (read_roads a.table.now) _ _ _ _ (over a.table.now c.if-table-gt65536.true) in
    record { answer = ap Err c.refuses.ensures ∙ the-answer; left = the-left; index = the-index }

pub returns-then-not-begins_with : goal.returns-then-not-begins_with
unfolding bytes
returns-then-not-begins_with c =
    let a = c.args in
    let (the-answer, (the-left, the-index)) = no_roads (read_roads a.table.now) _ _ _ _ (other a.table.now c.if-table-gt65536.false _ _ c.begins_with.ensures c.if-not-begins_with.true) in
    record { answer = ap Err c.refuses-then-not-begins_with.ensures ∙ the-answer; left = the-left; index = the-index }

pub returns : goal.returns
unfolding bytes
returns c =
    let a = c.args in
    let (the-answer, (the-left, the-index)) = roads_as (read_roads a.table.now) _ _ _ _ _
    (after a.table.now c.if-table-gt65536.false _ _ c.begins_with.ensures c.if-not-begins_with.false) (c.roads_from.ensures.answer, (c.roads_from.ensures.left, c.roads_from.ensures.index)) in
    record { answer = the-answer; left = the-left; index = the-index }

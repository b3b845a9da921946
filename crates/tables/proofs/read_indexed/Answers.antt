-- `tables::read_indexed` meets its contract, on all input. Assumes nothing.
use Rattle.std.proofs.Common.{rules, ◌≡◌, ◌∙◌, sym, subst, refl, List, ℕ}
use Rattle.tables.specs.Index.{Indexed, Linked}
use Rattle.tables.specs.Reading.{roads_read}
use Rattle.tables.proofs.TablesRead.{index_there, room_length, roads_none, roads_told}
use Rattle.tables.proofs.read_indexed.Goals as goal
use Rattle.tables.proofs.read_indexed.Goals.{Then-is_ok}

-- what was made is the index of the roads that were read
made : (c : Then-is_ok) → Linked (roads_read c.read_arrays-x.result) c.read_arrays-x.new.arrays.edges.now c.read_arrays-x.new.index
made c = roads_told c.read_arrays-x.result (search rules) _ _ c.read_arrays-x.ensures.index

pub copy_from_slice-requires : goal.copy_from_slice-requires
copy_from_slice-requires c =
    let (h, n) = room_length c.args.index.now (sym c.has_room.ensures ∙ c.if-not-has_room.false) in
    h ∙ sym (made (goal.at.copy_from_slice-requires c).Then-is_ok).heads_long

pub copy_from_slice-requires-then-is_ok : goal.copy_from_slice-requires-then-is_ok
copy_from_slice-requires-then-is_ok c =
    let (h, n) = room_length c.args.index.now (sym c.has_room.ensures ∙ c.if-not-has_room.false) in
    n ∙ sym (made (goal.at.copy_from_slice-requires-then-is_ok c).Then-is_ok).nexts_long

pub returns-then-is_ok-clause-index : goal.returns-then-is_ok-clause-index
returns-then-is_ok-clause-index c =
    let i = c.read_arrays-x.new.index in
    let r = roads_read c.read_arrays-x.result in
    let s = c.read_arrays-x.new.arrays.edges.now in
    let h : c.copy_from_slice.new.self ≡ i.heads.now = search rules in
    let n : c.copy_from_slice-then-is_ok.new.self ≡ i.nexts.now = search rules in
    index_there _ _ c.args.index.now _ (record { heads = refl; nexts = refl; heads_long = search rules; nexts_long = search rules }) (sym c.has_room.ensures ∙ c.if-not-has_room.false)
    (subst (λ (x : List ℕ). Indexed r s c.copy_from_slice.new.self x) (sym n)
    (subst (λ (x : List ℕ). Indexed r s x i.nexts.now) (sym h) (made (goal.at.returns-then-is_ok-clause-index c).Then-is_ok).indexed))

pub returns-else-is_ok-clause-index : goal.returns-else-is_ok-clause-index
returns-else-is_ok-clause-index c =
    index_there _ _ c.args.index.now _ c.clear.ensures.same (sym c.has_room.ensures ∙ c.if-not-has_room.false)
    (roads_none c.read_arrays-x.result (search rules) _ _ _ c.clear.ensures)

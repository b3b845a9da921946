-- `slice::read_laid` meets its contract, on all input. Assumes nothing.
use Rattle.std.proofs.Common.{◌∙◌, sym}
use Rattle.slice.proofs.Holds.{an_error, an_answer}
use Rattle.slice.proofs.Indexing.{index_kept, index_handed, index_cleared}
use Rattle.slice.proofs.read_laid.Goals as goal
use Rattle.slice.proofs.read_laid.Goals.{else-is_err-via-then-is_err+else-has_room, else-is_err-via-else-is_err}

-- no plan, and room for an index
pub returns-then-has_room-clause-index : goal.returns-then-has_room-clause-index
returns-then-has_room-clause-index c =
    let (why, q) = an_error c.read_room-x.result _ c.is_err.ensures.value c.if-is_err.true in
    index_cleared _ why q _ _ _ _ c.read_room-x.ensures.index (sym c.has_room.ensures ∙ c.if-has_room.true) c.clear.ensures

-- a plan, or no room
pub returns-else-is_err-clause-index : goal.returns-else-is_err-clause-index
returns-else-is_err-clause-index c = elim c.else-is_err.branch [
  | else-is_err-via-then-is_err+else-has_room w ↦ index_kept _ _ _ _ (sym w.has_room.ensures ∙ w.if-has_room.false) c.read_room-x.ensures.index
  | else-is_err-via-else-is_err w ↦ let (n, q) = an_answer c.read_room-x.result _ c.is_err.ensures.value w.if-is_err.false in index_handed _ n _ _ _ q c.read_room-x.ensures.index
]

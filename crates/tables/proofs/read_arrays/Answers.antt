-- `tables::read_arrays` meets its contract, on all input. Assumes nothing.
use Rattle.std.proofs.Common.{◌∙◌, ap, sym, subst, Ok}
use Rattle.tables.specs.declared.Size.{Size}
use Rattle.tables.specs.Index.{Linked}
use Rattle.tables.specs.Lending.{tables_of, arrays_of}
use Rattle.tables.specs.Reading.{read_answer, size_of, AsLong}
use Rattle.tables.proofs.TablesRead.{size_refused, size_there, error_not_read, index_read, into_short, into_refused, into_read, cleared_long, zeros_as, numbers_as, room_as, same_self, same_on}
use Rattle.tables.proofs.read_arrays.Goals as goal
use Rattle.tables.proofs.read_arrays.Goals.{After-clear}

-- what is cleared is as long as before
long : (c : After-clear) → AsLong (arrays_of c.args.arrays.now) (arrays_of c.clear.new.self)
long c = cleared_long _ _ c.clear.ensures.left

pub returns-then-not-has_room : goal.returns-then-not-has_room
returns-then-not-has_room c =
    let (x, y) = into_short (tables_of c.args.tables) (arrays_of c.args.arrays.now) (sym c.has_room.ensures ∙ c.if-not-has_room.true) in
    record { answer = x; left = y; same = same_self _; index = λ n f. absurd (error_not_read _ n f) }

pub read_each-requires : goal.read_each-requires
read_each-requires c =
    let l = long (goal.at.read_each-requires c).After-clear in record {
      room = room_as _ _ l ∙ sym c.has_room.ensures ∙ c.if-not-has_room.false;
      cleared = c.clear.ensures.left ∙ sym (zeros_as _ _ l);
      unlinked = c.requires;
    }

pub returns-in-Err : goal.returns-in-Err
returns-in-Err c =
    let l = long (goal.at.returns-in-Err c).After-clear in
    let r = c.read_each.ensures in
    let (x, y) = into_refused (tables_of c.args.tables) (arrays_of c.args.arrays.now) (sym c.has_room.ensures ∙ c.if-not-has_room.false) _
    (size_refused _ _ c.in-Err.ensures.answer) _ (c.clear-in-Err.ensures.left ∙ zeros_as _ _ r.same.as_long ∙ zeros_as _ _ l) in
    record { answer = x; left = y; same = same_on _ _ _ (same_on _ _ _ c.clear.ensures.same r.same) c.clear-in-Err.ensures.same; index = λ n f. absurd (error_not_read _ n f) }

pub returns-in-Ok : goal.returns-in-Ok
unfolding read_answer size_of
returns-in-Ok c =
    let l = long (goal.at.returns-in-Ok c).After-clear in
    let r = c.read_each.ensures in
    let (p, q, n) = size_there _ _ c.in-Ok.ensures.answer in
    let (x, y) = into_read (tables_of c.args.tables) (arrays_of c.args.arrays.now) (sym c.has_room.ensures ∙ c.if-not-has_room.false) p q (Ok c.in-Ok.size)
    (ap Ok n) _ (r.left p q ∙ numbers_as _ _ l p) in
    record {
      answer = x;
      left = y;
      same = same_on _ _ _ c.clear.ensures.same r.same;
      index = index_read c.in-Ok.size _ _ (subst (λ (m : Size). Linked m.roads c.read_each.new.arrays.edges.now c.read_each.new.index) (sym n) (r.index p q));
    }

-- `slice::read_parts` meets its contract: the tables are refused, or they give a plan. Assumes nothing.
use native.Mathlib.Omega.{arith}
use Rattle.tables.specs.Lending.{arrays_of}
use Rattle.slice.proofs.Holds.{parts_found, tables_few, parts_unread, parts_laid}
use Rattle.slice.proofs.Indexing.{index_refused, index_read}
use Rattle.slice.proofs.read_parts.Goals as goal

pub texts-requires : goal.texts-requires
texts-requires c =
    let few = tables_few c.args.plan.bytes.now in
    let sizes = (parts_found c.args.plan.bytes.now c.args.layout c.requires.layout_is).1 in
    omega (arith, sizes.0, few.0, c.args.plan.long)

pub returns-in-Err : goal.returns-in-Err
returns-in-Err c =
    let (alone, sizes) = parts_found c.args.plan.bytes.now c.args.layout c.requires.layout_is in
    let r = c.read_indexed.ensures in
    let (x, y) = parts_unread c.args.plan.bytes.now alone c.args.layout sizes (arrays_of c.args.arrays.now) c.requires.room _ c.texts.ensures _ _ (r.answer, r.left) _ c.in-Err.is in
    record { answer = x; left = y; same = r.same; index = index_refused _ _ _ _ _ r.index }

pub returns-in-Ok : goal.returns-in-Ok
returns-in-Ok c =
    let (alone, sizes) = parts_found c.args.plan.bytes.now c.args.layout c.requires.layout_is in
    let r = c.read_indexed.ensures in
    let (x, y) = parts_laid c.args.plan.bytes.now alone c.args.layout sizes (arrays_of c.args.arrays.now) c.requires.room _ c.texts.ensures _ _ (r.answer, r.left) _ c.in-Ok.is in
    record { answer = x; left = y; same = r.same; index = index_read _ _ c.args.layout.reports _ _ _ c.in-Ok.is r.index }

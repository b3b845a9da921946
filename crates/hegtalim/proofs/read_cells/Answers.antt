-- `hegtalim::read_cells` meets its contract. Assumes nothing.
use Rattle.std.proofs.Common.{rules}
use mathlib.Core.Path.{ap, ◌∙◌}
use lib.Dec.{lit≤}
use Rattle.tables.specs.Lending.{tables_of}
use Rattle.tables.specs.Reading.{Arrays}
use Rattle.tables.proofs.TablesRead.{room_for}
use Rattle.hegtalim.proofs.Loading.{read_said, cells_left}
use Rattle.hegtalim.proofs.read_cells.Goals as goal

pub returns : goal.returns
returns c =
    let ts = tables_of c.args.tables in record {
      answer = c.read_tables.ensures.answer ∙ read_said ts _ (room_for _ _ _ (lit≤ tt) (lit≤ tt) c.requires);
      left = λ p e. search rules ∙ ap (λ (a : Arrays). a.cells) c.read_tables.ensures.left ∙ cells_left ts _ (room_for _ _ _ (lit≤ tt) (lit≤ tt) c.requires) p e;
    }

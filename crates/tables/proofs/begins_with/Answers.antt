-- `tables::begins_with` meets its contract. Assumes nothing.
use Rattle.std.proofs.Common.{rules}
use Rattle.tables.proofs.FirstLine.{line_begins}
use Rattle.tables.proofs.begins_with.Goals as goal

pub returns : goal.returns
returns c = line_begins _ _ _ _ _ c.next.ensures.steps (λ e. search rules) (λ r e. search rules)

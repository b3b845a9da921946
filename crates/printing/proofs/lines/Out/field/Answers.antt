-- `printing::lines::Out::field` meets its contract: a comma behind a number. Assumes nothing.
use Rattle.printing.specs.Lines.{field}
use Rattle.printing.proofs.Puts.{puts_then}
use Rattle.printing.proofs.lines.Out.field.Goals as goal

pub returns : goal.returns
unfolding field
returns c = puts_then c.number.ensures c.text.ensures

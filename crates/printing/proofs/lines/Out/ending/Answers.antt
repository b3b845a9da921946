-- `printing::lines::Out::ending` meets its contract: CR LF behind a number. Assumes nothing.
use Rattle.printing.specs.Lines.{ending}
use Rattle.printing.proofs.Puts.{puts_then}
use Rattle.printing.proofs.lines.Out.ending.Goals as goal

pub returns : goal.returns
unfolding ending
returns c = puts_then c.number.ensures c.text.ensures

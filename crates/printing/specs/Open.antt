-- All definitions of this crate and of those below it, opened for a proof that computes with them.
-- Assumes nothing.
use Rattle.hegtalim.specs.Open.{open_hegtalim}
use Rattle.printing.specs.Text.{open_text}
use Rattle.printing.specs.Output.{open_output}
use Rattle.printing.specs.Lines.{open_lines}

unfoldable pub open_printing : Unit {0}
unfolding open_hegtalim open_text open_output open_lines
open_printing = tt

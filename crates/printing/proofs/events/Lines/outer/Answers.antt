-- `printing::events::Lines::outer` meets its contract: four fields, one of them empty. Assumes nothing.
use mathlib.Core.Path.{refl}
use Rattle.printing.specs.Lines.{outer_line}
use Rattle.printing.proofs.Puts.{puts_then, puts_as}
use Rattle.printing.proofs.events.Lines.outer.Goals as goal

pub returns : goal.returns
unfolding outer_line
returns c =
    let puts = puts_then c.field.ensures (puts_then c.field-2.ensures (puts_then c.text.ensures c.ending.ensures)) in
    record { same = refl; puts = puts_as (cc) puts; times = refl; event = refl }

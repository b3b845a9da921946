-- `printing::events::Lines::point` meets its contract: four fields, one behind the other. Assumes nothing.
use mathlib.Core.Path.{refl}
use Rattle.printing.specs.Lines.{point_line}
use Rattle.printing.proofs.Puts.{puts_then, puts_as}
use Rattle.printing.proofs.events.Lines.point.Goals as goal

pub returns : goal.returns
unfolding point_line
returns c =
    let puts = puts_then c.field.ensures (puts_then c.field-2.ensures (puts_then c.field-3.ensures c.ending.ensures)) in
    record { same = refl; puts = puts_as (cc) puts; times = refl; event = refl }

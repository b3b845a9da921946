-- `printing::lines::Out::text` meets its contract. Assumes nothing.
use Rattle.std.proofs.Common.{rules}
use native.Mathlib.Omega.{arith}
use mathlib.Core.Path.{refl}
use Rattle.printing.proofs.Puts.{text_puts}
use Rattle.printing.proofs.lines.Out.text.Goals as goal

pub returns : goal.returns
returns c = text_puts c.args.self.now _ c.min-n.result _ c.args.text.now _ c.min-n.ensures refl refl refl (search rules) (omega arith)

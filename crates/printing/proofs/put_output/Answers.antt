-- `printing::put_output` meets its contract: the tables are refused, or a plan is held. Assumes nothing.
use Rattle.std.specs.Prelude.{Err}
use Rattle.std.proofs.Common.{rules}
use mathlib.Core.Path.{◌≡◌}
use Rattle.tables.specs.declared.ReadError.{ReadError as LoadError}
use Rattle.printing.specs.Lines.{Puts}
use Rattle.printing.proofs.Puts.{puts_as}
use Rattle.printing.proofs.Outcomes.{said, held_output}
use Rattle.printing.proofs.put_output.Goals as goal

pub returns-in-Err-TooShort : goal.returns-in-Err-TooShort
returns-in-Err-TooShort c =
    let is : c.load.result ≡ Err LoadError.TooShort = search rules in
    absurd (said _ c.args.plan.now c.requires c.load.ensures.answer is)

pub returns-in-Err-Refused : goal.returns-in-Err-Refused
returns-in-Err-Refused c =
    let is : c.load.result ≡ Err (LoadError.Refused c.in-Err-Refused.why) = search rules in
    puts_as (said _ c.args.plan.now c.requires c.load.ensures.answer is) c.put_refusal.ensures

pub returns-in-Ok : goal.returns-in-Ok
returns-in-Ok c =
    held_output _ c.args.plan.now c.requires c.load.result c.in-Ok.is c.load.ensures.answer _ c.load.ensures.left (λ x. Puts c.args.out.now x c.put_timed.new.out) c.put_timed.ensures

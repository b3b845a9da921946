-- `printing::put_timed` meets its contract: refusal 13, or the times. Assumes nothing.
use Rattle.std.specs.Prelude.{Err}
use Rattle.std.proofs.Common.{rules}
use mathlib.Core.Path.{◌≡◌, ◌∙◌}
use Rattle.rfc4180.specs.Text.{bytes}
use Rattle.hegtalim.specs.declared.TimeError.{TimeError}
use Rattle.printing.proofs.Puts.{puts_as}
use Rattle.printing.proofs.Timings.{none_text, said}
use Rattle.printing.proofs.put_timed.Goals as goal

pub returns-in-Err-TooShort : goal.returns-in-Err-TooShort
returns-in-Err-TooShort c h e =
    let is : c.timetable.result ≡ Err TimeError.TooShort = search rules in
    absurd (said c.args.plan.bytes.now c.args.plan.long h e c.timetable.ensures.timed is)

pub returns-in-Err-NoTimes : goal.returns-in-Err-NoTimes
unfolding bytes
returns-in-Err-NoTimes c h e =
    let is : c.timetable.result ≡ Err (TimeError.NoTimes c.in-Err-NoTimes.field-0-0) = search rules in
    puts_as (none_text ∙ said c.args.plan.bytes.now c.args.plan.long h e c.timetable.ensures.timed is) c.text.ensures

pub returns-in-Ok : goal.returns-in-Ok
returns-in-Ok c h e =
    puts_as (said c.args.plan.bytes.now c.args.plan.long h e c.timetable.ensures.timed c.in-Ok.is) (c.put_plan.ensures h e)

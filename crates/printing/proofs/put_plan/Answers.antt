-- `printing::put_plan` meets its contract: the slice holds a plan, whose paths are read into an array. Assumes nothing.
use Rattle.std.proofs.Common.{rules}
use mathlib.Core.Path.{sym, ◌∙◌}
use Rattle.laws.proofs.Options.{none-ne-some}
use Rattle.words.specs.Words.{word_at}
use Rattle.tables.specs.Lending.{arrays_of}
use Rattle.slice.proofs.HeldPlan.{no_plan, held_there}
use Rattle.printing.proofs.Puts.{puts_as}
use Rattle.printing.proofs.Plans.{HeldPaths, held_paths}
use Rattle.printing.proofs.put_plan.Goals as goal
use Rattle.printing.proofs.put_plan.Goals.{After-paths}

-- the paths are the plan's
its_paths : (c : After-paths) → HeldPaths c.args.plan.bytes.now c.paths.result
its_paths c =
    let p = c.read_plan in
    let there = held_there c.args.plan.bytes.now c.args.plan.long p.result p.ensures.answer _ p.ensures.left _ c.in-Ok.is in
    held_paths c.args.plan.bytes.now (arrays_of p.new.arrays) c.in-Ok.held there c.paths.result (c.paths.ensures.cells ∙ search rules) c.paths.ensures.carts c.paths.ensures.steps

pub put_times-requires : goal.put_times-requires
put_times-requires c =
    let h = its_paths (goal.at.put_times-requires c).After-paths in record { carts_bound = h.cells; few = h.few }

pub returns-in_default : goal.returns-in_default
returns-in_default c h e = absurd (none-ne-some _ (sym (no_plan c.args.plan.bytes.now c.args.plan.long c.read_plan.result c.read_plan.ensures.answer _ c.in_default.is) ∙ e))

pub returns-in-Ok : goal.returns-in-Ok
returns-in-Ok c h e = puts_as ((its_paths (goal.at.returns-in-Ok c).After-paths).text (word_at 8 c.args.times.now) h e) c.put_times.ensures

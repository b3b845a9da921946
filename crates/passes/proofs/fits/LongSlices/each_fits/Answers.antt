-- `passes::fits::LongSlices::each_fits` meets its contract: where those before i fit, the bounds from i on decide.
-- Assumes nothing.
use native.Mathlib.Omega.{arith}
use mathlib.Core.Path.{sym, ◌∙◌}
use Rattle.passes.proofs.EachFit.{bound_fails, next_left, none_left}
use Rattle.passes.specs.Places.{bound_at}
use Rattle.passes.proofs.Fitting.{fitting, fitting_passes}
use Rattle.passes.proofs.Checks.{failed}
use Rattle.passes.proofs.fits.LongSlices.each_fits.Goals as goal

pub returns-then-not-fits_at : goal.returns-then-not-fits_at
returns-then-not-fits_at c =
    let a = c.args.self.now.given in
    bound_fails a.bounds a.events a.ends.now a.ranges.now c.loop-i.i c.loop-i-test.true
    (λ f. failed (sym c.if-not-fits_at.true ∙ c.fits_at.ensures ∙ fitting_passes a.events (bound_at c.loop-i.i a.ends.now a.ranges.now) f))

pub loop-i-preserved : goal.loop-i-preserved
loop-i-preserved c =
    let a = c.args.self.now.given in
    next_left a.bounds a.events a.ends.now a.ranges.now c.loop-i.i c.loop-i-test.true
    (fitting a.events (bound_at c.loop-i.i a.ends.now a.ranges.now) (sym c.fits_at.ensures ∙ c.if-not-fits_at.false)) c.loop-i.invariant

pub returns : goal.returns
returns c = none_left c.args.self.now.given.bounds c.args.self.now.given.events c.args.self.now.given.ends.now c.args.self.now.given.ranges.now c.loop-i.i (omega arith) c.loop-i.invariant

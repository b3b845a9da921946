-- `passes::fits::LongSlices::each_fits` meets its contract: where those before i fit, the bounds from i on decide.
-- Assumes nothing.
use Rattle.passes.proofs.EachFit.{Left}
use Rattle.passes.proofs.fits.LongSlices.each_fits.Given as goal

abbrev pub invariant-loop-i : goal.invariant-loop-i
invariant-loop-i l = Left l.self.given.bounds l.self.given.events l.self.given.ends.now l.self.given.ranges.now l.i

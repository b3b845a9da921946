-- `passes::fits::LongSlices::are_small` meets its contract: where no event is greater than one that is there, and no number as great as 2^39, all bounds fit.
-- Assumes nothing.
use Rattle.std.proofs.lemmas.Bool.{eqb-true}
use Rattle.passes.proofs.EachFit.{front_small}
use Rattle.passes.proofs.fits.LongSlices.are_small.Goals as goal

pub returns-then-from-self : goal.returns-then-from-self
returns-then-from-self c =
    let a = c.args.self.now.given in
    λ e. front_small a.bounds a.events a.ends.now a.ranges.now c.args.self.now.ends_long c.args.self.now.ranges_long c.greatest.result c.high_parts.result
    c.greatest.ensures (rw c.from.ensures at c.if-from-self.true) c.high_parts.ensures (eqb-true c.high_parts.result 0 e)

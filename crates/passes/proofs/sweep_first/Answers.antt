-- `passes::sweep_first` meets its contract: a cycle that is found is one, and else what the sweeps leave is believed.
-- Assumes nothing.
use Rattle.passes.specs.Marks.{finds_times, finds_cycle}
use Rattle.passes.proofs.sweep_first.Goals as goal

pub returns-in-Some-clause-found : goal.returns-in-Some-clause-found
returns-in-Some-clause-found c =
    let k = c.sweep_until.new.sweeping.kept in
    finds_cycle c.in-Some.at k.parents_long k.coded c.in-Some.ensures.cycle

pub returns-clause-found : goal.returns-clause-found
returns-clause-found c = finds_times c.in_ok-passes.passes c.in_ok-passes.ensures.settled

-- `hegtalim::hegtalim_report` is `report`, its answer as one number, on all input. Assumes nothing.
use Rattle.hegtalim.proofs.CNumbers.{reported_small}
use Rattle.hegtalim.proofs.hegtalim_report.Goals as goal

pub number-requires : goal.number-requires
number-requires c = reported_small _ _ c.from.ensures

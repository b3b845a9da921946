-- `hegtalim::hegtalim_load` is `load`, its answer as one number, on all input. Assumes nothing.
use Rattle.hegtalim.proofs.CNumbers.{loaded_small}
use Rattle.hegtalim.proofs.hegtalim_load.Goals as goal

pub number-requires : goal.number-requires
number-requires c = loaded_small _ _ _ c.load.ensures.answer _ c.from.ensures

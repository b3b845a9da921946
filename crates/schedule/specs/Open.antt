-- All definitions of this crate and of those below it, opened for a proof that computes with them.
-- Assumes nothing.
use Rattle.network.specs.Open.{open_network}
use Rattle.walks.specs.Passes.{open_passes}
use Rattle.schedule.specs.Book.{open_book}
use Rattle.schedule.specs.Added.{open_added}
use Rattle.schedule.specs.Timetable.{open_timetable}
use Rattle.schedule.specs.Chain.{open_chain}
use Rattle.schedule.specs.Lent.{open_lent}

unfoldable pub open_schedule : Unit {0}
unfolding open_network open_passes open_book open_added open_timetable open_chain open_lent
open_schedule = tt

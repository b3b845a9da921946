-- All definitions of this crate and of those below it, opened for a proof that computes with them.
-- Assumes nothing.
use Rattle.words.specs.Words.{open_words}
use Rattle.schedule.specs.Open.{open_schedule}
use Rattle.book.specs.Log.{open_log}
use Rattle.hegtalim.specs.Answers.{open_answers}
use Rattle.hegtalim.specs.Errors.{open_errors}
use Rattle.slice.specs.PlanSlice.{open_plan_slice}
use Rattle.hegtalim.specs.Outcomes.{open_outcomes}
use Rattle.hegtalim.specs.Claim.{open_claim}

unfoldable pub open_hegtalim : Unit {0}
unfolding open_words open_schedule open_log open_answers open_errors open_plan_slice open_outcomes open_claim
open_hegtalim = tt

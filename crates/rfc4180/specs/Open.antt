-- All definitions of this crate and of those below it, opened for a proof that computes with them.
-- Assumes nothing.
use Rattle.rfc4180.specs.Text.{open_text}
use Rattle.rfc4180.specs.Records.{open_records}
use Rattle.rfc4180.specs.Number.{open_number}
use Rattle.rfc4180.specs.Answers.{open_answers}

unfoldable pub open_rfc4180 : Unit {0}
unfolding open_text open_records open_number open_answers
open_rfc4180 = tt

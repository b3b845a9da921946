-- What the reader of a record answers.
-- Assumes nothing.
use Rattle.std.specs.Prelude.{ℕ, List, length}
use Rattle.rfc4180.specs.Number.{greatest}
use Rattle.rfc4180.specs.declared.Numbers.{Numbers}

-- how many numbers there are, and the greatest
unfoldable pub counted : List ℕ → Numbers
counted ns = record { count = length ns; greatest = greatest ns }

-- Names every definition of this module, for a proof that computes with them all.
unfoldable pub open_answers : Unit {0}
unfolding counted
open_answers = tt

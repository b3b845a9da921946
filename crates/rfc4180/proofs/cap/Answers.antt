-- `rfc4180::cap` meets its contract.
-- Assumes nothing.
use Rattle.rfc4180.specs.Number.{capped}
use Rattle.rfc4180.proofs.cap.Goals as goal

pub returns : goal.returns
unfolding capped
returns c = c.min.ensures

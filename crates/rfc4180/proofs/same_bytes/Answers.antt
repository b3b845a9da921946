-- `rfc4180::same_bytes` meets its contract.
-- Assumes nothing.
use Rattle.std.proofs.Common.{◌∙◌}
use Rattle.rfc4180.proofs.Text.{same_is}
use Rattle.rfc4180.proofs.same_bytes.Goals as goal

pub returns : goal.returns
returns c = c.eq.ensures ∙ same_is c.args.a.now c.args.b.now

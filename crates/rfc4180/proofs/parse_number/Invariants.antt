-- `rfc4180::parse_number` meets its contract: the digits from here on, after those that make v, give what all of them give.
-- Assumes nothing.
use Rattle.std.proofs.Common.{◌≡◌, ◌<◌, ◌^◌, drop}
use Rattle.rfc4180.specs.Number.{decimal, number}
use Rattle.rfc4180.proofs.parse_number.Given as goal

abbrev pub invariant-loop-d : goal.invariant-loop-d
invariant-loop-d l = (l.v < 10 ^ l.d-index) × (number l.digits ≡ decimal l.v (drop l.d-index l.digits))

-- `rfc4180::read_numbers` meets its contract: the fields from `at` on, after those counted, give what all of them give.
-- Assumes nothing.
use Rattle.std.proofs.Common.{◌≡◌, ◌≤◌, ◌-◌, drop, length}
use Rattle.rfc4180.specs.Records.{fields}
use Rattle.rfc4180.proofs.Outcome.{outcome}
use Rattle.rfc4180.proofs.read_numbers.Given as goal

abbrev pub invariant-loop-v : goal.invariant-loop-v
invariant-loop-v l =
    (l.at ≤ length l.row) × (l.count ≤ l.at) × (length l.out ≡ length l.initial.out) × (outcome 0 0 (fields l.row) l.initial.out ≡ outcome l.count l.greatest (fields (drop l.at l.row)) l.out)

abbrev pub decreases-loop-v : goal.decreases-loop-v
decreases-loop-v l = length l.row - l.at

-- `rfc4180::record_length` meets its contract: the first record's length seen from the start is the length seen from the byte before i, and i - 1.
-- Assumes nothing.
use Rattle.std.proofs.Common.{◌≡◌, ◌+◌, ◌-◌, drop, length}
use Rattle.rfc4180.specs.Records.{first_record}
use Rattle.rfc4180.proofs.record_length.Given as goal

abbrev pub invariant-loop-i : goal.invariant-loop-i
invariant-loop-i l = length (first_record l.rest) ≡ l.i - 1 + length (first_record (drop (l.i - 1) l.rest))

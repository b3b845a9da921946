-- `limits::orders::put_skips` meets its contract. The loop's invariant: those of the visits from `u` on are put. Assumes nothing.
use Rattle.std.specs.Prelude.{◌-◌, ◌≤◌}
use Rattle.limits.specs.Counts.{Skipped}
use Rattle.limits.proofs.orders.put_skips.Given as goal

abbrev pub invariant-loop-u : goal.invariant-loop-u
invariant-loop-u l = record { within : l.u ≤ l.row.n; done : Skipped l.row.numbers.now l.nexts l.skips l.row.n (l.row.n - l.u) }

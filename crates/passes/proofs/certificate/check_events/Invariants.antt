-- `passes::certificate::check_events` meets its contract: the events before the one at hand have passed.
-- Assumes nothing.
use Rattle.std.specs.Prelude.{◌≡◌, true, false, ℕ, ◌<◌, get_or, pos, negsuc, ◌<ℤ◌}
use Rattle.passes.specs.Values.{value}
use Rattle.passes.proofs.certificate.check_events.Given as goal

abbrev pub invariant-loop-v : goal.invariant-loop-v
invariant-loop-v l =
    (value l.values 0 ≡ pos 0)
    × ((x : ℕ) → 0 < x → x < l.v → (negsuc 8191 <ℤ value l.values x) × (get_or l.marks x false ≡ true))

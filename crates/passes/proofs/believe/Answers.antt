-- `passes::believe` meets its contract: values that are a certificate are believed.
-- Assumes nothing.
use Prim.Native.Nat.{ℕ}
use native.Mathlib.Omega.{arith}
use mathlib.Core.Path.{◌≡◌, sym, subst, ◌∙◌}
use mathlib.Core.Bool.{true}
use mathlib.Core.List.{flat_map}
use lib.ListN.{length}
use Rattle.std.specs.Prelude.{Some}
use Rattle.walks.specs.Passes.{settled}
use Rattle.schedule.specs.Timetable.{ways}
use Rattle.passes.specs.Solving.{bounds_fit}
use Rattle.passes.specs.Marks.{sums_in}
use Rattle.passes.specs.Values.{Certified}
use Rattle.passes.specs.Networks.{bounds_of}
use Rattle.passes.proofs.Believing.{believed}
use Rattle.passes.proofs.Checks.{rounded_range}
use Rattle.passes.proofs.believe.Goals as goal

pub invariant_of-sweeping : goal.invariant_of-sweeping
invariant_of-sweeping c =
    let s = c.args.sweeping.now in
    record {
      kept = record {
        long = c.round.auto.values ∙ s.kept.long;
        parents_long = s.kept.parents_long;
        range = rounded_range s.values.now c.round.new.values c.round.result c.round.ensures c.round.auto.values s.kept.range;
        coded = s.kept.coded;
      };
    }

pub returns-clause-settled : goal.returns-clause-settled
returns-clause-settled c =
    let s = c.args.sweeping.now in
    let net = s.net.now in
    let bs = bounds_of net in
    let v = s.values.now in
    let long : length v ≡ net.events = s.kept.long in
    let certified : Certified (flat_map ways bs) v =
    rw (c.read_values.ensures.0, c.read_values.ensures.1) at c.is_certificate.ensures c.if-not-is_certificate.false in
    subst (λ (n : ℕ). settled (flat_map ways bs) n ≡ Some (record { passes = c.round.result; sums = sums_in c.round.new.values })) long
    (believed bs v c.round.new.values c.round.result (subst (λ (n : ℕ). bounds_fit n bs ≡ true) (sym long) net.all_fit)
    (omega (arith, net.some_event)) (omega (arith, net.few_events)) certified c.round.ensures c.round.auto.values)

-- `passes::by_passes` meets its contract: the working memory is as the passes ask at first.
-- Assumes nothing.
use mathlib.Core.Path.{refl}
use Rattle.std.proofs.lemmas.List.{take-replicate}
use Rattle.passes.proofs.Outcomes.{first_sums}
use Rattle.passes.proofs.by_passes.Goals as goal

pub run-found-requires-clause-value : goal.run-found-requires-clause-value
run-found-requires-clause-value c =
    let net = c.args.net.now in
    rw c.copy_from_slice.ensures.after (first_sums net.events 4096 net.some_event net.few_events, refl, take-replicate net.events 4096 0 net.few_events)

-- `rfc4180::first_record` meets its contract.
-- Assumes nothing.
use Rattle.std.proofs.Common.{◌∙◌, ap, sym, take}
use Rattle.std.proofs.lemmas.List.{length-take-le}
use Rattle.rfc4180.proofs.Reading.{first_record_fits, first_record_front}
use Rattle.rfc4180.proofs.first_record.Goals as goal

pub slice_bounds-result-end : goal.slice_bounds-result-end
slice_bounds-result-end c =
    let rest = c.args.rest.now in
    sym (length-take-le c.record_length-k.result rest (rw c.record_length-k.ensures (first_record_fits rest)))

pub returns : goal.returns
returns c =
    let rest = c.args.rest.now in
    ap (λ k. take k rest) c.record_length-k.ensures ∙ first_record_front rest

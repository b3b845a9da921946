-- `rfc4180::field` meets its contract.
-- Assumes nothing.
use Rattle.std.proofs.Common.{◌≡◌, ◌-◌, ◌∙◌, ap, sym, take, drop, length, arith, ◌==◌}
use Rattle.std.specs.Option.{unwrap_or}
use Rattle.rfc4180.specs.Records.{field_at}
use Rattle.rfc4180.proofs.Reading.{rest_is, field_of, field_length_is, or_length, field_over, field_part}
use Rattle.rfc4180.proofs.field.Goals as goal
use Rattle.rfc4180.proofs.field.Goals.{After-unwrap_or-k}

pub returns-then-row-at : goal.returns-then-row-at
returns-then-row-at c = sym (field_over _ _ (omega arith))

-- as many bytes are taken as the field has
long : (c : After-unwrap_or-k) → c.unwrap_or-k.result ≡ length (field_at c.args.row.now c.args.at)
long c =
    let r = c.args.row.now in
    let at = c.args.at in
    let s = take (length r - at) (drop at r) in
    c.unwrap_or-k.ensures ∙ ap (λ o. unwrap_or o (length s)) c.comma.ensures ∙ or_length (λ b. b == 44) s ∙ sym (field_length_is s)
    ∙ ap (λ s. length (field_at s 0)) (rest_is r at) ∙ ap (λ f. length f) (sym (field_of r at))

pub returns : goal.returns
returns c =
    let r = c.args.row.now in
    let at = c.args.at in
    ap (λ s. take c.unwrap_or-k.result s) (rest_is r at) ∙ ap (λ k. take k (drop at r)) (long (goal.at.returns c).After-unwrap_or-k) ∙ field_part r at

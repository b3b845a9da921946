-- `slice::parts::find_text` meets its contract. Assumes nothing.
use Rattle.std.proofs.Common.{◌∙◌, ap}
use Rattle.slice.specs.Holding.{only_zeros}
use Rattle.slice.proofs.Laid.{rest_is, text_found}
use Rattle.slice.proofs.parts.find_text.Goals as goal

pub returns : goal.returns
returns c = c.then_some.ensures ∙ text_found c.args.s.now _ _ c.text_length-n.ensures.value (c.all_zero.ensures ∙ ap only_zeros (rest_is c.args.s.now c.text_length-n.result))

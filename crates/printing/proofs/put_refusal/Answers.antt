-- `printing::put_refusal` meets its contract: a first line and three fields. Assumes nothing.
use Rattle.rfc4180.specs.Text.{bytes}
use Rattle.printing.proofs.Puts.{puts_then, puts_as}
use Rattle.printing.proofs.Texts.{refusal_whole}
use Rattle.printing.proofs.put_refusal.Goals as goal

pub returns : goal.returns
unfolding bytes
returns c =
    let puts = puts_then c.text.ensures (puts_then c.field.ensures (puts_then c.field-2.ensures c.ending.ensures)) in
    let whole = refusal_whole c.from.result c.args.why.table c.args.why.row in
    puts_as (cc) puts

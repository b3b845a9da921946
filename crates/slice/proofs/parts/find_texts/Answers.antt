-- `slice::parts::find_texts` meets its contract: zeros do not follow one of the texts or the times, or they follow all. Assumes nothing.
use Rattle.std.proofs.Common.{arith, ◌∙◌, ◌*◌, ap}
use Rattle.slice.specs.Holding.{only_zeros}
use Rattle.slice.specs.Texts.{texts_laid}
use Rattle.slice.proofs.Laid.{text_short, text_broken, text_ended, rest_of, texts_found}
use Rattle.slice.proofs.parts.find_texts.Goals as goal

pub returns-in_err-r : goal.returns-in_err-r
unfolding texts_laid
returns-in_err-r c = rw (text_broken c.args.tables.roads.now c.in_err-r.ensures) c.from_residual.ensures

pub returns-in_err-c : goal.returns-in_err-c
unfolding texts_laid
returns-in_err-c c =
    rw ((text_ended c.args.tables.roads.now _ c.in_ok-r.ensures).0, text_broken c.args.tables.carts.now c.in_err-c.ensures) c.from_residual-in_err-c.ensures

pub returns-in_err-p : goal.returns-in_err-p
unfolding texts_laid
returns-in_err-p c =
    rw ((text_ended c.args.tables.roads.now _ c.in_ok-r.ensures).0, (text_ended c.args.tables.carts.now _ c.in_ok-c.ensures).0, text_broken c.args.tables.paths.now c.in_err-p.ensures)
    c.from_residual-in_err-p.ensures

pub returns-in_err-n : goal.returns-in_err-n
unfolding texts_laid
returns-in_err-n c =
    rw (
      (text_ended c.args.tables.roads.now _ c.in_ok-r.ensures).0,
      (text_ended c.args.tables.carts.now _ c.in_ok-c.ensures).0,
      (text_ended c.args.tables.paths.now _ c.in_ok-p.ensures).0,
      text_broken c.args.log.carts.now c.in_err-n.ensures,
    ) c.from_residual-in_err-n.ensures

pub overflow_mul-n : goal.overflow_mul-n
overflow_mul-n c = omega (arith, (text_ended c.args.log.carts.now _ c.in_ok-n.ensures).1, text_short c.args.log.carts.now, c.requires)

pub returns : goal.returns
returns c =
    c.then_some.ensures
    ∙ texts_found _ _ _ _ _ _ _ _ _ c.in_ok-r.ensures c.in_ok-c.ensures c.in_ok-p.ensures c.in_ok-n.ensures _
    (c.all_zero.ensures ∙ ap only_zeros (c.part-behind.ensures ∙ rest_of c.args.log.times.now (8 * c.in_ok-n.n)))

-- `book::write_added` meets its contract: there is no book, or its bounds are put. Assumes nothing.
use Rattle.std.specs.Prelude.{Some}
use mathlib.Core.Path.{ap, sym, ◌∙◌}
use Rattle.network.proofs.Putting.{puts_none}
use Rattle.limits.specs.OfPaths.{plan_of}
use Rattle.book.proofs.Fitting.{none_added, none_answer, firsts_apart, times_low, added_is, answer_is}
use Rattle.book.proofs.write_added.Goals as goal

pub returns-in_err-marker : goal.returns-in_err-marker
returns-in_err-marker c =
    let none = c.in_err-marker.ensures in
    let p = plan_of c.args.paths in
    record {
      answer = c.from_residual.ensures ∙ none_answer p _ none;
      left = puts_none c.args.out.now _ (none_added p _ none);
    }

pub invariant_of-reports : goal.invariant_of-reports
invariant_of-reports c =
    let m = c.in_ok-marker.marker in record { timely = times_low c.args.paths c.args.log m.carts m.firsts m.counts m.clock c.in_ok-marker.ensures }

pub put_all-requires : goal.put_all-requires
put_all-requires c =
    let m = c.in_ok-marker.marker in firsts_apart c.args.paths c.args.log m.carts m.firsts m.counts m.clock c.in_ok-marker.ensures

pub returns : goal.returns
returns c =
    let m = c.in_ok-marker.marker in
    let a = c.args in
    let h = c.in_ok-marker.ensures in
    record {
      answer = ap Some c.put_all.ensures.answer ∙ sym (answer_is a.paths a.log m.carts m.firsts m.counts m.clock h);
      left = rw (added_is a.paths a.log m.carts m.firsts m.counts m.clock h) c.put_all.ensures.left;
    }

-- `bounds::write_rest` meets its contract: the plan's own bounds are counted, and behind them those that its log adds. Assumes nothing.
use Rattle.std.proofs.Common.{arith, ◌∙◌, ◌≤◌, ap, sym, subst}
use Rattle.std.specs.Option.{option_map}
use Rattle.network.specs.BoundArrays.{Puts}
use Rattle.network.proofs.Putting.{puts_none}
use Rattle.limits.specs.OfPaths.{plan_of}
use Rattle.book.specs.Log.{added_of, book_of}
use Rattle.bounds.specs.Counted.{counted, rest_of}
use Rattle.bounds.proofs.Counted.{added_many, over_counted, over_rest, few_counted, few_rest}
use Rattle.bounds.proofs.write_rest.Goals as goal
use Rattle.bounds.proofs.write_rest.Goals.{After-write_added}

-- what is put behind the plan's own
put : (c : After-write_added) → Puts c.args.out.now c.write_added.new.out (rest_of c.args.own (added_of (plan_of c.args.paths) (book_of c.args.paths c.args.log)))
put c = subst (Puts c.args.out.now c.write_added.new.out) (sym (few_rest c.args.own _ c.if-own-gt8192.false)) c.write_added.ensures.left

pub returns-then-own-gt8192 : goal.returns-then-own-gt8192
returns-then-own-gt8192 c = record {
  answer = over_counted c.args.own _ c.if-own-gt8192.true;
  left = puts_none _ _ (over_rest c.args.own _ c.if-own-gt8192.true);
}

pub returns-in_err-more : goal.returns-in_err-more
unfolding counted
returns-in_err-more c = record {
  answer = c.from_residual.ensures ∙ ap (option_map (counted c.args.own)) c.in_err-more.ensures.answer ∙ sym (few_counted c.args.own _ c.if-own-gt8192.false);
  left = put (goal.at.returns-in_err-more c).After-write_added;
}

pub overflow_add-result : goal.overflow_add-result
overflow_add-result c =
    let few : c.args.own.bounds ≤ 8192 = c.if-own-gt8192.false in
    omega (arith, c.requires few, added_many _ _ _ c.in_ok-more.ensures.answer)

pub returns : goal.returns
unfolding counted
returns c = record {
  answer = ap (option_map (counted c.args.own)) c.in_ok-more.ensures.answer ∙ sym (few_counted c.args.own _ c.if-own-gt8192.false);
  left = put (goal.at.returns c).After-write_added;
}

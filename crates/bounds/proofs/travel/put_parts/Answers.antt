-- `bounds::travel::put_parts` meets its contract: three bounds, one behind the other. Assumes nothing.
use Rattle.std.proofs.Common.{arith}
use Rattle.bounds.proofs.Moves.{move_put}
use Rattle.bounds.proofs.travel.put_parts.Goals as goal

pub returns : goal.returns
returns c =
    let a = c.args in
    move_put a.speeds a.road a.e c.saturating_sub-rest.result c.least-lo.result c.least.result c.most-hi.result c.most.result
    (omega (arith, c.saturating_sub-rest.ensures, c.saturating_sub.ensures))
    c.least-lo.ensures c.most-hi.ensures.value c.least.ensures c.most.ensures.value c.most-hi.ensures.kept c.most.ensures.kept
    a.out.now c.put.new.self c.put-2.new.self c.put-3.new.self c.put.ensures c.put-2.ensures c.put-3.ensures

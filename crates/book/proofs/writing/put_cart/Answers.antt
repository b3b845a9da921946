-- `book::writing::put_cart` meets its contract: what is reported is put, and behind it what waits. Assumes nothing.
use Rattle.book.specs.Log.{log_of}
use Rattle.book.proofs.Along.{cart_put}
use Rattle.book.proofs.writing.put_cart.Goals as goal

pub returns : goal.returns
returns c =
    let r = c.args.reports in
    let p = c.args.points in
    let e = c.put_reported-waiting.ensures in
    cart_put c.args.out.now c.put_reported-waiting.new.out c.put_waiting.new.out r.clock (log_of r.log) p.cart p.first p.next c.put_reported-waiting.result e.answer e.left c.put_waiting.ensures

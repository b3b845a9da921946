-- `book::writing::put_all` meets its contract: the bounds of one cart after the other are put. Assumes nothing.
use Rattle.std.specs.Prelude.{length}
use native.Mathlib.Omega.{arith}
use mathlib.Core.Path.{ap}
use Rattle.network.proofs.Putting.{putting_all}
use Rattle.book.specs.Log.{log_of}
use Rattle.book.proofs.Along.{first_walking, next_walking, along_last}
use Rattle.book.proofs.writing.put_all.Goals as goal

pub loop-i-init : goal.loop-i-init
loop-i-init c = let m = c.args.marker.now in first_walking m.firsts m.carts c.args.reports.clock (log_of c.args.reports.log) c.args.out.now

pub loop-i-preserved : goal.loop-i-preserved
loop-i-preserved c =
    let l = c.loop-i in
    let m = c.args.marker.now in
    rw (c.from-n.ensures) (next_walking m.firsts m.carts c.args.reports.clock (log_of c.args.reports.log) c.args.out.now l.out l.n l.i l.invariant
    c.loop-i-test.true (omega (arith, m.few)) (c.requires l.i c.loop-i-test.true) c.put_cart.new.out c.put_cart.ensures)

pub returns : goal.returns
returns c =
    let l = c.loop-i in
    let m = c.args.marker.now in
    let none = along_last m.firsts m.carts c.args.reports.clock (log_of c.args.reports.log) l.i c.loop-i-test.false in
    record { answer = omega (arith, l.invariant.count, ap length none); left = putting_all l.invariant.putting none }

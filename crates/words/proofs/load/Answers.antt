-- `words::load` meets its contract: the bytes are read one after the other, the last first. Assumes nothing.
use Rattle.std.proofs.Common.{◌+◌, ◌-◌, ◌<◌, slice_index_or, arith}
use Rattle.words.proofs.Storing.{bytes_fit, said_none, said_more}
use Rattle.words.proofs.load.Goals as goal
use Rattle.words.proofs.load.Goals.{In-loop-i}

pub loop-i-init : goal.loop-i-init
loop-i-init c = said_none c.args.s.now c.args.at c.args.k c.requires.0

-- a byte is below 256
byte_read : (c : In-loop-i) → slice_index_or c.args.s.now (c.args.at + (c.loop-i.i - 1)) 0 < 256
byte_read c = omega (arith, c.type_inv.s (c.args.at + (c.loop-i.i - 1)))

pub overflow_mul-x : goal.overflow_mul-x
overflow_mul-x c =
    let l = c.loop-i in
    omega (arith, bytes_fit l.x 0 c.args.k l.i l.invariant.small (omega arith) c.loop-i-test.true l.invariant.within c.requires.1)

pub overflow_add-x : goal.overflow_add-x
overflow_add-x c =
    let l = c.loop-i in
    let b = byte_read (goal.at.overflow_add-x c).In-loop-i in
    omega (arith, c.from.ensures, bytes_fit l.x _ c.args.k l.i l.invariant.small b c.loop-i-test.true l.invariant.within c.requires.1)

pub loop-i-preserved : goal.loop-i-preserved
loop-i-preserved c =
    let l = c.loop-i in
    let b = byte_read (goal.at.loop-i-preserved c).In-loop-i in
    rw c.from.ensures (said_more c.args.s.now c.args.at c.args.k l.i l.x c.requires.0 c.loop-i-test.true b l.invariant)

-- `words::store` meets its contract: the bytes are stored one after the other, the least first. Assumes nothing.
use Rattle.std.proofs.Common.{◌+◌, ◌%◌, sym, ◌∙◌, arith}
use Rattle.std.proofs.Math.ListN.{length-set}
use Rattle.words.proofs.Storing.{put_turn, put_done}
use Rattle.words.proofs.store.Goals as goal

pub loop-i-preserved : goal.loop-i-preserved
loop-i-preserved c =
    let l = c.loop-i in
    let a = c.args in (
      omega arith,
      length-set l.s (a.at + l.i) (l.x % 256) ∙ l.invariant.1,
      put_turn l.s a.at a.k l.i l.x c.loop-i-test.true ∙ l.invariant.2,
    )

pub returns : goal.returns
returns c =
    let l = c.loop-i in
    let a = c.args in
    sym (put_done l.s a.at a.k l.i l.x (omega arith)) ∙ l.invariant.2

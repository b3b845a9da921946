-- `words::put` meets its contract: a place that is there is stored to. Numbers of no bytes have none. Assumes nothing.
use Rattle.words.proofs.Storing.{word_stored, word_kept, word_of_none}
use Rattle.words.proofs.put.Goals as goal
use Rattle.words.proofs.put.Goals.{In-Some}

pub returns-in_default : goal.returns-in_default
returns-in_default g c = word_of_none g.row.K c.args.s.now c.args.i c.args.v (λ p. c.in_default.ensures p)

pub returns-then-i-count : goal.returns-then-i-count
returns-then-i-count g c =
    let a = c.args in
    let e = c.in-Some.ensures in
    word_stored g.row.K a.s.now _ a.i a.v e.0 (rw e.1 at c.if-i-count.true) c.store.ensures

pub returns-else-i-count : goal.returns-else-i-count
returns-else-i-count g c =
    let a = c.args in
    let e = c.in-Some.ensures in
    word_kept g.row.K a.s.now a.i a.v e.0 (rw e.1 at c.if-i-count.false)

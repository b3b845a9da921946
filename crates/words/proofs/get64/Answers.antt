-- `words::get64` meets its contract: a place past the end, one that is cut off there, and any other. Assumes nothing.
use mathlib.Core.Path.{refl}
use lib.Dec.{lit<}
use Rattle.words.specs.Words.{word_at}
use Rattle.words.proofs.Storing.{word_past, word_cut}
use Rattle.words.proofs.get64.Goals as goal

pub returns-then-s-i : goal.returns-then-s-i
returns-then-s-i c = let a = c.args in word_past 8 a.s.now a.i (lit< tt) c.if-s-i.true

pub returns-then-rest-lt8 : goal.returns-then-rest-lt8
returns-then-rest-lt8 c = let a = c.args in word_cut 8 a.s.now a.i _ refl c.if-rest-lt8.true c.load.result c.load.ensures

pub returns : goal.returns
unfolding word_at
returns c = c.load-2.ensures

-- `words::store` meets its contract: the bytes are stored one after the other, the least first. Assumes nothing.
use Prim.Native.Nat.{◌+◌, ◌-◌, ◌≤◌}
use mathlib.Core.Path.{◌≡◌}
use lib.ListN.{length}
use lib.Seq.{sets}
use Rattle.words.specs.Words.{word}
use Rattle.words.proofs.store.Given as goal

abbrev pub invariant-loop-i : goal.invariant-loop-i
invariant-loop-i l = (l.i ≤ l.k) × (length l.s ≡ length l.initial.s) × (sets l.s (l.at + l.i) (word (l.k - l.i) l.x) ≡ sets l.initial.s l.at (word l.k l.v))

-- `passes::passing::follow` meets its contract: an arc stores a sum and a parent where it raises the sum, as `raise` and `adopt` say.
-- Assumes nothing.
use native.Mathlib.Omega.{arith}
use mathlib.Core.Path.{◌≡◌, ap, sym, ◌∙◌}
use mathlib.Core.Logic.{◌≢◌}
use mathlib.Core.Bool.{true, false}
use lib.Signed.{lt_z}
use Prim.Native.Nat.{ℕ}
use mathlib.Core.List.{List}
use lib.ListN.{get_or}
use lib.IntN.{ℤ, pos, ◌+ℤ◌}
use mir.Syntax.{w64}
use mir.Val.{SFits, to_z, of_z}
use mir.ValLaws.{to_z-of_z}
use Rattle.laws.proofs.Signed.{mag_within}
use Rattle.passes.specs.Marks.{low}
use Rattle.passes.specs.Arcs.{arc_of}
use Rattle.passes.proofs.Arcs.{from_none, sum_fits, not_more, more}
use Rattle.passes.proofs.passing.follow.Goals as goal
use Rattle.passes.proofs.passing.follow.Goals.{Then-from}

-- a signed number as a local holds it: by its bits
abbrev seen : ℤ → ℤ
seen z = to_z w64 (of_z w64 z)

abbrev item : List ℤ → ℕ → ℤ
item xs k = get_or xs k (pos 0)

came : (c : Then-from) → item c.args.old.all.now c.args.arc.from ≢ low
came c e = c.if-from.true (ap (of_z w64) e)

fits : (c : Then-from) → SFits w64 (item c.args.old.all.now c.args.arc.from +ℤ c.args.arc.adds)
fits c =
    let a = c.args in
    sum_fits a.old.all.now a.new.now a.parents.now (arc_of a.arc) a.arc.code (omega (arith, c.args.old.long, c.requires.0)) c.requires.1 (came c) c.args.old.in_reach a.arc.small

-- each reads as itself
from_seen : (c : Then-from) → seen (item c.args.old.all.now c.args.arc.from) ≡ item c.args.old.all.now c.args.arc.from
from_seen c = to_z-of_z w64 (item c.args.old.all.now c.args.arc.from) (record { sfits = omega arith })

adds_seen : (c : Then-from) → seen c.args.arc.adds ≡ c.args.arc.adds
adds_seen c = to_z-of_z w64 c.args.arc.adds (record { sfits = omega (arith, mag_within c.args.arc.adds c.args.arc.small) })

sum_seen : (c : Then-from) → seen (seen (item c.args.old.all.now c.args.arc.from) +ℤ seen c.args.arc.adds) ≡ item c.args.old.all.now c.args.arc.from +ℤ c.args.arc.adds
sum_seen c = rw (from_seen c, adds_seen c) (to_z-of_z w64 (item c.args.old.all.now c.args.arc.from +ℤ c.args.arc.adds) (fits c))

pub overflow_add-sum : goal.overflow_add-sum
overflow_add-sum c = let f = (goal.at.overflow_add-sum c).Then-from in rw (from_seen f, adds_seen f) (fits f)

pub returns-then-at-sum : goal.returns-then-at-sum
returns-then-at-sum c =
    let f = (goal.at.returns-then-at-sum c).Then-from in
    let a = c.args in
    let s = sum_seen f in
    let at_seen : seen (item a.new.now a.arc.to) ≡ item a.new.now a.arc.to = to_z-of_z w64 (item a.new.now a.arc.to) (record { sfits = omega arith }) in
    let t : lt_z (item a.new.now a.arc.to) (item a.old.all.now a.arc.from +ℤ a.arc.adds) ≡ true = rw (at_seen, s) at c.if-at-sum.true in
    let m = more a.old.all.now a.new.now a.parents.now (arc_of a.arc) a.arc.code (omega (arith, c.args.old.long, c.requires.0)) c.requires.1 (came f) c.args.old.in_reach a.arc.small t in
    record { sums = rw s m.0; adopted = m.1; coded = m.2 }

pub returns-else-at-sum : goal.returns-else-at-sum
returns-else-at-sum c =
    let f = (goal.at.returns-else-at-sum c).Then-from in
    let a = c.args in
    let s = sum_seen f in
    let at_seen : seen (item a.new.now a.arc.to) ≡ item a.new.now a.arc.to = to_z-of_z w64 (item a.new.now a.arc.to) (record { sfits = omega arith }) in
    let t : lt_z (item a.new.now a.arc.to) (item a.old.all.now a.arc.from +ℤ a.arc.adds) ≡ false = rw (at_seen, s) at c.if-at-sum.false in
    let m = not_more a.old.all.now a.new.now a.parents.now (arc_of a.arc) a.arc.code (omega (arith, c.args.old.long, c.requires.0)) c.requires.1 (came f) c.args.old.in_reach a.arc.small t in
    record { sums = m.0; adopted = m.1; coded = m.2 }

pub returns-else-from : goal.returns-else-from
returns-else-from c =
    let a = c.args in
    let from_is : seen (item a.old.all.now a.arc.from) ≡ item a.old.all.now a.arc.from = to_z-of_z w64 (item a.old.all.now a.arc.from) (record { sfits = omega arith }) in
    let m = from_none a.old.all.now a.new.now a.parents.now (arc_of a.arc) a.arc.code (omega (arith, c.args.old.long, c.requires.0)) (sym from_is ∙ ap (to_z w64) c.if-from.false) in
    record { sums = m.0; adopted = m.1; coded = m.2 }

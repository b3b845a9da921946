-- `tables::roads::Roads::join` meets its contract. The loop's invariant: the road at hand is of the cells' remainder, and those passed over do not join
-- the cells. Assumes nothing.
use native.Mathlib.Omega.{arith}
use mathlib.Core.Path.{sym}
use Rattle.tables.proofs.Indexes.{way_begins, way_forth, way_back, way_less, way_goes, way_ends}
use Rattle.tables.proofs.roads.Roads.join.Goals as goal
use Rattle.tables.proofs.roads.Roads.join.Goals.{else-x-a-via-then-x-a+else-y-b, else-x-a-via-else-x-a, else-x-b-via-then-x-b+else-y-a, else-x-b-via-else-x-b}

pub loop-p-init : goal.loop-p-init
loop-p-init c =
    let a = c.args in
    let r = a.self in
    let e = c.bucket_of.ensures in
    rw c.from-p.ensures (way_begins r.numbers.now r.index.now.heads.now r.index.now.nexts.now r.count r.linked.indexed a.a a.b _ e.0 e.1)

pub returns-then-y-b : goal.returns-then-y-b
returns-then-y-b c =
    let a = c.args in
    let r = a.self in
    sym (way_forth r.numbers.now r.index.now.heads.now r.index.now.nexts.now r.count r.linked.indexed a.a a.b c.loop-p.p c.loop-p.invariant (omega arith) c.if-x-a.true c.if-y-b.true)

pub returns-then-y-a : goal.returns-then-y-a
returns-then-y-a c =
    let a = c.args in
    let r = a.self in
    sym (way_back r.numbers.now r.index.now.heads.now r.index.now.nexts.now r.count r.linked.indexed a.a a.b c.loop-p.p c.loop-p.invariant (omega arith) c.if-x-b.true c.if-y-a.true)

pub loop-p-smaller : goal.loop-p-smaller
loop-p-smaller c =
    let a = c.args in
    let r = a.self in
    rw c.from-p-in-loop-p.ensures (way_less r.numbers.now r.index.now.heads.now r.index.now.nexts.now r.count r.linked.indexed a.a a.b c.loop-p.p c.loop-p.invariant (omega arith))

pub loop-p-preserved : goal.loop-p-preserved
loop-p-preserved c =
    let a = c.args in
    let r = a.self in
    rw c.from-p-in-loop-p.ensures (way_goes r.numbers.now r.index.now.heads.now r.index.now.nexts.now r.count r.linked.indexed a.a a.b c.loop-p.p c.loop-p.invariant (omega arith)
    (λ p q. elim c.else-x-a.branch [ else-x-a-via-then-x-a+else-y-b w ↦ w.if-y-b.false q | else-x-a-via-else-x-a w ↦ w.if-x-a.false p ])
    (λ p q. elim c.else-x-b.branch [ else-x-b-via-then-x-b+else-y-a w ↦ w.if-y-a.false q | else-x-b-via-else-x-b w ↦ w.if-x-b.false p ]))

pub returns : goal.returns
returns c =
    let a = c.args in
    let r = a.self in
    sym (way_ends r.numbers.now r.index.now.heads.now r.index.now.nexts.now r.count r.linked.indexed a.a a.b c.loop-p.p c.loop-p.invariant c.loop-p-test.false)

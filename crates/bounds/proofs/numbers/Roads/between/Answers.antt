-- `bounds::numbers::Roads::between` meets its contract: the first road that joins the cells is among those left, or else it was met last. Assumes nothing.
use Rattle.std.proofs.Common.{◌≡◌, sym, subst, Bool, true, length, eq-eqb, ◌-◌}
use borrow.Author.Tests.{ne_eqb}
use Rattle.std.specs.Prelude.{None}
use Rattle.floor.specs.Plan.{road_between}
use Rattle.tables.specs.Index.{Indexed}
use Rattle.bounds.specs.Writing.{roads_of}
use Rattle.bounds.proofs.Links.{Way, found_or, way_begins, way_linked, here, passed, way_down, way_less, way_next, way_ends}
use Rattle.bounds.proofs.numbers.Roads.between.Goals as goal
use Rattle.bounds.proofs.numbers.Roads.between.Goals.{Start, Then-linked-2, Joined-is_between, then-linked, else-linked, then-is_between, else-is_between}

-- the links, where there are any
links : (z : Start) → length z.args.self.now.heads.now ≡ 1024
    → Indexed z.args.self.now.count z.args.self.now.edges.now z.args.self.now.heads.now z.args.self.now.nexts.now
links z e = (z.args.self.now.linked e).1

pub loop-left-init : goal.loop-left-init
loop-left-init c =
    let a = c.args in
    let r = c.args.self.now in
    elim c.if-linked.branch [
      | then-linked w ↦
          subst (λ (t : Bool). Way r.count r.edges.now a.a a.b t c.if-linked.left None) (sym (eq-eqb _ 1024 w.if-linked.true))
          (rw w.left-is (rw w.from-left.ensures (way_linked r.count r.edges.now a.a a.b r.heads.now r.nexts.now (links (goal.at.loop-left-init c).Start w.if-linked.true) w.bucket_of.result w.bucket_of.ensures.0 w.bucket_of.ensures.1)))
      | else-linked w ↦
          subst (λ (t : Bool). Way r.count r.edges.now a.a a.b t c.if-linked.left None) (sym (ne_eqb _ 1024 w.if-linked.false))
          (rw w.left-is (way_begins r.count r.edges.now a.a a.b))
    ]

-- what was met last, or is among those before the road at hand
met : (c : Joined-is_between)
    → road_between (roads_of c.args.self.now) c.args.a c.args.b
    ≡ found_or (Rattle.tables.specs.Arrays.roads_in (c.loop-left.left - 1) c.args.self.now.edges.now) c.args.a c.args.b c.if-is_between.found
met c =
    let a = c.args in
    let r = c.args.self.now in
    elim c.if-is_between.branch [
      | then-is_between w ↦ rw w.found-is (here r.count r.edges.now a.a a.b _ c.loop-left.left c.loop-left.found c.loop-left.invariant c.loop-left-test.true _ c.is_between.ensures w.if-is_between.true)
      | else-is_between w ↦ rw w.found-is (passed r.count r.edges.now a.a a.b _ c.loop-left.left c.loop-left.found c.loop-left.invariant c.loop-left-test.true _ c.is_between.ensures w.if-is_between.false)
    ]

-- the way by the links
by_links : (c : Then-linked-2) → Way c.args.self.now.count c.args.self.now.edges.now c.args.a c.args.b true c.loop-left.left c.loop-left.found
by_links c =
    let r = c.args.self.now in
    subst (λ (t : Bool). Way r.count r.edges.now c.args.a c.args.b t c.loop-left.left c.loop-left.found) (eq-eqb _ 1024 c.if-linked-2.true) c.loop-left.invariant

pub loop-left-smaller-then-linked-2 : goal.loop-left-smaller-then-linked-2
loop-left-smaller-then-linked-2 c =
    let a = c.args in
    let r = c.args.self.now in
    rw c.from-left-then-linked-2.ensures
    (way_less r.count r.edges.now a.a a.b r.heads.now r.nexts.now (links (goal.at.loop-left-smaller-then-linked-2 c).Start c.if-linked-2.true)
    c.loop-left.left c.loop-left.found (by_links (goal.at.loop-left-smaller-then-linked-2 c).Then-linked-2) c.loop-left-test.true)

pub loop-left-preserved-then-linked-2 : goal.loop-left-preserved-then-linked-2
loop-left-preserved-then-linked-2 c =
    let a = c.args in
    let r = c.args.self.now in
    subst (λ (t : Bool). Way r.count r.edges.now a.a a.b t c.from-left-then-linked-2.result c.if-is_between.found) (sym (eq-eqb _ 1024 c.if-linked-2.true))
    (rw c.from-left-then-linked-2.ensures (way_next r.count r.edges.now a.a a.b r.heads.now r.nexts.now (links (goal.at.loop-left-preserved-then-linked-2 c).Start c.if-linked-2.true)
    c.loop-left.left c.loop-left.found (by_links (goal.at.loop-left-preserved-then-linked-2 c).Then-linked-2) c.loop-left-test.true c.if-is_between.found
    (met (goal.at.loop-left-preserved-then-linked-2 c).Joined-is_between)))

pub loop-left-preserved : goal.loop-left-preserved
loop-left-preserved c =
    let a = c.args in
    let r = c.args.self.now in
    subst (λ (t : Bool). Way r.count r.edges.now a.a a.b t (c.loop-left.left - 1) c.if-is_between.found) (sym (ne_eqb _ 1024 c.if-linked-2.false))
    (way_down r.count r.edges.now a.a a.b _ c.loop-left.left c.loop-left.found c.loop-left.invariant c.loop-left-test.true c.if-is_between.found
    (met (goal.at.loop-left-preserved c).Joined-is_between))

pub returns : goal.returns
returns c =
    let a = c.args in
    let r = c.args.self.now in
    way_ends r.count r.edges.now a.a a.b _ c.loop-left.left c.loop-left.found c.loop-left.invariant c.loop-left-test.false

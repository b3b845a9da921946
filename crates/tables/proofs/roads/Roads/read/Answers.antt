-- `tables::roads::Roads::read` meets its contract, case by case. Assumes nothing.
use Rattle.std.proofs.Common.{rules, arith, Err, Result, ◌≡◌, ◌∙◌}
use Rattle.floor.specs.declared.Reason.{Reason}
use Rattle.floor.specs.declared.Reason.TheVariants.{RoadPair, Limit}
use Rattle.floor.specs.declared.Road.{Road}
use Rattle.floor.specs.Roads.{road}
use Rattle.tables.specs.Arrays.{roads_in}
use Rattle.tables.proofs.Turns.{said_refused, said_taken}
use Rattle.tables.proofs.RoadRecords.{at_next, road_unread, road_self, road_second, road_over, road_taken, roads_in_length}
use Rattle.tables.proofs.roads.Roads.read.Goals as goal

pub returns-in_err-road : goal.returns-in_err-road
returns-in_err-road c =
    let before = roads_in c.args.self.count c.args.self.numbers.now in
    let e : ◌≡◌ {A = Result Road Reason} c.from_residual.result (Err c.in_err-road.field-0.0) = search rules in
    e ∙ said_refused (road before c.args.row.now) (at_next before c.in_err-road.field-0.0) (road_unread before c.args.row.now _ c.in_err-road.ensures)

pub returns-then-road : goal.returns-then-road
returns-then-road c =
    let before = roads_in c.args.self.count c.args.self.numbers.now in
    said_refused (road before c.args.row.now) (at_next before RoadPair) (road_self before c.args.row.now _ _ _ _ c.in_ok-road.ensures c.if-road.true)

pub returns-then-join : goal.returns-then-join
returns-then-join c =
    let before = roads_in c.args.self.count c.args.self.numbers.now in
    said_refused (road before c.args.row.now) (at_next before RoadPair)
    (road_second before c.args.row.now _ _ _ _ c.in_ok-road.ensures c.if-road.false c.join.ensures c.if-join.true)

pub returns-then-self-ge1024 : goal.returns-then-self-ge1024
returns-then-self-ge1024 c =
    let before = roads_in c.args.self.count c.args.self.numbers.now in
    said_refused (road before c.args.row.now) (at_next before Limit)
    (road_over before c.args.row.now _ _ _ _ c.in_ok-road.ensures c.if-road.false c.join.ensures c.if-join.false
    (omega (arith, roads_in_length c.args.self.count c.args.self.numbers.now, c.if-self-ge1024.true)))

pub returns : goal.returns
returns c =
    let before = roads_in c.args.self.count c.args.self.numbers.now in
    said_taken (road before c.args.row.now) _
    (road_taken before c.args.row.now _ _ _ _ c.in_ok-road.ensures c.if-road.false c.join.ensures c.if-join.false
    (omega (arith, roads_in_length c.args.self.count c.args.self.numbers.now, c.if-self-ge1024.false)))

-- `tables::roads::roads_from` meets its contract, turn by turn. Assumes nothing.
use Rattle.std.proofs.Common.{rules, Err, Ok}
use Prim.Native.Nat.{ℕ, ◌+◌, ◌*◌}
use native.Mathlib.Omega.{arith}
use mathlib.Core.Path.{◌≡◌, refl, ap, sym, ◌∙◌}
use mathlib.Core.List.{List, flat_map}
use lib.ListN.{length}
use lib.Seq.{sets}
use Rattle.floor.specs.declared.Table.TheVariants.{Roads}
use Rattle.floor.specs.declared.Road.{Road}
use Rattle.floor.specs.Roads.{road}
use Rattle.tables.specs.Arrays.{road_numbers, roads_in}
use Rattle.tables.specs.Reading.{said}
use Rattle.tables.proofs.Turns.{refused_why, first_turn, whole_refused, refused_number, taken_turn, accepted_there, flat_length}
use Rattle.tables.proofs.RoadRecords.{road_fits, road_says, roads_held, road_four_numbers}
use Rattle.tables.proofs.Indexes.{none_linked, no_roads, all_roads}
use Rattle.tables.proofs.roads.roads_from.Goals as goal
use Rattle.tables.proofs.roads.roads_from.Goals.{After-read, In_ok-road}

pub loop-row-init : goal.loop-row-init
loop-row-init c = rw c.into_iter-row-iterator.ensures.into_iter_gives (
  omega arith,
  refl,
  none_linked c.args.roads.now c.args.index.now c.requires.unlinked,
  first_turn road road_numbers _ c.args.roads.now c.requires.in_bounds.1,
)

-- what was said of the record whose turn it is, after those before it
judged : (c : After-read) → c.read.result ≡ said (road c.loop-row.invariant.3.before c.in-Some.row.now)
judged c =
    let u = c.loop-row.invariant.3 in
    c.read.ensures
    ∙ ap (λ (x : List Road). said (road x c.in-Some.row.now)) (ap (λ (k : ℕ). roads_in k c.loop-row.roads) (sym u.count) ∙ ap (roads_in (length u.before)) u.held ∙ roads_held _ u.before)

-- the road that it says
there : (c : In_ok-road) → c.read.result ≡ said (road c.loop-row.invariant.3.before c.in-Some.row.now)
    → road c.loop-row.invariant.3.before c.in-Some.row.now ≡ Ok c.in_ok-road.road
there c said_is =
    let read : c.read.result ≡ Ok c.in_ok-road.road = search rules in
    accepted_there _ c.in_ok-road.road (sym said_is ∙ read)

pub put_road-requires-clause-n_bound : goal.put_road-requires-clause-n_bound
put_road-requires-clause-n_bound c =
    let u = c.loop-row.invariant.3 in
    let few = road_fits u.before _ _ (there (goal.at.put_road-requires-clause-n_bound c).In_ok-road (judged (goal.at.put_road-requires-clause-n_bound c).After-read)) in
    (omega (arith, few, u.count), omega (arith, few, u.count, c.loop-row.invariant.1, c.requires.in_bounds.0))

pub returns-in_err-road : goal.returns-in_err-road
returns-in_err-road c =
    let u = c.loop-row.invariant.3 in
    let (why, read, q) = refused_why _ c.read.result c.map_err.result c.map_err.ensures.cases _ c.in_err-road.was in
    let f : c.in_err-road.field-0.0 ≡ record { reason = why; table = Roads; row = c.loop-row.n + 1 } = search rules in
    let is : c.from_residual.result ≡ Err c.in_err-road.field-0.0 = search rules in
    let e = refused_number road road_numbers _ _ _ _ _ u Roads _ why (road_says u.before _) (sym (judged (goal.at.returns-in_err-road c).After-read) ∙ read) in
    let (the-answer, (the-left, the-index)) = no_roads _ _ _ _ _ (whole_refused road road_numbers _ _ _ _ _ u _ _ c.in-Some.ensures.steps _ e) in
    record { answer = is ∙ ap Err f ∙ the-answer; left = the-left; index = the-index }

pub loop-row-preserved : goal.loop-row-preserved
loop-row-preserved c =
    let u = c.loop-row.invariant.3 in
    let e = there (goal.at.loop-row-preserved c).In_ok-road (judged (goal.at.loop-row-preserved c).After-read) in
    let size = flat_length road_numbers 4 road_four_numbers u.before in
    let place : 4 * c.loop-row.n ≡ length (flat_map road_numbers u.before) = omega (arith, size, u.count) in
    let put = c.put_road.ensures.left ∙ ap (λ (i : ℕ). sets c.loop-row.roads i (road_numbers c.in_ok-road.road)) place in
    let few = road_fits u.before _ _ e in (
      omega (arith, few, u.count),
      c.put_road.auto.roads ∙ c.loop-row.invariant.1,
      c.put_road.ensures.index,
      taken_turn road road_numbers _ _ _ c.loop-row.roads c.loop-row.n u _ _ c.in-Some.ensures.steps _ c.in_ok-road.road e
          (omega (arith, size, few, road_four_numbers c.in_ok-road.road, c.requires.in_bounds.0)) put,
    )

pub returns : goal.returns
returns c =
    let l = c.loop-row in
    let (the-answer, (the-left, the-index)) = all_roads _ _ _ _ _ _ l.invariant.3 c.in-None.ensures.steps.0 l.invariant.2 in
    record { answer = the-answer; left = the-left; index = the-index }

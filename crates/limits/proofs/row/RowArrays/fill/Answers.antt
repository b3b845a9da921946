-- `limits::row::RowArrays::fill` meets its contract. The loop's invariant: the visits put and those of the paths from the i-th on are all. Assumes nothing.
use Rattle.std.specs.Prelude.{ℕ, ◌+◌, ◌*◌, ◌-◌, ◌<◌, ◌++◌, map, List, length, drop, take}
use native.Mathlib.Omega.{arith}
use mathlib.Core.Path.{refl, ap, sym, ◌∙◌}
use mathlib.Core.List.{append-nil, append_assoc}
use Rattle.collisions.specs.Meetings.{paths_in}
use Rattle.network.specs.Events.{visits_of}
use Rattle.limits.specs.Counts.{total, moves, stop, stops, stops_in}
use Rattle.limits.specs.declared.row.Stop.{Stop}
use Rattle.limits.specs.Row.{visits_put}
use Rattle.limits.proofs.CountSteps.{moves_next, all_moves_none, paths_begin, stops_next, stops_done}
use Rattle.limits.proofs.row.RowArrays.fill.Goals as goal
use Rattle.limits.proofs.row.RowArrays.fill.Goals.{In-loop-i}

pub loop-i-init : goal.loop-i-init
unfolding stops_in
loop-i-init c =
    let p = c.args.kept.now.grid.paths in
    let r = c.args.self in
    let first = paths_begin p.carts p.steps p.cells.now in
    record {
      long = refl;
      count = omega (arith, c.requires.0, ap (total moves) first);
      visits = ap (λ (n : ℕ). stops_in r.numbers.now r.times.now r.places.now n 0 ++ stops 1 (paths_in (p.carts - 0) p.steps (drop (0 * p.steps) p.cells.now))) c.requires.0
          ∙ ap (stops 1) first;
    }

-- there is room for the visits of the i-th path
room : (c : In-loop-i) → let p = c.args.kept.now.grid.paths in c.loop-i.self.n + moves (take p.steps (drop (c.loop-i.i * p.steps) p.cells.now)) < length c.loop-i.self.numbers.now
room c =
    let k = c.args.kept.now in
    let p = k.grid.paths in
    let l = c.loop-i in
    omega (arith, l.invariant.long, l.invariant.count, c.requires.1, k.counted, moves_next p.carts l.i p.steps p.cells.now c.loop-i-test.true)

pub put_visits-requires-clause-visits_bound : goal.put_visits-requires-clause-visits_bound
put_visits-requires-clause-visits_bound c =
    let r = c.loop-i.self in
    let fits : r.n + moves c.path.result.now < length r.numbers.now = rw c.path.ensures (room (goal.at.put_visits-requires-clause-visits_bound c).In-loop-i) in
    fits

pub loop-i-preserved : goal.loop-i-preserved
loop-i-preserved c =
    let p = c.args.kept.now.grid.paths in
    let l = c.loop-i in
    let put = map (stop (l.i + 1)) (visits_of (take p.steps (drop (l.i * p.steps) p.cells.now))) in
    let rest = stops (l.i + 1 + 1) (paths_in (p.carts - (l.i + 1)) p.steps (drop ((l.i + 1) * p.steps) p.cells.now)) in
    record {
      long = c.put_visits.ensures.long ∙ l.invariant.long;
      count = omega (arith, c.put_visits.ensures.count, ap moves c.path.ensures, l.invariant.count, moves_next p.carts l.i p.steps p.cells.now c.loop-i-test.true);
      visits = ap (λ (r : List Stop). r ++ rest) (c.put_visits.ensures.visits ∙ ap (λ (q : List ℕ). visits_put l.self ++ map (stop (l.i + 1)) (visits_of q)) c.path.ensures)
          ∙ append_assoc (visits_put l.self) put rest
          ∙ ap (λ (r : List Stop). visits_put l.self ++ r) (sym (stops_next p.carts l.i p.steps p.cells.now c.loop-i-test.true))
          ∙ l.invariant.visits;
    }

pub returns-clause-visits : goal.returns-clause-visits
returns-clause-visits c =
    let p = c.args.kept.now.grid.paths in
    let l = c.loop-i in
    sym (append-nil (visits_put l.self))
    ∙ ap (λ (r : List Stop). visits_put l.self ++ r) (sym (stops_done p.carts l.i p.steps (l.i + 1) (drop (l.i * p.steps) p.cells.now) c.loop-i-test.false))
    ∙ l.invariant.visits

pub returns-clause-count : goal.returns-clause-count
returns-clause-count c =
    let k = c.args.kept.now in
    let p = k.grid.paths in
    let l = c.loop-i in
    omega (arith, l.invariant.count, k.counted, all_moves_none p.carts l.i p.steps (drop (l.i * p.steps) p.cells.now) c.loop-i-test.false)

-- `limits::filling::put_visits` meets its contract. The loop's invariant: the visits put and those from step `s` on, after cell `c`, are those put at
-- first and the path's. Assumes nothing.
use Rattle.std.specs.Prelude.{ℕ, ◌+◌, ◌++◌, map, List, drop, get_or}
use native.Mathlib.Omega.{arith}
use mathlib.Core.Path.{ap, sym, ◌∙◌}
use mathlib.Core.List.{append-nil}
use lib.ListN.{length}
use Rattle.network.specs.Events.{Visit, visits_after}
use Rattle.limits.specs.Counts.{stop}
use Rattle.limits.specs.declared.row.RowArrays.{RowArrays}
use Rattle.limits.specs.Row.{visits_put}
use Rattle.limits.proofs.CountSteps.{moves_begin, moves_stay, moves_go, moves_end, visits_begin, visits_stay, visits_go, visits_end, put_next}
use Rattle.limits.proofs.filling.put_visits.Goals as goal
use Rattle.limits.proofs.filling.put_visits.Goals.{then-c-d, else-c-d}

pub loop-s-init : goal.loop-s-init
unfolding stop
loop-s-init c =
    let a = c.args in
    let p = a.path.now in
    let d : ℕ = get_or p 0 0 in
    record {
      long = c.push.ensures.long;
      count = omega (arith, c.push.ensures.count, moves_begin p c.requires.path_bound.0);
      visits = put_next (visits_put a.row.now) (visits_put c.push.new.self) a.j (record { step = 0; cell = d }) (visits_after d 1 (drop 1 p)) c.push.ensures.visits
          ∙ ap (λ (v : List Visit). visits_put a.row.now ++ map (stop a.j) v) (sym (visits_begin p c.requires.path_bound.0));
    }

pub push-requires-then-c-d : goal.push-requires-then-c-d
push-requires-then-c-d c =
    let l = c.loop-s in
    omega (arith, l.invariant.long, l.invariant.count, c.requires.visits_bound, moves_go c.args.path.now l.c l.s c.loop-s-test.true c.if-c-d.true)

pub loop-s-preserved : goal.loop-s-preserved
unfolding stop
loop-s-preserved c =
    let a = c.args in
    let p = a.path.now in
    let l = c.loop-s in
    let d : ℕ = get_or p l.s 0 in
    let vs : List Visit = visits_after d (l.s + 1) (drop (l.s + 1) p) in
    elim c.if-c-d.branch [
      | then-c-d w ↦ record {
        long = ap (λ (r : RowArrays). length r.numbers.now) w.row-is ∙ w.push-then-c-d.ensures.long ∙ l.invariant.long;
        count = omega (arith, ap (λ (r : RowArrays). r.n) w.row-is, w.push-then-c-d.ensures.count, l.invariant.count, moves_go p l.c l.s c.loop-s-test.true w.if-c-d.true);
        visits = put_next (visits_put l.row) (visits_put c.if-c-d.row) a.j (record { step = l.s; cell = d }) vs (ap (λ (r : RowArrays). visits_put r) w.row-is ∙ w.push-then-c-d.ensures.visits)
            ∙ ap (λ (v : List Visit). visits_put l.row ++ map (stop a.j) v) (sym (visits_go p l.c l.s c.loop-s-test.true w.if-c-d.true))
            ∙ l.invariant.visits;
      }
      | else-c-d w ↦ record {
        long = ap (λ (r : RowArrays). length r.numbers.now) w.row-is ∙ l.invariant.long;
        count = omega (arith, ap (λ (r : RowArrays). r.n) w.row-is, l.invariant.count, moves_stay p l.c l.s c.loop-s-test.true w.if-c-d.false);
        visits = ap (λ (r : RowArrays). visits_put r ++ map (stop a.j) vs) w.row-is
            ∙ ap (λ (v : List Visit). visits_put l.row ++ map (stop a.j) v) (sym (visits_stay p l.c l.s c.loop-s-test.true w.if-c-d.false))
            ∙ l.invariant.visits;
      }
    ]

pub returns-clause-visits : goal.returns-clause-visits
returns-clause-visits c =
    let l = c.loop-s in
    sym (append-nil (visits_put l.row))
    ∙ ap (λ (v : List Visit). visits_put l.row ++ map (stop c.args.j) v) (sym (visits_end c.args.path.now l.c l.s c.loop-s-test.false))
    ∙ l.invariant.visits

pub returns-clause-count : goal.returns-clause-count
returns-clause-count c = let l = c.loop-s in omega (arith, l.invariant.count, moves_end c.args.path.now l.c l.s c.loop-s-test.false)

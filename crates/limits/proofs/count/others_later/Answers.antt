-- `limits::count::others_later` meets its contract. The loop's invariant: the carts counted and those of the last `left` visits are all, and the
-- visit at hand is of the remainder looked for. Assumes nothing.
use Rattle.std.specs.Prelude.{ℕ, ◌≡◌, ◌-◌, ◌<◌, List, get_or}
use native.Mathlib.Omega.{arith}
use mathlib.Core.Path.{ap, sym, ◌∙◌}
use Rattle.limits.specs.Counts.{counts, later_carts, stop_at, stops_in}
use Rattle.limits.specs.declared.row.Stop.{Stop}
use Rattle.limits.specs.Row.{visits_in}
use Rattle.limits.proofs.Chains.{chain_goes, chain_counts, chain_passes}
use Rattle.limits.proofs.count.others_later.Goals as goal
use Rattle.limits.proofs.count.others_later.Goals.{then-is_counted, else-is_counted}

pub loop-left-smaller : goal.loop-left-smaller
loop-left-smaller c =
    let h = c.args.chain.now in
    let r = h.row in
    let l = c.loop-left in
    let t : 0 < l.left = c.loop-left-test.true in
    (chain_goes r.numbers.now r.times.now r.places.now r.n h.heads.now h.nexts.now h.chained c.at-x.result l.left t l.invariant.within (l.invariant.here t) c.from-left-in-loop-left.result c.from-left-in-loop-left.ensures).0

pub loop-left-preserved : goal.loop-left-preserved
unfolding stop_at
loop-left-preserved c =
    let h = c.args.chain.now in
    let r = h.row in
    let l = c.loop-left in
    let v : Stop = c.at-x.result in
    let next : ℕ = c.from-left-in-loop-left.result in
    let rest : List Stop = stops_in r.numbers.now r.times.now r.places.now next (r.n - next) in
    let t : 0 < l.left = c.loop-left-test.true in
    let e : counts v l.k (stop_at r.numbers.now r.times.now r.places.now (r.n - l.left)) ≡ c.is_counted.result = ap (counts v l.k) (sym c.at-y.ensures) ∙ sym c.is_counted.ensures in
    let y : c.at-y.result.cart ≡ get_or r.numbers.now (r.n - l.left) 0 = ap (λ (s : Stop). s.cart) c.at-y.ensures in
    let (less, same) = chain_goes r.numbers.now r.times.now r.places.now r.n h.heads.now h.nexts.now h.chained v l.left t l.invariant.within (l.invariant.here t) next c.from-left-in-loop-left.ensures in
    elim c.if-is_counted.branch [
      | then-is_counted w ↦ record {
        within = omega (arith, less);
        few = omega (arith, less, w.count-is);
        here = same;
        all = omega (
          arith,
          w.count-is,
          ap (λ (k : ℕ). later_carts v k rest) (w.k-is ∙ y),
          chain_counts r.numbers.now r.times.now r.places.now r.n h.heads.now h.nexts.now h.chained v l.left t l.invariant.within (l.invariant.here t) next c.from-left-in-loop-left.ensures l.k (e ∙ w.if-is_counted.true),
        );
      }
      | else-is_counted w ↦ record {
        within = omega (arith, less);
        few = omega (arith, less, w.count-is);
        here = same;
        all = omega (
          arith,
          w.count-is,
          ap (λ (k : ℕ). later_carts v k rest) w.k-is,
          chain_passes r.numbers.now r.times.now r.places.now r.n h.heads.now h.nexts.now h.chained v l.left t l.invariant.within (l.invariant.here t) next c.from-left-in-loop-left.ensures l.k (e ∙ w.if-is_counted.false),
        );
      }
    ]

pub returns : goal.returns
unfolding later_carts stops_in
returns c =
    let r = c.args.chain.now.row in
    let l = c.loop-left in
    let v : Stop = c.at-x.result in
    let none : l.left ≡ 0 = omega arith in
    let all : l.count ≡ later_carts v 0 (visits_in r) =
    omega (arith, ap (λ (m : ℕ). later_carts v l.k (stops_in r.numbers.now r.times.now r.places.now m (r.n - m))) none, l.invariant.all) in
    all ∙ ap (λ (s : Stop). later_carts s 0 (visits_in r)) c.at-x.ensures

-- `limits::orders::put_skips` meets its contract. The loop's invariant: those of the visits from `u` on are put. Assumes nothing.
use Rattle.std.specs.Prelude.{◌≡◌, ◌-◌, ◌≤◌, ◌<◌, get_or}
use native.Mathlib.Omega.{arith}
use mathlib.Core.Path.{sym, ◌∙◌, subst}
use Rattle.limits.specs.Counts.{Skipped}
use Rattle.limits.proofs.Skips.{same_some, none_skipped, low_at, one_skipped}
use Rattle.limits.proofs.orders.put_skips.Goals as goal
use Rattle.limits.proofs.orders.put_skips.Goals.{In-loop-u, Then-is_same_cart, then-is_same_cart, else-is_same_cart}

-- the next visit is one of those after it
low : (c : In-loop-u) → let a = c.args in get_or a.nexts.now (c.loop-u.u - 1) 0 ≤ a.row.now.n - c.loop-u.u
low c = let r = c.args.row.now in low_at r.numbers.now c.args.nexts.now r.n c.requires.by_index c.loop-u.u (omega arith) c.loop-u.invariant.within

pub loop-u-init : goal.loop-u-init
loop-u-init c =
    let r = c.args.row.now in
    let none : 0 ≡ r.n - r.n = omega arith in
    record {
      within = omega arith;
      done = subst (Skipped r.numbers.now c.args.nexts.now c.args.skips.now r.n) none (none_skipped r.numbers.now c.args.nexts.now r.n c.requires.by_index c.args.skips.now);
    }

pub is_same_cart-requires : goal.is_same_cart-requires
is_same_cart-requires c = (omega (arith, c.loop-u.invariant.within), omega (arith, low (goal.at.is_same_cart-requires c).In-loop-u))

-- and there is one, where it is of the same cart
some : (c : Then-is_same_cart) → 0 < c.from-next.result
some c =
    let r = c.args.row.now in
    same_some r.numbers.now r.n (c.loop-u.u - 1) c.from-next.result (sym c.if-is_same_cart.true ∙ c.is_same_cart.ensures)

pub overflow_sub-skips : goal.overflow_sub-skips
overflow_sub-skips c = omega (arith, low (goal.at.overflow_sub-skips c).In-loop-u)

pub bounds-skips-row : goal.bounds-skips-row
bounds-skips-row c =
    omega (arith, low (goal.at.bounds-skips-row c).In-loop-u, some (goal.at.bounds-skips-row c).Then-is_same_cart, c.loop-u.auto.skips, c.requires.n_in_bounds)

pub loop-u-preserved : goal.loop-u-preserved
loop-u-preserved c =
    let r = c.args.row.now in
    let l = c.loop-u in
    let put = one_skipped r.numbers.now c.args.nexts.now r.n c.requires.by_index l.skips l.u l.invariant.done (omega arith) l.invariant.within
    (omega (arith, l.auto.skips, c.requires.n_in_bounds)) c.from-next.result c.from-next.ensures c.is_same_cart.result c.is_same_cart.ensures c.if-is_same_cart.skips in
    record {
      within = omega (arith, l.invariant.within);
      done = elim c.if-is_same_cart.branch [
        | then-is_same_cart w ↦ put (simp w.if-is_same_cart.true w.skips-is)
        | else-is_same_cart w ↦ put (simp w.if-is_same_cart.false w.skips-is)
      ];
    }

pub returns : goal.returns
returns c =
    let r = c.args.row.now in
    let all : r.n - c.loop-u.u ≡ r.n = omega arith in
    subst (Skipped r.numbers.now c.args.nexts.now c.loop-u.skips r.n) all c.loop-u.invariant.done

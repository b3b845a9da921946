-- `slice::parts::find_parts` meets its contract: there is nothing else exactly where zeros follow each text and the times. Assumes nothing.
use native.Mathlib.Omega.{arith}
use mathlib.Core.Path.{sym, subst}
use mathlib.Core.List.{List}
use Prim.Native.Nat.{ℕ, ◌≤◌}
use lib.ListN.{length, drop}
use lib.Seq.{length-take-le}
use Rattle.slice.proofs.Laid.{part_most, layout_found}
use Rattle.slice.proofs.parts.find_parts.Goals as goal

pub slice_bounds-tables-end : goal.slice_bounds-tables-end
slice_bounds-tables-end c =
    sym (length-take-le 65_536 c.args.plan.now (omega (arith, c.requires)))

pub find_texts-requires : goal.find_texts-requires
find_texts-requires c =
    let a = c.args in
    subst (λ (x : List ℕ). length x ≤ 4096) (sym c.log.ensures.carts) (part_most 4096 (drop 196_608 a.plan.now))

pub returns : goal.returns
returns c =
    layout_found c.args.plan.now c.requires (λ i. omega (arith, c.shared_slice_known-1.given i)) _ _ _ _
    c.part.ensures c.part-2.ensures c.log.ensures.carts c.log.ensures.times _ c.find_texts.ensures

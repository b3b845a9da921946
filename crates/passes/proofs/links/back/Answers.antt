-- `passes::links::back` meets its contract: after j steps, it is j steps back.
-- Assumes nothing.
use Prim.Native.Nat.{ℕ}
use mathlib.Core.Path.{refl, sym, ◌∙◌, subst}
use mathlib.Core.Logic.{◌≢◌}
use lib.ListN.{get_or}
use Rattle.std.specs.Prelude.{None}
use Rattle.walks.specs.Parents.{repeated}
use Rattle.passes.proofs.Backward.{ps, some_told, told_some, back_low, back_more}
use Rattle.passes.proofs.links.back.Goals as goal

pub loop-j-init : goal.loop-j-init
unfolding repeated
loop-j-init c = refl

pub invariant_of-here : goal.invariant_of-here
invariant_of-here c =
    record { there = back_low c.args.event.parents.now c.args.event.v c.args.event.there c.loop-j._j c.loop-j.x c.loop-j.invariant }

pub unwrap-c-requires : goal.unwrap-c-requires
unwrap-c-requires c =
    some_told c.args.event.parents.now c.loop-j.x c.parent.result c.parent.ensures
    (subst (λ (y : ℕ). get_or (ps c.args.event.parents.now) y None ≢ None) (sym c.loop-j.invariant) (c.requires.parented c.loop-j._j))

pub loop-j-preserved : goal.loop-j-preserved
loop-j-preserved c =
    let p = c.args.event.parents.now in
    c.start_of-x.ensures
    ∙ back_more p c.args.event.v c.args.event.there c.loop-j._j c.loop-j.x c.loop-j.invariant c.unwrap-c.result
    (told_some p c.loop-j.x c.unwrap-c.result c.parent.result c.parent.ensures c.unwrap-c.ensures).0

-- `slice::texts` meets its contract. Assumes nothing.
use Rattle.std.proofs.Common.{◌∙◌, ap, List, ℕ, take, drop}
use Rattle.slice.specs.Texts.{texts_in}
use Rattle.slice.proofs.texts.Goals as goal

pub returns : goal.returns
unfolding texts_in
returns c =
    let r : List ℕ = take c.args.layout.roads c.args.plan.now in
    ap (λ (x : List ℕ). record { roads = r; carts = x; paths = c.part-2.result.now }) c.part.ensures
    ∙ ap (λ (x : List ℕ). record { roads = r; carts = take c.args.layout.carts (drop 65_536 c.args.plan.now); paths = x }) c.part-2.ensures

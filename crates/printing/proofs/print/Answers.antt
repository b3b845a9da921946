-- `printing::print` meets its contract, on all input. Assumes nothing.
use Rattle.std.proofs.Common.{rules}
use native.Mathlib.Omega.{arith}
use native.Mathlib.Nat.{min-eq_left}
use mathlib.Core.Path.{ap, ◌∙◌}
use Rattle.std.specs.Prelude.{ℕ, ◌+◌, ◌≤◌, List, length, Some}
use Rattle.network.proofs.BoundStores.{front_stored}
use Rattle.tables.specs.Lending.{tables_of}
use Rattle.printing.specs.Output.{output}
use Rattle.printing.proofs.Outcomes.{output_most, print_short, print_whole}
use Rattle.printing.proofs.print.Goals as goal

pub returns-then-out-lt348245 : goal.returns-then-out-lt348245
returns-then-out-lt348245 c = simp (print_short (tables_of c.args.tables) c.args.out.now c.if-out-lt348245.true) (search rules)

pub returns : goal.returns
returns c =
    let text : List ℕ = output (tables_of c.args.tables) in
    let e = c.put_output.ensures in
    let fits : length text ≤ length c.args.out.now = omega (arith, output_most (tables_of c.args.tables), c.if-out-lt348245.false) in
    simp (print_whole (tables_of c.args.tables) c.args.out.now c.if-out-lt348245.false) (record {
      answer = ap Some (omega (arith, e.behind, min-eq_left {n = 0 + length text} {m = length c.args.out.now} (omega (arith, fits))));
      left = search rules ∙ e.stored ∙ front_stored text c.args.out.now fits;
    })

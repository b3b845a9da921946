-- `hegtalim::store_tables` meets its contract. Assumes nothing.
use Rattle.std.proofs.Common.{rules}
use native.Mathlib.Omega.{arith}
use lib.ListN.{length}
use Rattle.tables.specs.Lending.{tables_of}
use Rattle.hegtalim.proofs.Storing.{tables_stored}
use Rattle.hegtalim.proofs.store_tables.Goals as goal

pub returns : goal.returns
returns c =
    let a = c.args in
    let long = c.requires.roads_len_bound in
    tables_stored (length a.plan.now) _ _ (tables_of a.tables) a.plan.now _ _ _ c.requires.in_bounds.0 long.0 long.1 long.2
    c.requires.in_bounds.1 (search rules) (search rules) (search rules) (omega arith) (omega arith)

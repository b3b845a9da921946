-- All definitions of this crate and of those below it, opened for a proof that computes with them.
-- Assumes nothing.
use Rattle.rfc4180.specs.Open.{open_rfc4180}
use Rattle.floor.specs.Refusal.{open_refusal}
use Rattle.floor.specs.Plan.{open_plan}
use Rattle.floor.specs.Roads.{open_roads}
use Rattle.floor.specs.Carts.{open_carts}
use Rattle.floor.specs.Paths.{open_paths}
use Rattle.floor.specs.Tables.{open_tables}
use Rattle.floor.specs.Examples.{open_examples}

unfoldable pub open_floor : Unit {0}
unfolding open_rfc4180 open_refusal open_plan open_roads open_carts open_paths open_tables open_examples
open_floor = tt

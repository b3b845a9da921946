-- `tables::bucket_of` meets its contract. Assumes nothing.
use Rattle.std.proofs.Common.{refl, arith}
use Rattle.tables.specs.Index.{bucket}
use Rattle.tables.proofs.bucket_of.Goals as goal

pub returns : goal.returns
unfolding bucket
returns c = (rw (c.from.ensures, c.from-2.ensures) refl, omega arith)

-- `passes::sweeping::raise` meets its contract: a code that is stored is one of the bounds.
-- Assumes nothing.
use Rattle.std.proofs.Common.{rules}
use Rattle.passes.specs.Networks.{bounds_of}
use Rattle.passes.proofs.Codes.{set_coded}
use Rattle.passes.proofs.sweeping.raise.Goals as goal

pub returns-then-sum-lt-MOST : goal.returns-then-sum-lt-MOST
returns-then-sum-lt-MOST c =
    let k = c.requires.kept in record {
      long = search rules;
      parents_long = search rules;
      range = search rules;
      coded = set_coded (bounds_of c.args.net.now) c.args.parents.now c.args.arc.to c.args.arc.code c.requires.arc.coded k.coded;
    }

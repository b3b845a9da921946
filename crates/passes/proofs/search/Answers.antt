-- `passes::search` meets its contract: what is found is written, or nothing is.
-- Assumes nothing.
use Rattle.std.specs.Prelude.{Some}
use Rattle.passes.specs.Solving.{Searched, search_solves, search_nothing}
use Rattle.passes.specs.Networks.{bounds_of}
use Rattle.passes.specs.Lending.{room_of}
use Rattle.passes.proofs.search.Goals as goal

pub returns-in_err-found-clause-searched : goal.returns-in_err-found-clause-searched
returns-in_err-found-clause-searched c = rw c.from_residual.ensures search_nothing

pub returns-clause-searched : goal.returns-clause-searched
returns-clause-searched c =
    let net = c.left.result.net.now in
    let solved : Searched net.own net.events (bounds_of net) (room_of c.args.room.now) (Some c.write_found.result) (room_of c.write_found.new.room) =
    search_solves c.write_found.result (room_of c.write_found.new.room) c.write_found.ensures.solves in
    rw (c.left.ensures.0, c.quick.ensures.same) at solved

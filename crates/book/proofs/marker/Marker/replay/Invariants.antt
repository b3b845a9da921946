-- `book::marker::Marker::replay` meets its contract: each report in its turn is accepted, or there is no book. Assumes nothing.
use Rattle.std.specs.Prelude.{◌≡◌, length}
use Rattle.floor.specs.Plan.{Plan}
use Rattle.book.specs.Replaying.{Firsts}
use Rattle.book.proofs.Replays.{Before}
use Rattle.book.proofs.marker.Marker.replay.Given as goal

abbrev pub invariant-loop-i : goal.invariant-loop-i
invariant-loop-i l =
    let m = l.initial.self in
    record {
      firsts : l.self.firsts ≡ m.firsts;
      carts : l.self.carts ≡ m.carts;
      long : length l.self.counts ≡ 64;
      before : (p : Plan) → Firsts p m.carts m.firsts → Before p m.carts l.log.carts.now l.log.times.now l.self.counts l.self.clock l.i;
    }

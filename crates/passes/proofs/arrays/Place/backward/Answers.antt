-- `passes::arrays::Place::backward` meets its contract: the bound is there, and its hi, if it has one, is small.
-- Assumes nothing.
use Prim.Native.Nat.{◌+◌, ◌*◌}
use native.Mathlib.Omega.{arith}
use mathlib.Core.Path.{◌≡◌, refl, ap}
use Rattle.std.specs.Prelude.{Some}
use Rattle.walks.specs.Walks.{Arc}
use Rattle.schedule.specs.Timetable.{forward, backward, ways}
use Rattle.passes.specs.Networks.{bound_of}
use Rattle.passes.proofs.Networks.{backward_code}
use Rattle.passes.proofs.BothWays.{back_is}
use Rattle.passes.proofs.arrays.Place.backward.Goals as goal

pub returns : goal.returns
unfolding ways forward backward
returns c =
    let b = bound_of c.args.self.net.now c.args.self.i in
    let o = c.requires.of in
    let hi : b.hi ≡ Some c.in_ok-hi.hi = c.in_ok-hi.ensures.0 in
    let from : c.args.onward.from ≡ b.from = ap (λ (a : Arc). a.from) c.requires.is in
    let to : c.args.onward.to ≡ b.to = ap (λ (a : Arc). a.to) c.requires.is in
    let code : c.args.onward.code + 1 ≡ 2 * c.args.self.i + 2 = omega (arith, o.code_is) in (
      rw (hi, back_is c.in_ok-hi.hi c.in_ok-hi.ensures.1, from, to) refl,
      record {
        code_is = code;
        coded = rw code (backward_code c.args.self.net.now c.args.self.i c.args.self.there c.in_ok-hi.hi hi);
        from_in = o.to_in;
        to_in = o.from_in;
      },
    )

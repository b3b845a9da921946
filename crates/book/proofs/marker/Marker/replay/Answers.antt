-- `book::marker::Marker::replay` meets its contract: each report in its turn is accepted, or there is no book. Assumes nothing.
use Rattle.std.specs.Prelude.{length, None}
use lib.ListN.{length-set}
use native.Mathlib.Omega.{arith}
use Rattle.std.proofs.Common.{rules}
use mathlib.Core.Path.{◌≡◌, refl, ap, ◌∙◌}
use Rattle.std.proofs.lemmas.Result.{MatchResult-from_err}
use Rattle.schedule.specs.Book.{first_book, replay}
use Rattle.book.specs.Log.{log_of}
use Rattle.book.proofs.Replays.{before_first, stopped, before_next, replayed}
use Rattle.book.proofs.marker.Marker.replay.Goals as goal

pub loop-i-init : goal.loop-i-init
loop-i-init c =
    let m = c.args.self.now in record {
      firsts = refl;
      carts = refl;
      long = search rules;
      before = λ p f. before_first p m.carts m.firsts _ _ f m.counts m.few c.requires.0 m.clock c.requires.1;
    }

pub returns-in_err-take_report-clause-answer : goal.returns-in_err-take_report-clause-answer
returns-in_err-take_report-clause-answer c =
    let m = c.args.self.now in
    let l = c.loop-i in
    let log = c.args.log in
    λ p f. MatchResult-from_err c.from_residual.result _ (λ _. replay p (first_book p) (log_of log) ≡ None) c.from_residual.ensures.0
    (λ _. stopped p m.carts m.firsts log.carts.now log.times.now f l.self.counts l.self.clock l.i (l.invariant.before p f) c.loop-i-test.true
    c.from.result c.get64-t.result c.from.ensures c.get64-t.ensures (cc (c.in_err-take_report.ensures.answer)))

pub loop-i-preserved : goal.loop-i-preserved
loop-i-preserved c =
    let m = c.args.self.now in
    let l = c.loop-i in
    let log = c.args.log in
    let new = c.take_report.new.self in
    let e = c.in_ok-take_report.ensures in
    record {
      firsts = cc;
      carts = cc;
      long = ap length e.left ∙ simp length-set l.invariant.long;
      before = λ p f. before_next p m.carts m.firsts _ _ f l.self.counts l.self.clock l.i (l.invariant.before p f) c.loop-i-test.true
          c.from.result c.get64-t.result c.from.ensures c.get64-t.ensures (cc (e.answer)) (omega (arith, l.invariant.long, m.few)) new.counts e.left new.clock e.clock;
    }

pub returns-clause-answer : goal.returns-clause-answer
returns-clause-answer c =
    let m = c.args.self.now in
    let l = c.loop-i in
    λ p f. replayed p m.carts _ _ l.self.counts l.self.clock l.i (l.invariant.before p f) c.loop-i-test.false

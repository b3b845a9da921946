-- `book::marker::Marker::read` meets its contract: the paths do not fit, a report is refused, or there is a book. Assumes nothing.
use Rattle.std.specs.Prelude.{◌≡◌, true, None}
use mathlib.Core.Path.{sym, ◌∙◌}
use native.Mathlib.Omega.{arith}
use Rattle.std.proofs.Common.{rules}
use Rattle.std.proofs.lemmas.Grind.{common_steps}
use Rattle.limits.specs.OfPaths.{plan_of}
use Rattle.limits.specs.Orders.{events_fit}
use Rattle.book.specs.Log.{log_of, book_of}
use Rattle.book.specs.Replaying.{Firsts, Replayed}
use Rattle.book.proofs.Fitting.{no_book, fits_few, firsts_kept, refused_book, accepted_book}
use Rattle.book.proofs.marker.Marker.read.Goals as goal
use Rattle.book.proofs.marker.Marker.read.Goals.{Else-not-first_events}

pub returns-then-not-first_events : goal.returns-then-not-first_events
returns-then-not-first_events c =
    let p = c.args.paths in no_book p.carts p.steps p.cells.now c.args.log.carts.now c.args.log.times.now (sym c.first_events.ensures.answer ∙ c.if-not-first_events.true)

-- the paths fit
fits : (c : Else-not-first_events) → let p = c.args.paths in events_fit p.carts p.steps p.cells.now 65 ≡ true
fits c = sym c.first_events.ensures.answer ∙ c.if-not-first_events.false

-- their first events are kept
kept : (c : Else-not-first_events) → let p = c.args.paths in Firsts (plan_of p) p.carts c.first_events.new.firsts
kept c = firsts_kept c.args.paths c.args.log c.first_events.new.firsts (fits c) c.first_events.ensures.left

pub invariant_of-marker : goal.invariant_of-marker
invariant_of-marker c =
    let p = c.args.paths in record { few = fits_few p.carts p.steps p.cells.now (fits (goal.at.invariant_of-marker c).Else-not-first_events) }

pub returns-in_err-ok : goal.returns-in_err-ok
returns-in_err-ok c =
    let e = (goal.at.returns-in_err-ok c).Else-not-first_events in
    let a = c.replay.ensures.answer (plan_of c.args.paths) (kept e) in
    let none : book_of c.args.paths c.args.log ≡ None = refused_book c.args.paths c.args.log c.first_events.new.firsts (fits e) c.first_events.ensures.left (grind (arith, a, common_steps)) in
    search (rules, none)

pub returns : goal.returns
returns c =
    let e = (goal.at.returns c).Else-not-first_events in
    let p = c.args.paths in
    let m = c.replay.new.self in
    let (firsts, carts) = c.replay.ensures.same in
    let r : Replayed (plan_of p) (log_of c.args.log) p.carts m.counts m.clock = grind (arith, c.replay.ensures.answer (plan_of p) (kept e), common_steps) in
    rw (firsts, carts) (accepted_book p c.args.log c.first_events.new.firsts (fits e) c.first_events.ensures.left m.counts m.clock r)

-- `printing::events::Lines::path` meets its contract: the line of the first cell, then three for each move. Assumes nothing.
use Rattle.std.proofs.Common.{rules}
use mathlib.Core.Path.{◌≡◌, sym, subst}
use Rattle.std.specs.Slice.Iter.{windows_rest}
use Rattle.bounds.proofs.Moves.{Stepped}
use Rattle.printing.proofs.PathSteps.{OnPath, path_begins, path_waits, path_few, path_moves, path_ends}
use Rattle.printing.proofs.events.Lines.path.Goals as goal
use Rattle.printing.proofs.events.Lines.path.Goals.{In-Some}

-- two cells next to each other
stepped : (c : In-Some) → Stepped (windows_rest c.loop-step.step-iterator) c.in-Some.step.now (windows_rest c.next.new.self)
stepped c = search rules

pub loop-step-init : goal.loop-step-init
loop-step-init c =
    let a = c.args in
    let whole : windows_rest c.into_iter-step-iterator.result ≡ a.path.now = search rules in
    record { pairs = search rules; path = subst (OnPath a.self.now a.cart a.path.now c.point.new.self) (sym whole) (path_begins a.self.now a.cart a.path.now c.point.new.self c.requires.some c.point.ensures) }

pub moves-requires : goal.moves-requires
moves-requires c = path_few c.loop-step.invariant.path (stepped (goal.at.moves-requires c).In-Some) c.if-step.true c.requires.few

pub loop-step-preserved-then-step : goal.loop-step-preserved-then-step
loop-step-preserved-then-step c =
    record { pairs = search rules; path = path_moves c.loop-step.invariant.path (stepped (goal.at.loop-step-preserved-then-step c).In-Some) c.if-step.true c.moves.ensures }

pub loop-step-preserved : goal.loop-step-preserved
loop-step-preserved c = record { pairs = search rules; path = path_waits c.loop-step.invariant.path (stepped (goal.at.loop-step-preserved c).In-Some) c.if-step.false }

pub returns : goal.returns
returns c = path_ends c.loop-step.invariant.path (search rules)

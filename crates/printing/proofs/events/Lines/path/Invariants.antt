-- `printing::events::Lines::path` meets its contract: the line of the first cell, then three for each move. Assumes nothing.
use Rattle.std.specs.Prelude.{◌≡◌}
use Rattle.std.specs.Slice.Iter.{windows_size, windows_rest}
use Rattle.printing.proofs.PathSteps.{OnPath}
use Rattle.printing.proofs.events.Lines.path.Given as goal

abbrev pub invariant-loop-step : goal.invariant-loop-step
invariant-loop-step l =
    record {
      pairs : windows_size l.step-iterator ≡ 2;
      path : OnPath l.fn.self l.cart l.path l.self (windows_rest l.step-iterator);
    }

-- `printing::events::put_times` meets its contract: a first line, the start, the paths and the finish. Assumes nothing.
use Rattle.std.proofs.Common.{rules}
use Prim.Native.Nat.{◌+◌, ◌*◌}
use mathlib.Core.List.{◌++◌}
use Rattle.rfc4180.specs.Text.{bytes}
use Rattle.collisions.specs.Meetings.{paths_of}
use Rattle.limits.specs.OfPaths.{moves_of}
use Rattle.printing.specs.Lines.{outer_line, paths_lines, lines_text}
use Rattle.printing.proofs.Puts.{puts_then, puts_to, prints_then}
use Rattle.printing.proofs.events.put_times.Goals as goal

pub returns : goal.returns
unfolding bytes lines_text
returns c =
    let a = c.args.paths in
    let ps = paths_lines 1 (paths_of a) in
    let last = prints_then ps outer_line c.paths.ensures c.outer-2.ensures in
    let all = prints_then outer_line (λ time e. ps time e ++ outer_line time (e + (a.carts + 3 * moves_of a))) c.outer.ensures last in
    puts_to (puts_then c.text.ensures all.puts) (search rules)
